-- The text up to the first end of a word is the word that the text begins with.
use Rattle.edges_from_text.proofs.Prefixes.{first_word}
use Rattle.edges_from_text.proofs.relax_items.first_word.Goals as goal

pub returns : goal.returns
returns c = first_word c.args.text.now c.run_len.result c.requires c.run_len.ensures.value
