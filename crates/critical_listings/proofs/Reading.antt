-- The text of the relaxations is read as the ten, by computing.
use Rattle.std.proofs.Common.{refl}
use Rattle.relax_edges.specs.{Order.rank_of, AllEdges.edges_in_order, Spelling.edge_of}
use Rattle.edges_from_text.specs.{RelaxText.items_of, Relaxations.{word_edges, distinct, item_errors, relaxes_of}}
use Rattle.critical_listings.specs.Relaxes.{TextIsRead}

-- the text is read as the ten relaxations
pub text_is_read : TextIsRead
unfolding rank_of edges_in_order edge_of word_edges distinct item_errors items_of relaxes_of
text_is_read = refl
