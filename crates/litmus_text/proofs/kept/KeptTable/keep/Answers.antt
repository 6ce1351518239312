-- What is kept is that of the table of the test.
use Rattle.litmus_text.proofs.{Vocabulary.{all_texts, ap, columns_of, map, row_count, take, thread_code_of, width_of, ◌∙◌}, TableLaws.rows_are}
use Rattle.litmus_text.proofs.kept.KeptTable.keep.Goals as goal

pub returns : goal.returns
returns g c =
    let w = g.A.Arch.writing in
    let places = c.args.test.now.places in
    record {
      texts = c.set_widths.ensures.kept ∙ ap (λ threads. take 128 (all_texts (columns_of w places (map thread_code_of threads)))) c.as_slice-threads.ensures.value;
      widths = c.set_widths.ensures.widths ∙ ap (λ threads. map width_of (columns_of w places (map thread_code_of threads))) c.as_slice-threads.ensures.value;
      rows = c.row_count-self-inside.ensures ∙ rows_are w places c.as_slice-threads.result.now ∙ ap (λ threads. row_count (columns_of w places (map thread_code_of threads))) c.as_slice-threads.ensures.value;
      short = c.set_widths.ensures.short;
    }
