-- That `read_text` reads the file that is open to its end, or up to one byte more than a test may have.
use Rattle.std.proofs.{Common.{length, take, ap, arith, length-append}, lemmas.List.length-take-le}
use Rattle.tests_from_files.proofs.TextLaws.{reads_whole, reads_failed, reads_long, reads_more}
use Rattle.tests_from_files.proofs.text.read_text.Goals as goal

pub returns-in-Ok-eq0 : goal.returns-in-Ok-eq0
returns-in-Ok-eq0 g c = record {
  read =
      reads_whole _ (g.H.Shelf.seen c.loop-count.shelf) _ c.loop-count.text.items c.read_piece.new.piece c.in-Ok-eq0.field-0 c.min-room.result
      c.loop-count.invariant.read c.loop-count.invariant.few c.in-Ok-eq0.ensures.gave c.in-Ok-eq0.field-0-test (omega arith);
}

pub returns-in-Err : goal.returns-in-Err
returns-in-Err g c = record {
  read =
      reads_failed _ (g.H.Shelf.seen c.loop-count.shelf) _ c.loop-count.text.items c.loop-count.invariant.read c.loop-count.invariant.few
      c.in-Err.ensures.failed;
}

pub returns-then-len-gt-MAX_TEST_TEXT : goal.returns-then-len-gt-MAX_TEST_TEXT
returns-then-len-gt-MAX_TEST_TEXT g c = record {
  read =
      reads_long _ _ c.extend_from_slice.new.self.items
      (reads_more _ (g.H.Shelf.seen c.loop-count.shelf) _ c.loop-count.text.items c.read_piece.new.piece c.extend_from_slice.new.self.items c.in-Ok.count
      c.min-room.result c.loop-count.invariant.read (omega (arith, c.in-Ok.ensures.bound)) c.in-Ok.ensures.gave c.in-Ok-extend_from_slice.ensures.items c.in-Ok.count-test.1)
      (omega (
        arith,
        c.in-Ok.ensures.bound,
        ap length c.in-Ok-extend_from_slice.ensures.items,
        length-append c.loop-count.text.items (take c.in-Ok.count c.read_piece.new.piece),
        length-take-le c.in-Ok.count c.read_piece.new.piece (omega (arith, c.in-Ok.ensures.bound)),
        c.if-len-gt-MAX_TEST_TEXT.true,
      ));
}
