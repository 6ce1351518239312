-- The first text of the barrier is found, or none.
use Rattle.std.proofs.Common.{refl, ◌∙◌, sym, ap, Some}
use Rattle.arch_instructions.proofs.BarrierTexts.{first_text, later_text, first_short, later_short}
use Rattle.arch_instructions.proofs.fixed.print_barrier.Goals as goal

pub loop-left-init : goal.loop-left-init
loop-left-init c = record { same = refl; room = c.requires.room }

pub print_unrolled-requires : goal.print_unrolled-requires
print_unrolled-requires c = record { room = first_short c.loop-left.left.now _ c.in-len1-up.len_at_least c.loop-left.invariant.room }

pub returns-then-barrier_number-number : goal.returns-then-barrier_number-number
returns-then-barrier_number-number c =
    let same = sym c.barrier_number.ensures ∙ (c.if-barrier_number-number.true ∙ c.barrier_number-number.ensures) in
    ap Some c.print_unrolled.ensures ∙ (sym (first_text c.loop-left.left.now _ _ c.in-len1-up.len_at_least same) ∙ c.loop-left.invariant.same)

pub loop-left-preserved : goal.loop-left-preserved
loop-left-preserved c =
    record {
      same = later_text c.loop-left.left.now _ _ c.in-len1-up.len_at_least
          (λ e. c.if-barrier_number-number.false (c.barrier_number.ensures ∙ (e ∙ sym c.barrier_number-number.ensures))) ∙
          c.loop-left.invariant.same;
      room = later_short c.loop-left.left.now c.in-len1-up.len_at_least c.loop-left.invariant.room;
    }
