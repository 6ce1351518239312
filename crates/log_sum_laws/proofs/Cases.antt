-- The kinds, marks, verdicts and places of logs.
use Rattle.log_sum_laws.proofs.Vocabulary.{true, false, Bool}
pub use Rattle.log_sum.specs.declared.kinds.Kind.{Kind}
pub use Rattle.log_sum.specs.declared.kinds.Kind.TheVariants.{Allowed, Forbidden, Required}
pub use Rattle.log_sum.specs.declared.kinds.Mark.{Mark}
pub use Rattle.log_sum.specs.declared.kinds.Mark.TheVariants.{Starred, Plain}
pub use Rattle.log_sum.specs.declared.kinds.Verdict.{Verdict}
pub use Rattle.log_sum.specs.declared.kinds.Verdict.TheVariants.{Validated, NotValidated}
pub use Rattle.log_sum.specs.declared.kinds.Place.{Place}
pub use Rattle.log_sum.specs.declared.kinds.Place.TheVariants.{Outside, Histogram, States, Judgement, Rest, Conditioned}

-- a place is outside the blocks, where a file may end
abbrev pub is_outside : Place → Bool
is_outside Outside = true
is_outside _ = false
