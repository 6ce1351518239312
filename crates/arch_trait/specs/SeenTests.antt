-- A test as contracts see it.
-- Source: own, after the parts of a litmus test.
use Rattle.std.specs.Prelude.{ℕ, List}
use Rattle.relax_edges.specs.declared.edge.Edge.{Edge}
use Rattle.final_cond.specs.Conditions.{CondSeen}
use Rattle.arch_trait.specs.Threads.{ThreadCode}

-- a test: the edges that it quotes, the names of its locations, its threads and its condition
pub record TestSeen : Type 0 where
  pub edges : List Edge
  pub places : List (List ℕ)
  pub threads : List ThreadCode
  pub cond : CondSeen
