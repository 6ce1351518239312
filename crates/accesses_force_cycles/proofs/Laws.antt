-- The laws of this crate, from the facts of a resolved cycle.
use Rattle.accesses_force_cycles.proofs.Vocabulary.{arith, EdgesJoin, OnlyTheIntended, TheIntendedMeets, NoConditionServes, AllEdgesStand, OneOutcome, AnOutcome}
use Rattle.accesses_force_cycles.proofs.{ResolvedFacts.resolves, Needs.{enters_last, refused_entry}, OnlyOne.only_the_intended, EdgesJoin.{edges_join, intended_joins}}
use Rattle.accesses_force_cycles.proofs.{IntendedExists.intended_meets, Programs.{outcome_makes, outcome_meets, intended_outcome}, AllStand.all_stand}
use Rattle.accesses_force_cycles.proofs.Exchanged.{reads_exchanged, exchanged_meets, exchanged_ends, exchanged_breaks, others_join}

-- each edge joins its events in an execution that is coherent and meets the condition
pub edges_join_law : EdgesJoin
edges_join_law es mode number x r s n m i h = search (arith, resolves, edges_join, enters_last)

-- only the intended execution meets the condition
pub only_the_intended_law : OnlyTheIntended
only_the_intended_law es mode number x r s n m = grind (arith, resolves, only_the_intended, enters_last)

-- the intended execution meets the condition
pub the_intended_meets_law : TheIntendedMeets
the_intended_meets_law es mode number r n = intended_meets es mode number (resolves es r) n

-- where the mode avoid refuses a cycle, no condition could have served
pub no_condition_serves_law : NoConditionServes
no_condition_serves_law es number need r n o =
    search (arith, resolves, refused_entry, intended_meets, exchanged_meets, reads_exchanged, exchanged_ends, intended_joins, exchanged_breaks, others_join)

-- all edges stand in each outcome of a program that makes, marks and ties the accesses of the cycle's test
pub all_edges_stand_law : AllEdgesStand
all_edges_stand_law es mode number p x r s n m t o =
    grind (arith, resolves es r, all_stand es mode number p x, enters_last es mode, outcome_makes es mode number p x m o, outcome_meets es mode number p x m o)

-- each outcome of such a program is the intended execution
pub one_outcome_law : OneOutcome
one_outcome_law es mode number p x r s n m o = grind (arith, only_the_intended_law, outcome_meets)

-- the intended execution is an outcome of such a program whose runs come to their ends
pub an_outcome_law : AnOutcome
an_outcome_law es mode number p r n m e = intended_outcome es mode number p (resolves es r) n m e
