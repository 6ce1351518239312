-- A test as a value of the program, and when it can be printed.
-- Source: own.
use Rattle.std.specs.{Prelude.{◌≡◌, ℕ, Bool, true, map, nat_lt}, List.list_all}
use Rattle.micro_ops.specs.declared.operation.Micro.{Micro}
use Rattle.arch_trait.specs.{Codes.thread_code_of, Writing.{place_below, label_below}, SeenTests.TestSeen, declared.code.Code.Code}
use Rattle.final_cond.specs.Conditions.{cond_view}
use Rattle.litmus_text.specs.declared.test.Test.{Test}

-- what the text of a test shows of it: its edges, the names of its locations, the code of its threads, and its condition
abbrev pub test_seen : Test → TestSeen
test_seen test = record {
  edges = test.edges.items;
  places = test.places;
  threads = map thread_code_of test.threads.items;
  cond = cond_view test.cond;
}

-- The code of a thread can be printed, for an architecture whose operations `is_of` tells and that has so many registers, in a test
-- with so many locations: its operations are the architecture's, their locations have names and their labels are below 64, and the
-- address registers are the architecture's and hold the addresses of locations that have names.
pub record IsPrintable (is_of : Micro → Bool) (register_count place_count : ℕ) (code : Code) : Type 0 where
  pub has : list_all is_of code.instrs.items ≡ true
  pub op_places : list_all (place_below place_count) code.instrs.items ≡ true
  pub op_labels : list_all (label_below 64) code.instrs.items ≡ true
  pub link_registers : list_all (λ link. nat_lt link.0 register_count) code.links.items ≡ true
  pub link_places : list_all (λ link. nat_lt link.1 place_count) code.links.items ≡ true
