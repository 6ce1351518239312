-- A printed test is read back as the test, its locations numbered by a table of the names of those that the test uses.
-- Source: own.
use Rattle.std.specs.{Prelude.{◌≡◌, ℕ, Bool, true, is_some, List, Ok}, List.{AllByRecursion, IsDistinct}, Str.bytes_eq}
use Rattle.relax_edges.specs.declared.kinds.ArchName.{ArchName}
use Rattle.micro_ops.specs.declared.operation.Micro.{Micro}
use Rattle.micro_ops.specs.declared.operation.Micro.TheVariants as ops
use Rattle.final_cond.specs.Conditions.{LeftSeen, InRegister, AtPlace}
use Rattle.arch_trait.specs.{PlaceNames.number_in, Writing.{Writing, name_in}, SeenTests.TestSeen}
use Rattle.litmus_text.specs.{TestText.test_text, TestReading.test_read, Items.links_of, Reread.reread}

-- a name is in a table of names
abbrev pub is_in : List (List ℕ) → List ℕ → Bool
is_in table name = is_some (number_in table name)

-- the name of an operation's location, if it has one, is in a table; `names` gives the names of locations by their numbers
abbrev pub op_is_in : List (List ℕ) → (ℕ → List ℕ) → Micro → Bool
op_is_in table names (ops.LoadAt dst place) = is_in table (names place)
op_is_in table names (ops.StoreAt place n) = is_in table (names place)
op_is_in table names op = true

-- the location that a left side names, if it names one, is in a table
abbrev pub left_is_in : List (List ℕ) → LeftSeen → Bool
left_is_in table (InRegister thread name) = true
left_is_in table (AtPlace name) = is_in table name

-- The text of a test under a name is read as the test, its locations numbered by a table (`read`). The table has each name once (`once`),
-- only names of the test's locations (`among`), and each location that an operation (`codes`), an address register (`links`) or a term of
-- the condition (`terms`) names.
pub record TestReadsBack (arch : ArchName) (w : Writing) (name : List ℕ) (test : TestSeen) : Type 0 where
  pub table : List (List ℕ)
  pub read : test_read arch w (test_text arch w name test) ≡ Ok (reread table name test)
  pub once : IsDistinct bytes_eq table
  pub among : AllByRecursion (λ place. is_in test.places place ≡ true) table
  pub codes : AllByRecursion (λ t. AllByRecursion (λ op. op_is_in table (name_in test.places) op ≡ true) t.instrs) test.threads
  pub links : AllByRecursion (λ link. is_in table (name_in test.places link.1.1) ≡ true) (links_of 0 test.threads)
  pub terms : AllByRecursion (λ term. left_is_in table term.left ≡ true) test.cond.terms
