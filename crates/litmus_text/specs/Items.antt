-- The items of the initial state of a printed test.
-- Source: own.
use Rattle.std.specs.{Prelude.{◌≡◌, ◌<◌, ℕ, ◌==◌, Bool, true, not, ◌&&◌, is_some, List, [], ◌∷◌, ◌++◌, map, length}, List.{list_any, flat_map, enumerate_from}}
use Rattle.relax_edges.specs.declared.kinds.Value.{Value}
use Rattle.relax_edges.specs.declared.kinds.Value.TheVariants as values
use Rattle.text_parts.specs.Names.{is_place_name}
use Rattle.arch_trait.specs.{Threads.ThreadCode, PlaceNames.{number_in, names_added}, Writing.Writing}
use Rattle.litmus_text.specs.{declared.limits.TheConstants.MAX_THREADS, Placing.place_in}

-- an address register of a thread, and its location
abbrev pub Link : Type 0
Link = ℕ × (ℕ × ℕ)

-- the address registers of all threads, in order
abbrev pub links_of : ℕ → List ThreadCode → List Link
links_of n threads = flat_map (λ t. map (λ link. (t.0, link)) t.1.links) (enumerate_from n threads)

-- the table after the locations of address registers were mentioned
abbrev pub links_mention : (ℕ → List ℕ) → List (List ℕ) → List Link → List (List ℕ)
links_mention names s [] = s
links_mention names s (link ∷ links) = links_mention names (names_added s (names link.1.1)) links

-- the initial values that the address registers are read as
abbrev pub link_values : List (List ℕ) → (ℕ → List ℕ) → List Link → List (ℕ × (ℕ × Value))
link_values table names links = map (λ link. (link.0, (link.1.0, values.Place (place_in table (names link.1.1))))) links

-- no address register comes twice: none of them is among those before it
abbrev pub links_once : List Link → List Link → Bool
links_once done [] = true
links_once done (link ∷ links) =
    not (list_any (λ d. (d.0 == link.0) && (d.1.0 == link.1.0)) done) && links_once (done ++ link ∷ []) links

-- an address register that tests use, of a thread that a test can have, and of a location whose name has its form and is in a table
pub record LinkFits (w : Writing) (table : List (List ℕ)) (names : ℕ → List ℕ) (link : Link) : Type 0 where
  pub thread : link.0 < MAX_THREADS
  pub register : link.1.0 < length w.registers
  pub formed : is_place_name (names link.1.1) ≡ true
  pub inside : is_some (number_in table (names link.1.1)) ≡ true
