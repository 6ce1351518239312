-- The writes of a location that need an observer, among the first few along its arc.
use Rattle.std.specs.{Prelude.{ℕ, ◌-◌, Bool, ◌&&◌, nat_lt, List, [], ◌∷◌, Option}, List.{find, filter_map}}
use Rattle.relax_edges.specs.{declared.edge.Edge.Edge, EdgeTable.is_external}
use Rattle.list_laws.specs.Numbers.{upto}
use Rattle.cycle_events.specs.Values.{edge_into, value_of, write_at}

-- an external edge enters event i, and its value is above 1: if it is a write, it isn't the first of its location
abbrev pub is_later_entry : List Edge → ℕ → Bool
is_later_entry es i = is_external (edge_into es i) && nat_lt 1 (value_of es i)

-- the first such event among the writes of a location with these numbers
unfoldable pub first_entry : List Edge → ℕ → List ℕ → Option ℕ
first_entry es location numbers = find (is_later_entry es) (filter_map (write_at es location) numbers)

-- the first such event among the first n writes of a location, the last of these excepted
abbrev pub inner_entry : List Edge → ℕ → ℕ → Option ℕ
inner_entry es location n = first_entry es location (upto (n - 1))

-- the last of the first n writes of a location, if it is such an event
abbrev pub last_entry : List Edge → ℕ → ℕ → Option ℕ
last_entry es location n = first_entry es location ((n - 1) ∷ [])
