-- The numbers that locations get by first mention.
-- Source: own.
use Rattle.std.specs.Prelude.{ℕ, List, Option, Some, None}
use Rattle.micro_ops.specs.declared.operation.Micro.{Micro}
use Rattle.micro_ops.specs.declared.operation.Micro.TheVariants as ops
use Rattle.arch_trait.specs.PlaceNames.{number_in, names_added}

-- the number of a name, or 0 if it has none
abbrev pub or_zero : Option ℕ → ℕ
or_zero (Some i) = i
or_zero None = 0

-- the number of a name in a table, or 0 if it isn't there
abbrev pub place_in : List (List ℕ) → List ℕ → ℕ
place_in table name = or_zero (number_in table name)

-- an operation with its location numbered by a table, if locations had these names
abbrev pub op_renumbered : List (List ℕ) → (ℕ → List ℕ) → Micro → Micro
op_renumbered table names (ops.LoadAt dst place) = ops.LoadAt dst (place_in table (names place))
op_renumbered table names (ops.StoreAt place n) = ops.StoreAt (place_in table (names place)) n
op_renumbered table names op = op

-- the table after an operation's location was mentioned
abbrev pub mentioned : (ℕ → List ℕ) → List (List ℕ) → Micro → List (List ℕ)
mentioned names table (ops.LoadAt dst place) = names_added table (names place)
mentioned names table (ops.StoreAt place n) = names_added table (names place)
mentioned names table op = table
