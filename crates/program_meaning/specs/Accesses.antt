-- The accesses of a thread, as its run makes them, with the barriers before each.
-- Source: own.
use Rattle.std.specs.Prelude.{ℕ, Bool, true, false, List, [], ◌∷◌, ◌++◌, take, map, count_by, Option, Some, None, slice_get}
use Rattle.relax_edges.specs.declared.kinds.{Dir.Dir, Mark.Mark}
use Rattle.relax_edges.specs.declared.kinds.Dir.TheVariants as dirs
use Rattle.micro_ops.specs.declared.operation.Item.{Item}
use Rattle.micro_ops.specs.declared.operation.Item.TheVariants as items
use Rattle.program_meaning.specs.declared.{Access.Access as TheAccess, Barred.Barred as TheBarred, WriteAt.WriteAt}

-- an access: what it does, at which location, and the value that it reads or writes
abbrev pub Access : Type 0
Access = TheAccess

-- a read of a value at a location
abbrev pub read : ℕ → ℕ → Access
read place value = record { dir = dirs.R; place = place; value = value }

-- a write of a value to a location
abbrev pub write : ℕ → ℕ → Access
write place value = record { dir = dirs.W; place = place; value = value }

-- a barrier, with the loads in its control mask
abbrev pub Barred : Type 0
Barred = TheBarred

-- an access with its mark, the barriers between it and the access before it, and the loads that its address, its data
-- and the branches before it depend on. Bit k of a mask names load number k of the thread, from 0
pub record Visit : Type 0 where
  pub barriers : List Barred
  pub access : Access
  pub mark : Mark
  pub address_mask : ℕ
  pub data_mask : ℕ
  pub control_mask : ℕ

-- the accesses among the items of a run, each with the barriers before it; some barriers were passed already
abbrev pub visits_from : List Barred → List Item → List Visit
visits_from passed [] = []
visits_from passed (items.Barrier kind control ∷ rest) =
    visits_from (passed ++ record { kind = kind; control = control } ∷ []) rest
visits_from passed (items.Access dir mark place value address_mask data_mask control_mask ∷ rest) =
    record {
      barriers = passed;
      access = record { dir = dir; place = place; value = value };
      mark = mark;
      address_mask = address_mask;
      data_mask = data_mask;
      control_mask = control_mask;
    } ∷ visits_from [] rest

-- the accesses of a run, in program order
abbrev pub visits_of : List Item → List Visit
visits_of made = visits_from [] made

-- the barriers after the last access of a run; some barriers were passed already
abbrev pub barriers_after : List Barred → List Item → List Barred
barriers_after passed [] = passed
barriers_after passed (items.Barrier kind control ∷ rest) =
    barriers_after (passed ++ record { kind = kind; control = control } ∷ []) rest
barriers_after passed (items.Access _ _ _ _ _ _ _ ∷ rest) = barriers_after [] rest

-- the accesses, without what comes with them
abbrev pub accesses_of : List Visit → List Access
accesses_of visits = map (λ visit. visit.access) visits

-- an access of this direction reads
abbrev pub reads_by : Dir → Bool
reads_by dirs.R = true
reads_by dirs.W = false

-- an access reads
abbrev pub is_read : Access → Bool
is_read access = reads_by access.dir

-- an element of a list, if the list exists
abbrev pub got_from : {X : Type 0} → Option (List X) → ℕ → Option X
got_from None i = None
got_from (Some thread) i = slice_get thread i

-- what a name names in the threads of a program: in its thread, at its number there
abbrev pub at_name : {X : Type 0} → List (List X) → WriteAt → Option X
at_name threads name = got_from (slice_get threads name.thread) name.access

-- how many of the first accesses of a thread read; 0 if the thread doesn't exist
abbrev pub reads_among : Option (List Access) → ℕ → ℕ
reads_among None i = 0
reads_among (Some thread) i = count_by is_read (take i thread)

-- how many accesses before this one in its thread read: the number of a read among the reads of its thread
abbrev pub reads_before : List (List Access) → WriteAt → ℕ
reads_before threads name = reads_among (slice_get threads name.thread) name.access
