-- What is seen of a call's devices before it and after it.
-- Source: own.
use Rattle.std.specs.Prelude.{◌≡◌}
use Rattle.diy_io.specs.{Taken.SourceSeen, Shelf.ShelfSeen, Wrote.SinkSeen}

-- the input, standard output and the shelf
pub record Devices : Type 0 where
  pub input : SourceSeen
  pub out : SinkSeen
  pub shelf : ShelfSeen

-- the same three as a tuple
abbrev pub DevicesSeen : Type 0
DevicesSeen = SourceSeen × SinkSeen × ShelfSeen

-- a tuple of the devices as a record
abbrev pub devices : DevicesSeen → Devices
devices seen = record { input = seen.0; out = seen.1; shelf = seen.2 }

-- the input and the shelf stay as they were, and `Says` holds of standard output
pub record OutAlone (Says : SinkSeen → SinkSeen → Type 0) (old new : Devices) : Type 0 where
  pub input : new.input ≡ old.input
  pub shelf : new.shelf ≡ old.shelf
  pub out : Says old.out new.out

-- the shelf stays as it was, and `Says` holds of the input and standard output
pub record InputAndOut (Says : SourceSeen → SourceSeen → SinkSeen → SinkSeen → Type 0) (old new : Devices) : Type 0 where
  pub shelf : new.shelf ≡ old.shelf
  pub both : Says old.input new.input old.out new.out

-- the input stays as it was, and `Says` holds of the shelf and standard output
pub record ShelfAndOut (Says : ShelfSeen → ShelfSeen → SinkSeen → SinkSeen → Type 0) (old new : Devices) : Type 0 where
  pub input : new.input ≡ old.input
  pub both : Says old.shelf new.shelf old.out new.out
