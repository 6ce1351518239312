-- Two lists one after the other are read as one.
use Rattle.std.proofs.Common.{[], false}
use Rattle.cycle_enum.proofs.SetReading.{read_concatenation}
use Rattle.cycle_enum.proofs.progress.is_read.Goals as goal

pub returns : goal.returns
returns c relaxes u v are first then =
    read_concatenation relaxes _ c.after_all-2.result
    (c.after_all-2.ensures false relaxes u v are then (c.after_all.ensures false relaxes [] u are first (c.between.ensures relaxes)))
