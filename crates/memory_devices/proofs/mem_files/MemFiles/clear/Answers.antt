-- That `clear` takes all bytes from the file at a place.
use Rattle.std.proofs.Common.{[], refl, ap}
use Rattle.memory_devices.proofs.EntriesLaws.{same_state, entry_set}
use Rattle.memory_devices.proofs.mem_files.MemFiles.clear.Goals as goal

pub returns : goal.returns
returns c =
    same_state _ _ _ _ _ _
    (entry_set _ _ c.args.place _ c.index_mut.result.now _ [] (ap (λ m. m.files) c.self.view_is) c.requires c.index_mut.ensures.value refl c.clear.ensures.items)
    (ap (λ m. m.room) c.self.view_is)
    (ap (λ m. m.names) c.self.view_is)
