-- That `append` appends bytes to the file at a place.
use Rattle.std.proofs.Common.{◌-◌, refl, length, ap}
use Rattle.memory_devices.proofs.EntriesLaws.{same_state, entry_grown, if_ok}
use Rattle.memory_devices.proofs.mem_files.MemFiles.append.Goals as goal

pub returns : goal.returns
returns c =
    same_state _ _ _ _ _ _
    (entry_grown _ _ c.args.place _ c.index_mut.result.now _ c.args.bytes.now (ap (λ m. m.files) c.self.view_is) c.requires.there c.index_mut.ensures.value refl
    (if_ok _ _ _ _ _ c.extend_from_slice.ensures.items c.unwrap.ensures))
    (ap (λ m. m.room - length c.args.bytes.now) c.self.view_is)
    (ap (λ m. m.names) c.self.view_is)
