-- A source over a reader of the standard library.
use Rattle.std.specs.Prelude.{ℕ, None}
use Rattle.diy_io.specs.Taken.{SourceSeen}
use Rattle.system_devices.specs.declared.std_source.StdSource.{StdSource}

-- the reader beneath
abbrev pub reader_of : {R : Type 0} → StdSource R → R
reader_of source = source.reader

-- how many reads failed
abbrev pub std_source_faults : {R : Type 0} → StdSource R → ℕ
std_source_faults source = source.faults

-- how many bytes were taken
abbrev pub std_source_taken : {R : Type 0} → StdSource R → ℕ
std_source_taken source = source.taken

-- how often the end was seen
abbrev pub std_source_ends : {R : Type 0} → StdSource R → ℕ
std_source_ends source = source.ends

-- it shows nothing of the bytes to come
abbrev pub std_source_seen : {R : Type 0} → StdSource R → SourceSeen
std_source_seen source = record { left = None; taken = source.taken; faults = source.faults; ends = source.ends }
