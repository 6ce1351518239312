-- What demo prints.
-- Source: own.
use Rattle.std.specs.Prelude.{ℕ, List}
use Rattle.demo_tests.specs.DemoText.{demo_text}
use Rattle.diy_words.specs.declared.request.Demo.{Demo}
use Rattle.diy_tools.specs.ArchMachines.{Machine, machine_of}

-- the summary of `count` tests on an architecture
abbrev pub demo_on : Machine → ℕ → List ℕ
demo_on m count = demo_text m.puts m.writing count

-- the summary that the arguments ask for
abbrev pub demo_asked : Demo → List ℕ
demo_asked asked = demo_on (machine_of asked.arch) asked.count
