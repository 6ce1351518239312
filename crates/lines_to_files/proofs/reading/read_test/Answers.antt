-- That `read_test` reads the name and the cycle of a line's test.
use Rattle.std.proofs.Common.{◌≡◌, List, Option, Some, Result, Ok, true, rules}
use Rattle.relax_edges.specs.declared.edge.Edge.{Edge}
use Rattle.cycles_from_lines.specs.{declared.errors.LineKind.LineKind, Cycles.line_said, declared.line.LineForm.TheVariants.Edges}
use Rattle.lines_to_files.specs.{GivenTests.test_given, RightTests.names_file}
use Rattle.lines_to_files.proofs.{NormalForms.normal_is, TestsRead.line_named}
use Rattle.lines_to_files.proofs.reading.read_test.Goals as goal

pub returns : goal.returns
returns c =
    let said : ◌≡◌ {A = Result (Option (List Edge)) LineKind} (Ok (Some c.in-Some.cycle)) (line_said (Edges c.args.arch) c.args.line.now) = search rules in
    let fit : true ≡ names_file (test_given c.args.line.now c.in-Some.cycle).name = search rules in
    let named : c.set_name.new.name.bytes ≡ (test_given c.args.line.now c.in-Some.cycle).name = search rules in
    line_named c.args.arch c.args.line.now c.set_name.new.name.bytes c.in-Some.cycle c.least.result said fit named
    (normal_is c.in-Some.cycle c.least.result c.edges-edges.ensures.composable.some c.least.ensures)
