-- That `judge_input` writes the states with their verdicts, where the logs were read.
use Rattle.states_of_logs.proofs.EndLaws.{input_judged}
use Rattle.states_of_logs.proofs.input.judge_input.Goals as goal

pub returns-in-Ok-read_input-clause-judged : goal.returns-in-Ok-read_input-clause-judged
returns-in-Ok-read_input-clause-judged g c =
    input_judged g.A.Arch.NAME g.A.Arch.writing
    (record { shelf = g.H.Shelf.seen c.args.shelf.now; input = g.I.Source.seen c.args.input.now; out = g.O.Sink.seen c.args.out.now })
    (record { shelf = g.H.Shelf.seen c.test_in_file.new.shelf; input = g.I.Source.seen c.read_input.new.input; out = g.O.Sink.seen c.write_states.new.out })
    c.args.words.now c.args.test c.in-Ok.read c.in-Ok-read_input.summer c.write_states.result c.in-Ok.ensures.file c.in-Ok-read_input.ensures
    c.write_states.ensures
