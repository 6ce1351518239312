-- That `answer` gives what the request asks for, or the error of the arguments.
use Rattle.std.proofs.Common.{sym, ◌∙◌}
use Rattle.diy_words.specs.Requests.{asked_of}
use Rattle.diy_tools.proofs.SkipAnswers.{asks_kept, asks_whole, gives_kept, gives_whole}
use Rattle.diy_tools.proofs.tools.answer.Goals as goal

pub returns-in-Some-clause-gives : goal.returns-in-Some-clause-gives
returns-in-Some-clause-gives g c =
    gives_kept c.args.words.now c.in-Some.form c.skip.result _ _
    (asks_kept c.in-Ok.request c.in-Some.form (asked_of c.args.words.now) c.in-Ok.ensures.given (sym c.skipped_form.ensures ∙ c.in-Some.is))
    c.skip.ensures.gives

pub returns-in-None-clause-gives : goal.returns-in-None-clause-gives
returns-in-None-clause-gives g c =
    gives_whole c.args.words.now c.of-in-None.result c.answer_whole.result _ _
    (asks_whole c.in-Ok.request (asked_of c.args.words.now) c.in-Ok.ensures.given (sym c.skipped_form.ensures ∙ c.in-None.is))
    c.of-in-None.ensures.status c.answer_whole.ensures.answers c.of-in-None.ensures.none
