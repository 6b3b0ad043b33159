use Rattle.retro_top.specs.Answers.{AnswersAs}
use Rattle.retro_top.proofs.Input.{of_read}
use Rattle.retro_top.proofs.top.respond.Goals as goal

pub returns-in-Ok-answer-clause-ok : goal.returns-in-Ok-answer-clause-ok
returns-in-Ok-answer-clause-ok g c =
    let answers = rw c.deref.ensures.value at c.in-Ok-answer.ensures in
    of_read c.args.command _ _ c.in-Ok-read_input.input.items (λ input. AnswersAs c.args.command input c.in-Ok-answer.answered.0 c.in-Ok-answer.answered.1) c.in-Ok-read_input.ensures.read answers
