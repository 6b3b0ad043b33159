use Rattle.std.proofs.Common.{ℕ, List, inl, subst}
use Rattle.std.proofs.lemmas.Result.{IfOk-weaker}
use Rattle.command_answers.specs.Plays.{AnswersGame, AnswersPlay}
use Rattle.command_answers.proofs.plays.answer_play.Goals as goal

pub returns-in-Ok : goal.returns-in-Ok
returns-in-Ok c =
    IfOk-weaker c.answer_game.result (λ a. AnswersGame c.in-Ok.question.query c.in-Ok.question.rest.now a.0 a.1.items) (λ a. AnswersPlay c.args.input.now a.0 a.1.items)
    (λ a told. inl (c.in-Ok.question.query, c.in-Ok.ensures.asked, subst (λ (rest : List ℕ). AnswersGame c.in-Ok.question.query rest a.0 a.1.items) c.in-Ok.ensures.rest told))
    c.answer_game.ensures
