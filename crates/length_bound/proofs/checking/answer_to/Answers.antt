use Rattle.length_bound.proofs.Answering.{bad_answered, text_answered}
use Rattle.length_bound.proofs.checking.answer_to.Goals as goal

pub returns-in-Ok-clause-answer : goal.returns-in-Ok-clause-answer
returns-in-Ok-clause-answer c = text_answered c.judge.result c.args.front.now c.in-Ok.text c.in-Ok.ensures.ok c.judge.ensures.shown c.judge.ensures.other

pub returns-in-Err-clause-answer : goal.returns-in-Err-clause-answer
returns-in-Err-clause-answer c = bad_answered c.args.front.now c.in-Err.line c.in-Err.ensures.bad
