use Rattle.std.proofs.Common.{sym, ◌∙◌}
use Rattle.sketch_steps.proofs.Telling.{made-none, made-some}
use Rattle.sketch_steps.proofs.stepping.is_made.Goals as goal

pub returns-then-not-is_way : goal.returns-then-not-is_way
returns-then-not-is_way c = made-none c.args.sketch.now c.args.figure.now c.args.step.now (sym c.is_way.ensures ∙ c.if-not-is_way.true)

pub returns : goal.returns
returns c = made-some c.args.sketch.now c.args.figure.now c.args.step.now c.place_is_free.result (sym c.is_way.ensures ∙ c.if-not-is_way.false) c.place_is_free.ensures
