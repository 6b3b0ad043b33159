use Rattle.std.proofs.Common.{◌∙◌, drop, sym, arith}
use Rattle.std.specs.List.{list_all}
use Rattle.verdict_prose.specs.Choices.{is_again}
use Rattle.verdict_prose.proofs.OneAfterAnother.{again-step, again-stops, again-whole}
use Rattle.verdict_prose.proofs.choices.are_again.Goals as goal

pub returns-then-not-is_again : goal.returns-then-not-is_again
returns-then-not-is_again c =
    again-stops c.args.u.now c.args.moves.now c.loop-i.i c.unwrap-v.result _ (sym c.get.ensures ∙ c.unwrap-v.ensures) (sym c.is_again.ensures ∙ c.if-not-is_again.true) c.loop-i.invariant

pub loop-i-preserved : goal.loop-i-preserved
loop-i-preserved c =
    again-step c.args.u.now c.args.moves.now c.loop-i.i c.unwrap-v.result _ (sym c.get.ensures ∙ c.unwrap-v.ensures) (sym c.is_again.ensures ∙ c.if-not-is_again.false) c.loop-i.invariant

pub returns : goal.returns
returns c = again-whole c.args.u.now c.args.moves.now c.loop-i.i _ (omega arith) c.loop-i.invariant
