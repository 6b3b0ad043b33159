use Rattle.std.proofs.Common.{◌∙◌, ◌-◌, arith, drop, length, length-drop, length-take}
use Rattle.position_report.proofs.Stuck.{left-first, listed-first, listed-rest}
use Rattle.position_report.proofs.unsettled.+before_all.Goals as goal

pub pred-requires : goal.pred-requires
pred-requires t c = listed-first c.args.query.now c.args.steps.now c.u-item.result c.in-len1-up.len_at_least c.u-item.is c.requires

pub before_all-requires : goal.before_all-requires
before_all-requires t c = (
  omega (arith, c.in-len1-up.len_at_least, length-drop 1 c.args.steps.now, length-take (length c.args.steps.now - 1) (drop 1 c.args.steps.now)),
  listed-rest c.args.query.now c.pred.result c.args.steps.now c.u-item.result c.in-len1-up.len_at_least c.u-item.is c.pred.ensures c.requires,
)

pub returns-in-len1-up : goal.returns-in-len1-up
returns-in-len1-up t c = c.before_all.ensures ∙ left-first c.args.query.now c.pred.result c.args.steps.now c.u-item.result c.in-len1-up.len_at_least c.u-item.is c.pred.ensures
