use Rattle.std.proofs.Common.{List, ◌++◌, ap, ◌∙◌, arith}
use Rattle.std.specs.List.{flat_map}
use Rattle.std.proofs.lemmas.List.{take_all}
use Rattle.position_report.proofs.Joining.{added-more}
use Rattle.position_report.specs.Sayings.{right_verdicts}
use Rattle.diagram_study.specs.declared.rights.RightFound.{RightFound}
use Rattle.position_report.proofs.sayings.add_rights.Goals as goal

pub loop-found-preserved : goal.loop-found-preserved
loop-found-preserved c =
    added-more (right_verdicts c.args.castlings c.args.given) c.args.verdicts.now.items c.args.rights.now c.loop-found.found-index c.found-item.result _ _ c.loop-found-test.true c.found-item.is c.loop-found.invariant c.in_ok-add_right.ensures

pub returns : goal.returns
returns c = c.loop-found.invariant ∙ ap (λ (l : List RightFound). c.args.verdicts.now.items ++ flat_map (right_verdicts c.args.castlings c.args.given) l) (take_all c.loop-found.found-index c.args.rights.now (omega arith))
