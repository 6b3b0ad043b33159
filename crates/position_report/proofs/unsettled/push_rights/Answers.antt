use Rattle.std.proofs.Common.{List, subst, arith}
use Rattle.std.specs.List.{flat_map}
use Rattle.std.proofs.lemmas.List.{take_all}
use Rattle.diagram_study.specs.declared.rights.RightFound.{RightFound}
use Rattle.position_report.specs.Open.{open_right}
use Rattle.position_report.specs.Told.{AreTold}
use Rattle.position_report.proofs.Open.{more-told}
use Rattle.position_report.proofs.unsettled.push_rights.Goals as goal

pub loop-f-preserved : goal.loop-f-preserved
loop-f-preserved c =
    more-told c.args.query.now (open_right c.args.query.now) c.args.rights.now c.loop-f.f-index c.f-item.result c.args.before c.loop-f.run _ c.args.out.now.items c.loop-f.out.items _ c.loop-f-test.true c.f-item.is c.loop-f.invariant c.in_ok-run.ensures

pub returns : goal.returns
returns c =
    subst (λ (l : List RightFound). AreTold c.args.query.now (flat_map (open_right c.args.query.now) l) c.args.before c.loop-f.run c.args.out.now.items c.loop-f.out.items) (take_all c.loop-f.f-index c.args.rights.now (omega arith)) c.loop-f.invariant
