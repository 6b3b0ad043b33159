use Rattle.std.proofs.Common.{List, subst, arith}
use Rattle.std.specs.List.{flat_map}
use Rattle.std.proofs.lemmas.List.{take_all}
use Rattle.diagram_study.specs.declared.pairs.PairFound.{PairFound}
use Rattle.position_report.specs.Open.{open_pair}
use Rattle.position_report.specs.Told.{AreTold}
use Rattle.position_report.proofs.Open.{more-told}
use Rattle.position_report.proofs.unsettled.push_pairs.Goals as goal

pub loop-f-preserved : goal.loop-f-preserved
loop-f-preserved c =
    more-told c.args.query.now (open_pair c.args.query.now) c.args.pairs.now c.loop-f.f-index c.f-item.result c.args.before c.loop-f.run _ c.args.out.now.items c.loop-f.out.items _ c.loop-f-test.true c.f-item.is c.loop-f.invariant c.in_ok-run.ensures

pub returns : goal.returns
returns c =
    subst (λ (l : List PairFound). AreTold c.args.query.now (flat_map (open_pair c.args.query.now) l) c.args.before c.loop-f.run c.args.out.now.items c.loop-f.out.items) (take_all c.loop-f.f-index c.args.pairs.now (omega arith)) c.loop-f.invariant
