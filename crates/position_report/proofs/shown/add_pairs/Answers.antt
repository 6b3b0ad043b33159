use Rattle.std.proofs.Common.{List, ◌++◌, ap, ◌∙◌, arith}
use Rattle.std.specs.List.{flat_map}
use Rattle.std.proofs.lemmas.List.{take_all}
use Rattle.position_report.proofs.Joining.{added-more}
use Rattle.position_report.specs.Shown.{pair_shown}
use Rattle.diagram_study.specs.declared.pairs.PairFound.{PairFound}
use Rattle.position_report.proofs.shown.add_pairs.Goals as goal

pub loop-pair-preserved : goal.loop-pair-preserved
loop-pair-preserved c =
    added-more (pair_shown c.args.query.now) c.args.all.now.items c.args.pairs.now c.loop-pair.pair-index c.pair-item.result _ _ c.loop-pair-test.true c.pair-item.is c.loop-pair.invariant c.in_ok-add_pair.ensures

pub returns : goal.returns
returns c = c.loop-pair.invariant ∙ ap (λ (l : List PairFound). c.args.all.now.items ++ flat_map (pair_shown c.args.query.now) l) (take_all c.loop-pair.pair-index c.args.pairs.now (omega arith))
