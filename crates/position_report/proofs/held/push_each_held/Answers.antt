use Rattle.std.proofs.Common.{List, ◌++◌, ap, ◌∙◌, arith}
use Rattle.std.specs.List.{flat_map}
use Rattle.std.proofs.lemmas.List.{take_all}
use Rattle.diagram_study.specs.declared.held.HeldFound.{HeldFound}
use Rattle.position_report.specs.Held.{held_prose, if_prose}
use Rattle.position_report.proofs.Joining.{added-more}
use Rattle.position_report.proofs.held.push_each_held.Goals as goal

pub loop-found-preserved : goal.loop-found-preserved
loop-found-preserved c =
    added-more (if_prose c.args.query.now c.args.known.now) c.args.out.now.items c.args.held.now c.loop-found.found-index c.found-item.result _ _ c.loop-found-test.true c.found-item.is c.loop-found.invariant c.in_ok-push_held.ensures

pub returns : goal.returns
unfolding held_prose
returns c = c.loop-found.invariant ∙ ap (λ (l : List HeldFound). c.args.out.now.items ++ flat_map (if_prose c.args.query.now c.args.known.now) l) (take_all c.loop-found.found-index c.args.held.now (omega arith))
