use Rattle.std.proofs.Common.{◌<◌, arith}
use Rattle.board_base.specs.Attacks.{distance, ranks_apart}
use Rattle.play_rules.proofs.Ways.{step-near}
use Rattle.play_rules.proofs.targets.add_steps.Goals as goal

pub loop-row-init : goal.loop-row-init
unfolding distance
loop-row-init c = (λ t had. had, λ t small step low. absurd (let near : ranks_apart c.args.from t < 3 = (step-near c.args.man.colour c.args.man.kind c.args.from t step).1 in omega (arith, c.rank-rank.ensures, c.saturating_sub-row.ensures)))

pub returns-clause-added : goal.returns-clause-added
unfolding distance
returns-clause-added c = λ t small step.
    let near : ranks_apart c.args.from t < 3 = (step-near c.args.man.colour c.args.man.kind c.args.from t step).1 in
    c.loop-row.invariant.1 t small step (omega (arith, c.rank-rank.ensures, c.min-row-end.ensures, c.loop-row-test.false))
