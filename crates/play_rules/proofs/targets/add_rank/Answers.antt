use Rattle.std.proofs.Common.{◌<◌, arith}
use Rattle.board_base.specs.Attacks.{distance, files_apart}
use Rattle.play_rules.proofs.Ways.{step-near}
use Rattle.play_rules.proofs.targets.add_rank.Goals as goal

pub loop-file-init : goal.loop-file-init
unfolding distance
loop-file-init c = (λ t had. had, λ t row step low. absurd (let near : files_apart c.args.from t < 3 = (step-near c.args.man.colour c.args.man.kind c.args.from t step).0 in omega (arith, c.file-file.ensures, c.saturating_sub-file.ensures)))

pub returns-clause-added : goal.returns-clause-added
unfolding distance
returns-clause-added c = λ t row step.
    let near : files_apart c.args.from t < 3 = (step-near c.args.man.colour c.args.man.kind c.args.from t step).0 in
    c.loop-file.invariant.1 t row step (omega (arith, c.file-file.ensures, c.min-file-end.ensures, c.loop-file-test.false))
