use Rattle.std.proofs.Common.{◌≡◌, ◌+◌, ◌-◌, ◌<◌, suc, arith}
use Rattle.position_maker.proofs.Runs.{made_none, made_more}
use Rattle.position_maker.proofs.sampling.sample.Goals as goal

pub loop-init : goal.loop-init
loop-init c = made_none c.args.plies c.args.games c.args.start

pub loop-preserved : goal.loop-preserved
loop-preserved c =
    let below : c.loop.counter < c.args.games = c.loop-test.true in
    let left : c.args.games - c.loop.counter ≡ suc (c.args.games - (c.loop.counter + 1)) = omega (arith, below) in
    made_more _ _ _ _ _ _ c.sample_game.new.tally left c.requires.plies.1 c.loop.invariant c.in_ok-sample_game.ensures.counted c.in_ok-sample_game.ensures.few.0 c.in_ok-sample_game.ensures.few.1
