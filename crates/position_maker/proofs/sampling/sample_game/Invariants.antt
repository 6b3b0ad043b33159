use Rattle.std.proofs.Common.{[], ◌-◌}
use Rattle.position_maker.specs.Draws.{goes_on}
use Rattle.position_maker.proofs.Runs.{OnItsWay}
use Rattle.position_maker.proofs.sampling.sample_game.Given as goal

abbrev pub invariant-loop : goal.invariant-loop
invariant-loop l = OnItsWay (l.plies - l.counter) l.counter (goes_on l.plies l.fn.tally.number []) l.state l.fn.tally l.tally
