use Rattle.std.proofs.Common.{◌-◌}
use Rattle.position_maker.specs.Draws.{games_of}
use Rattle.position_maker.proofs.Runs.{Made}
use Rattle.position_maker.proofs.sampling.sample.Given as goal

abbrev pub invariant-loop : goal.invariant-loop
invariant-loop l = Made (l.games - l.counter) l.counter l.plies (games_of l.plies l.games l.start) l.tally
