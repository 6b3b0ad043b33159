use Rattle.std.proofs.Common.{arith}
use Rattle.length_bound.proofs.Longer.{best-shown}
use Rattle.length_bound.proofs.text_laws.shown_lengths_hold.Goals as goal

pub returns-clause-least : goal.returns-clause-least
returns-clause-least c text shown g reaches =
    let long = c.games_are_long.ensures.reached text.query g text.side text.potentials.u text.potentials.v reaches shown.bound in
    omega (arith, shown.long, long)

pub returns-clause-best : goal.returns-clause-best
returns-clause-best c = best-shown
