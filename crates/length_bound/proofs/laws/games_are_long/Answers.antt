use Rattle.length_bound.proofs.Bound.{moves-least, length-least, reach-least}
use Rattle.length_bound.proofs.laws.games_are_long.Goals as goal

pub returns-clause-moves : goal.returns-clause-moves
returns-clause-moves c = moves-least

pub returns-clause-from_odds : goal.returns-clause-from_odds
returns-clause-from_odds c = length-least

pub returns-clause-reached : goal.returns-clause-reached
returns-clause-reached c = reach-least
