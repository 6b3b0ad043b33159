use Rattle.std.proofs.Common.{[]}
use Rattle.position_maker.proofs.Found.{none-missing}
use Rattle.position_maker.proofs.Totals.{all-games, none-in-all}
use Rattle.position_maker.proofs.laws.no_move_is_missing.Goals as goal

pub returns : goal.returns
returns c = record { games = all-games; found = λ g. none-missing g []; none = none-in-all }
