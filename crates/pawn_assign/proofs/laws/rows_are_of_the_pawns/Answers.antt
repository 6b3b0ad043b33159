use Rattle.pawn_assign.proofs.Ascending.{ascending, pawns}
use Rattle.pawn_assign.proofs.EachPawn.{rows, costs, table}
use Rattle.pawn_assign.proofs.laws.rows_are_of_the_pawns.Goals as goal

pub returns : goal.returns
returns c = record {
  ascending = ascending;
  pawns = pawns;
  rows = rows;
  costs = costs;
  table = table;
}
