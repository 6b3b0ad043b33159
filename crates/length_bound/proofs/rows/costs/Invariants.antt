use Rattle.assignment.specs.Tables.{IsTable}
use Rattle.board_base.specs.Board.{at, is_of}
use Rattle.general_lemmas.proofs.Rows.{AreMade}
use Rattle.length_bound.specs.SideBounds.{man_row}
use Rattle.length_bound.proofs.rows.costs.Given as goal

abbrev pub invariant-loop-i : goal.invariant-loop-i
invariant-loop-i l = record {
  made : AreMade (λ s. is_of l.side (at l.board s)) (λ s. man_row l.fn.odds l.side (at l.board s) s) 64 16 l.i l.costs.items;
  table : IsTable l.costs.items 16 64;
}
