use Rattle.std.proofs.Common.{◌≡◌, ◌≤◌, take}
use Rattle.std.specs.List.{count_by}
use Rattle.board_base.specs.Board.{is_the}
use Rattle.board_base.specs.declared.men.Kind.TheVariants.{King}
use Rattle.play_rules.proofs.boards.count_kings.Given as goal

abbrev pub invariant-loop-i : goal.invariant-loop-i
invariant-loop-i l = record {
  counted : l.count ≡ count_by (is_the l.colour King) (take l.i l.board);
  few : l.count ≤ l.i;
}
