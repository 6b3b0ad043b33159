use Rattle.std.proofs.Common.{◌≡◌, ◌-◌, ◌≤◌, ◌&&◌}
use Rattle.std.specs.List.{list_any, range_with_len}
use Rattle.board_base.specs.Board.{at, is_the, opponent}
use Rattle.board_base.specs.Attacks.{attacks}
use Rattle.board_base.specs.Legal.{in_check}
use Rattle.board_base.specs.declared.men.Kind.TheVariants.{King}
use Rattle.play_rules.proofs.king_boards.is_one_attacked.Given as goal

abbrev pub invariant-loop-s : goal.invariant-loop-s
invariant-loop-s l = record {
  low : l.s ≤ 64;
  left : list_any (λ s. is_the l.side King (at l.board s) && attacks l.board s (opponent l.side)) (range_with_len l.s (64 - l.s)) ≡ in_check l.board l.side;
}

abbrev pub decreases-loop-s : goal.decreases-loop-s
decreases-loop-s l = 64 - l.s
