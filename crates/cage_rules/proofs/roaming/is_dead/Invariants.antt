use Rattle.std.proofs.Common.{◌≡◌, ◌-◌, ◌&&◌, not}
use Rattle.std.specs.List.{list_all, range_with_len}
use Rattle.board_base.specs.Board.{at, is_in, is_like}
use Rattle.cage_rules.specs.Regions.{beginner, is_dead, region}
use Rattle.cage_rules.proofs.roaming.is_dead.Given as goal

abbrev pub invariant-loop-i : goal.invariant-loop-i
invariant-loop-i l = list_all (λ t. not (is_in (region l.fn.frozen l.fn.home) t && is_like (beginner l.fn.home) (at l.board t))) (range_with_len l.i (64 - l.i)) ≡ is_dead l.board l.fn.frozen l.fn.home
