use Rattle.std.proofs.Common.{◌≡◌, ◌-◌, ◌&&◌}
use Rattle.std.specs.List.{list_any, range_with_len}
use Rattle.board_base.specs.Attacks.{attacks_from}
use Rattle.board_base.specs.Board.{at, is_the, opponent}
use Rattle.board_base.specs.declared.men.Kind.TheVariants.{King}
use Rattle.retraction_bars.specs.Bars.{attacks_a_king}
use Rattle.retraction_bars.proofs.checks.attacks_a_king.Given as goal

abbrev pub invariant-loop-i : goal.invariant-loop-i
invariant-loop-i l =
    list_any (λ k. is_the (opponent l.colour) King (at l.board k) && attacks_from l.board l.s k) (range_with_len l.i (64 - l.i)) ≡ attacks_a_king l.board l.colour l.s
