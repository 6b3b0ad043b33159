use Rattle.std.proofs.Common.{◌≡◌, ℕ, ◌<◌, true}
use Rattle.board_base.specs.Board.{is_in, rank}
use Rattle.play_rules.specs.Reach.{IsWithin}
use Rattle.play_rules.specs.Ways.{may_step}
use Rattle.play_rules.proofs.targets.add_steps.Given as goal

-- the squares on lower ranks are in
abbrev pub invariant-loop-row : goal.invariant-loop-row
invariant-loop-row l =
    IsWithin l.initial.targets l.targets × ((t : ℕ) → t < 64 → may_step l.man.colour l.man.kind l.from t ≡ true → rank t < l.row → is_in l.targets t ≡ true)
