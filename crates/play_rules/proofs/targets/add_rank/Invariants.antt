use Rattle.std.proofs.Common.{◌≡◌, ℕ, ◌<◌, true}
use Rattle.board_base.specs.Board.{file, is_in, rank}
use Rattle.play_rules.specs.Reach.{IsWithin}
use Rattle.play_rules.specs.Ways.{may_step}
use Rattle.play_rules.proofs.targets.add_rank.Given as goal

-- the squares on lower files are in
abbrev pub invariant-loop-file : goal.invariant-loop-file
invariant-loop-file l =
    IsWithin l.initial.targets l.targets × ((t : ℕ) → rank t ≡ l.row → may_step l.man.colour l.man.kind l.from t ≡ true → file t < l.file → is_in l.targets t ≡ true)
