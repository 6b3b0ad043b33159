use Rattle.std.proofs.Common.{◌≡◌, ℕ, ◌<◌, true}
use Rattle.board_base.specs.Board.{is_in}
use Rattle.board_base.specs.Attacks.{is_open, king_distance}
use Rattle.play_rules.specs.Reach.{IsWithin}
use Rattle.play_rules.proofs.lines.add_line.Given as goal
use Rattle.board_base.specs.LinesThrough.{LiesAlong}

-- the squares nearer than this many steps are in
abbrev pub invariant-loop-steps : goal.invariant-loop-steps
invariant-loop-steps l =
    IsWithin l.initial.targets l.targets × ((t : ℕ) → t < 64 → LiesAlong l.direction l.from t → is_open l.board l.from t ≡ true → king_distance l.from t < l.steps → is_in l.targets t ≡ true)
