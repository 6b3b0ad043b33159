use Rattle.std.proofs.Common.{◌≡◌, ℕ, ◌<◌, true, false}
use Rattle.board_base.specs.Board.{at, is_empty}
use Rattle.board_base.specs.Attacks.{is_open, king_distance}
use Rattle.board_base.specs.Ways.{along}
use Rattle.board_base.proofs.lines.first_man.Given as goal
use Rattle.board_base.specs.LinesThrough.{LiesAlong}

-- no man that the line is open to stands so near
abbrev pub invariant-loop : goal.invariant-loop
invariant-loop l =
    (l.number ≡ along l.fn.direction l.fn.from l.counter) × (l.number < 64) × ((t : ℕ) → t < 64 → LiesAlong l.fn.direction l.fn.from t → is_open l.board l.fn.from t ≡ true → is_empty (at l.board t) ≡ false → l.counter < king_distance l.fn.from t)
