-- Inner: no public clause cites this file.
-- How pawns may have come to a square.
use Rattle.std.specs.Prelude.{ℕ, Bool, cond, ◌&&◌, ◌==◌}
use Rattle.board_base.specs.Board.{file}
use Rattle.board_base.specs.Attacks.{one_ahead}
use Rattle.board_base.specs.declared.men.Colour.{Colour}
use Rattle.cage_rules.specs.Frozen.{is_behind, is_past_home}

-- a pawn of this colour may have come to s from t; where he is marked, straight on
abbrev pub pawn_enters : Bool → Colour → ℕ → ℕ → Bool
pawn_enters marked c s t = is_past_home c s && cond marked (one_ahead c t s && (file s == file t)) (is_behind c s t)
