-- Inner: no public clause cites this file.
-- The search for the move that a text fits.
use Rattle.std.specs.Prelude.{ℕ, None}
use Rattle.board_base.specs.Play.{king_target}
use Rattle.board_base.specs.declared.men.Colour.{Colour}
use Rattle.board_base.specs.declared.moves.Move.{Move}
use Rattle.play_rules.specs.Listed.{move_of}
use Rattle.san_text.specs.Fits.{short_of, long_of}
use Rattle.san_text.specs.declared.grammar.San.{San}
use Rattle.san_text.specs.declared.grammar.San.TheVariants.{Short, Long, Goes}

-- of the moves from a square the only one that what is said may fit
abbrev pub candidate : Colour → San → ℕ → Move
candidate c Short s = move_of s (king_target (short_of c)) None
candidate c Long s = move_of s (king_target (long_of c)) None
candidate c (Goes d) s = move_of s d.to d.promo
