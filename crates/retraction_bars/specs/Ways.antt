-- The ways in which a man may have come to his square.
use Rattle.std.specs.Prelude.{ℕ, Bool, true, ◌&&◌, ◌||◌, not, is_some, Some, None}
use Rattle.board_base.specs.Board.{Places, at, is_a, is_of}
use Rattle.board_base.specs.Legal.{may_go, promotion_fits}
use Rattle.board_base.specs.declared.men.Colour.{Colour}
use Rattle.board_base.specs.declared.men.Kind.TheVariants.{Pawn}
use Rattle.board_base.specs.declared.moves.Move.{Move}
use Rattle.board_base.specs.declared.unmoves.Unmove.{Unmove}
use Rattle.play_rules.specs.Laws.{is_end}
use Rattle.query_base.specs.Asked.{Asked}
use Rattle.unmove_gen.specs.Listed.{answered, before, every_right, mover}

-- Article 3.7: what the move made of a pawn, if it did, stands on the target
abbrev pub keeps_kind : Asked → Move → Bool
keeps_kind q m = elim m.promo [ None ↦ true | Some k ↦ is_a k (at q.board m.to) ]

-- Article 3.7: no pawn stands there on rank 1 or 8
abbrev pub has_no_pawn_on_end : Places → ℕ → Bool
has_no_pawn_on_end board s = not (is_end s && is_a Pawn (at board s))

-- Article 3.7: a move that is marked en passant is a pawn's past another
abbrev pub passes_well : Places → Colour → Unmove → Bool
passes_well board c u = not u.ep || (is_a Pawn (at board u.mv.from) && is_some (answered u c))

-- Articles 3.2 to 3.8: the man on the origin may go so, with every castling allowed, after the double step that he answered
abbrev pub may_come : Places → Colour → Unmove → Bool
may_come board c u = may_go board c every_right (answered u c) u.mv

-- on the board before it, the man goes so
abbrev pub comes_so : Places → Colour → Unmove → Bool
comes_so board c u =
    has_no_pawn_on_end board u.mv.from && has_no_pawn_on_end board u.mv.to && passes_well board c u && promotion_fits board c u.mv && may_come board c u

-- a man of the side that moved stands on the target, and may have come there so, as men move
unfoldable pub is_way : Asked → Unmove → Bool
is_way q u = is_of (mover q) (at q.board u.mv.to) && (keeps_kind q u.mv && comes_so (before q u) (mover q) u)
