-- Inner: no public clause cites this file.
-- Which moves may have brought a man to his square, by his own way of moving alone.
use Rattle.std.specs.Prelude.{ℕ, ◌≡◌, ◌⊎◌, Bool, false, ◌&&◌, ◌||◌, ◌==◌, Option, Some, None}
use Rattle.board_base.specs.Board.{Places, at, is_empty, rank, same_kind}
use Rattle.board_base.specs.Attacks.{on_one_diagonal, on_one_line}
use Rattle.board_base.specs.Legal.{last_rank}
use Rattle.play_rules.specs.Ways.{may_step}
use Rattle.board_base.specs.declared.men.Man.{Man}
use Rattle.board_base.specs.declared.men.Colour.{Colour}
use Rattle.board_base.specs.declared.men.Kind.{Kind}
use Rattle.board_base.specs.declared.men.Kind.TheVariants.{Pawn, Knight, Bishop, Rook, Queen, King}
use Rattle.board_base.specs.declared.moves.Move.{Move}

-- a man may go so on an empty board, or step or capture so
unfoldable pub may_go_alone : Colour → Kind → ℕ → ℕ → Bool
may_go_alone c Pawn s t = may_step c Pawn s t
may_go_alone c Knight s t = may_step c Knight s t
may_go_alone c King s t = may_step c King s t
may_go_alone c Bishop s t = on_one_diagonal s t
may_go_alone c Rook s t = on_one_line s t
may_go_alone c Queen s t = on_one_line s t || on_one_diagonal s t

-- the man on the place, a move's target, may have made it, as a pawn if he was promoted
abbrev pub may_have_made : Option Man → Move → Bool
may_have_made None m = false
may_have_made (Some man) m = elim m.promo [
  | None ↦ may_go_alone man.colour man.kind m.from m.to
  | Some k ↦ same_kind k man.kind && (rank m.to == last_rank man.colour) && may_go_alone man.colour Pawn m.from m.to
]

-- the man on the place, a move's target, stands on the last rank of his colour
abbrev pub reaches_last : Option Man → ℕ → Bool
reaches_last None t = false
reaches_last (Some man) t = rank t == last_rank man.colour

-- the man on the place, on t, can't have come from s: another stands there, or he doesn't go so, with any promotion
abbrev pub IsNoWay : Places → Option Man → ℕ → ℕ → Type 0
IsNoWay board place t s = (is_empty (at board s) ≡ false) ⊎ ((promo : Option Kind) → may_have_made place (record { from = s; to = t; promo = promo }) ≡ false)
