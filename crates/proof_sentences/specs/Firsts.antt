-- The squares and the castling that are named: the first of their kind.
use Rattle.std.specs.Prelude.{ℕ, ◌≡◌, ◌<◌, Bool, false, ◌&&◌, ◌||◌, not, IsTrue, List}
use Rattle.board_base.specs.Attacks.{attacks}
use Rattle.board_base.specs.Board.{Places, array_of, at, is_a, is_in, is_the, opponent, same_place}
use Rattle.board_base.specs.declared.men.Colour.{Colour}
use Rattle.board_base.specs.declared.men.Kind.TheVariants.{King, Pawn}
use Rattle.board_base.specs.Game.{lacks_home}
use Rattle.board_base.specs.Rights.{holds}
use Rattle.board_base.specs.declared.castles.Castle.{Castle}
use Rattle.castle_history.specs.Homes.{are_at_home}
use Rattle.play_rules.specs.Laws.{is_end}
use Rattle.query_base.specs.Asked.{Asked}

-- the first square that passes the test
abbrev pub IsFirst : (ℕ → Bool) → ℕ → Type 0
IsFirst p s = IsTrue (p s) × ((k : ℕ) → k < s → p k ≡ false)

-- a pawn stands on this square of rank 1 or 8
abbrev pub is_pawn_on_end : Places → ℕ → Bool
is_pawn_on_end board s = is_end s && is_a Pawn (at board s)

-- a king of this side stands in check on this square
abbrev pub is_king_attacked : Places → Colour → ℕ → Bool
is_king_attacked board c s = is_the c King (at board s) && attacks board s (opponent c)

-- the set has the square, which doesn't hold what it holds in the array without the men on the squares of o
abbrev pub is_changed : List Bool → Places → List Bool → ℕ → Bool
is_changed o board set s = is_in set s && not (same_place (at board s) (at (array_of o) s))

-- Article 3.8: the right to castle is held, and its king or its rook was left out, or isn't at home
abbrev pub is_astray : Asked → Castle → Bool
is_astray q x = holds q.held x && (lacks_home q.odds x || not (are_at_home q.board x))
