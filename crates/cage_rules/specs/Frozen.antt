-- Frozen sets: men who can't have come to their squares, since each way there leads from or over a square that is never empty.
use Rattle.std.specs.Prelude.{ℕ, ◌≡◌, ◌*◌, Bool, false, ◌&&◌, ◌||◌, ◌==◌, ◌⊎◌, nat_lt, IsTrue, List, Option, Some, None}
use Rattle.std.specs.List.{Contains, filter, list_any, range_with_len}
use Rattle.board_base.specs.Board.{Places, array_of, at, file, is_empty, is_in, rank}
use Rattle.board_base.specs.Attacks.{files_apart, ranks_apart, king_distance, on_one_diagonal, on_one_line, one_ahead}
use Rattle.board_base.specs.Legal.{last_rank}
use Rattle.board_base.specs.Play.{all_castles, king_home, rook_home}
use Rattle.board_base.specs.Rights.{Rights, holds}
use Rattle.board_base.specs.declared.men.Man.{Man}
use Rattle.board_base.specs.declared.men.Colour.{Colour}
use Rattle.board_base.specs.declared.men.Colour.TheVariants.{White, Black}
use Rattle.board_base.specs.declared.men.Kind.{Kind}
use Rattle.board_base.specs.declared.men.Kind.TheVariants.{Pawn, Knight, Bishop, Rook, Queen, King}
use Rattle.query_base.specs.Asked.{Asked}

-- Article 3.7: t is the square behind s, as a pawn of this colour sees it, or one of the two diagonally behind s
abbrev pub is_behind : Colour → ℕ → ℕ → Bool
is_behind c s t = one_ahead c t s && nat_lt (files_apart s t) 2

-- Article 3.7: s is beyond the rank on which pawns of this colour begin, and not on the one on which they are promoted
abbrev pub is_past_home : Colour → ℕ → Bool
is_past_home White s = nat_lt 1 (rank s) && nat_lt (rank s) 7
is_past_home Black s = nat_lt 0 (rank s) && nat_lt (rank s) 6

-- Article 3.7: from t a pawn of this colour comes to s and is promoted there
abbrev pub is_before_promotion : Colour → ℕ → ℕ → Bool
is_before_promotion c s t = (rank s == last_rank c) && is_behind c s t

-- t is next to s
abbrev pub is_next : ℕ → ℕ → Bool
is_next s t = king_distance s t == 1

-- A man of this colour and kind may have come to s from t, or over it as the last square: a pawn that has moved from the three squares
-- behind him, of which a double step crosses the middle one (article 3.7); a knight from a knight's move away (3.6); a bishop, a rook or a
-- queen over the first square of one of their lines (3.2 to 3.5); each of these four also as the pawn that was promoted on s (3.7.3.3); a
-- king from next to him (3.8). Castling is covered: it leaves the king's home empty, the first square of a line of the rook next to him.
unfoldable pub is_entry : Colour → Kind → ℕ → ℕ → Bool
is_entry c Pawn s t = is_past_home c s && is_behind c s t
is_entry c Knight s t = (files_apart s t * ranks_apart s t == 2) || is_before_promotion c s t
is_entry c Bishop s t = (is_next s t && on_one_diagonal s t) || is_before_promotion c s t
is_entry c Rook s t = (is_next s t && on_one_line s t) || is_before_promotion c s t
is_entry c Queen s t = is_next s t || is_before_promotion c s t
is_entry c King s t = is_next s t

-- the same of a man who was never promoted, and of a pawn that never captured
unfoldable pub is_plain_entry : Colour → Kind → ℕ → ℕ → Bool
is_plain_entry c Pawn s t = is_past_home c s && (one_ahead c t s && (file s == file t))
is_plain_entry c Knight s t = files_apart s t * ranks_apart s t == 2
is_plain_entry c Bishop s t = is_next s t && on_one_diagonal s t
is_plain_entry c Rook s t = is_next s t && on_one_line s t
is_plain_entry c Queen s t = is_next s t
is_plain_entry c King s t = is_next s t

-- the man on s, if there is one, may have come so
abbrev pub may_enter : Option Man → ℕ → ℕ → Bool
may_enter None s t = false
may_enter (Some m) s t = is_entry m.colour m.kind s t

-- the squares that must be in the set for the man on s: each by which he may have come there
unfoldable pub must_be_in : Places → ℕ → List ℕ
must_be_in board s = filter (may_enter (at board s) s) (range_with_len 0 64)

-- the set has each square that must be in it for the man on s
abbrev pub IsCaged : Places → List Bool → ℕ → Type 0
IsCaged board set s = (t : ℕ) → Contains (must_be_in board s) t → IsTrue (is_in set t)

-- Article 3.8: the king or the rook of a castling whose right is held has its home on s
abbrev pub is_held_home : Rights → ℕ → Bool
is_held_home held s = list_any (λ x. holds held x && ((king_home x == s) || (rook_home x == s))) all_castles

-- A frozen set: each of its squares is occupied, and is a home of a right that is held, or its man is caged by men of the set.
pub record IsFrozen (q : Asked) (set : List Bool) : Type 0 where
  pub occupied : (s : ℕ) → IsTrue (is_in set s) → is_empty (at q.board s) ≡ false
  pub caged : (s : ℕ) → IsTrue (is_in set s) → IsTrue (is_held_home q.held s) ⊎ IsCaged q.board set s

-- Article 2.3: each square of the set holds what it holds in the array without the men on the squares of o
abbrev pub IsAsArray : List Bool → Places → List Bool → Type 0
IsAsArray o board set = (s : ℕ) → IsTrue (is_in set s) → at board s ≡ at (array_of o) s
