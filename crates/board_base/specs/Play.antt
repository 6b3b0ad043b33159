-- The board after a move.
use Rattle.std.specs.Prelude.{ℕ, ◌+◌, ◌-◌, ◌*◌, Bool, cond, ◌&&◌, not, ◌==◌, List, [], ◌∷◌, slice_set, Option, Some, None, is_none, slice_index_or}
use Rattle.std.specs.List.{find}
use Rattle.board_base.specs.Board.{Places, at, is_empty, is_a, file, rank}
use Rattle.board_base.specs.Attacks.{files_apart, one_ahead}
use Rattle.board_base.specs.declared.men.Man.{Man}
use Rattle.board_base.specs.declared.men.Colour.{Colour}
use Rattle.board_base.specs.declared.men.Colour.TheVariants.{White, Black}
use Rattle.board_base.specs.declared.men.Kind.{Kind}
use Rattle.board_base.specs.declared.men.Kind.TheVariants.{Pawn, King}
use Rattle.board_base.specs.declared.moves.Move.{Move}
use Rattle.board_base.specs.declared.castles.Castle.{Castle}
use Rattle.board_base.specs.declared.castles.Castle.TheVariants.{WhiteShort, WhiteLong, BlackShort, BlackLong}

-- the colour whose castling it is
abbrev pub side : Castle → Colour
side WhiteShort = White
side WhiteLong = White
side BlackShort = Black
side BlackLong = Black

-- Article 3.8: where the king of the castling stands at first, e1 or e8
abbrev pub king_home : Castle → ℕ
king_home WhiteShort = 4
king_home WhiteLong = 4
king_home BlackShort = 60
king_home BlackLong = 60

-- Article 3.8: where the rook of the castling stands at first, h1, a1, h8 or a8
abbrev pub rook_home : Castle → ℕ
rook_home WhiteShort = 7
rook_home WhiteLong = 0
rook_home BlackShort = 63
rook_home BlackLong = 56

-- Article 3.8: where the king goes, two squares towards the rook: g1, c1, g8 or c8
abbrev pub king_target : Castle → ℕ
king_target WhiteShort = 6
king_target WhiteLong = 2
king_target BlackShort = 62
king_target BlackLong = 58

-- Article 3.8: the square that the king crosses, where the rook comes to stand: f1, d1, f8 or d8
abbrev pub crossed : Castle → ℕ
crossed WhiteShort = 5
crossed WhiteLong = 3
crossed BlackShort = 61
crossed BlackLong = 59

-- the four castlings, in the order K, Q, k, q
abbrev pub all_castles : List Castle
all_castles = WhiteShort ∷ WhiteLong ∷ BlackShort ∷ BlackLong ∷ []

-- Article 3.8: the castling that the move is on this board: a king goes two squares from e1 or e8 along its rank
abbrev pub castling : Places → Move → Option Castle
castling board m = cond (is_a King (at board m.from)) (find (λ x. (king_home x == m.from) && (king_target x == m.to)) all_castles) None

-- the castling whose king goes from here to there
abbrev pub castling_from : ℕ → ℕ → Option Castle
castling_from from to = find (λ x. (king_home x == from) && (king_target x == to)) all_castles

-- Article 3.7: a pawn goes to an empty square on another file, so it captures en passant
abbrev pub goes_en_passant : Places → Move → Bool
goes_en_passant board m = is_a Pawn (at board m.from) && not (file m.from == file m.to) && is_empty (at board m.to)

-- Article 3.7: where the pawn stands that a capture en passant takes: the target's file and the origin's rank
abbrev pub en_passant_victim : Move → ℕ
en_passant_victim m = 8 * rank m.from + file m.to

-- Article 3.7: the place with its man promoted to this kind, if one is given; he keeps his colour
abbrev pub promoted : Option Kind → Option Man → Option Man
promoted None place = place
promoted (Some k) None = None
promoted (Some k) (Some m) = Some (record m { kind = k })

-- What stands on one square goes to another, and becomes what `become` says; what stood there is gone. The places may hold
-- men, or whatever else goes where the men go.
abbrev pub carried : {A : Type 0} → (Option A → Option A) → List (Option A) → ℕ → ℕ → List (Option A)
carried become places from to = slice_set (slice_set places from None) to (become (slice_index_or places from None))

-- Where a move takes what stands on the places. In a castling the rook goes too, from its home to the square that the king
-- crosses; in a capture en passant the captured pawn's square is emptied.
abbrev pub moved : {A : Type 0} → (Option A → Option A) → Move → Option Castle → Bool → List (Option A) → List (Option A)
moved become m (Some x) en_passant places = carried (λ place. place) (carried (λ place. place) places m.from m.to) (rook_home x) (crossed x)
moved become m None en_passant places =
    cond en_passant (slice_set (carried become places m.from m.to) (en_passant_victim m) None) (carried become places m.from m.to)

-- Articles 3.1, 3.7 and 3.8: the board after the move
unfoldable pub play : Places → Move → Places
play board m = moved (promoted m.promo) m (castling board m) (goes_en_passant board m) board

-- the square one rank back from s, as this colour sees it
abbrev pub behind : Colour → ℕ → ℕ
behind White s = s - 8
behind Black s = s + 8

-- the square one rank on from s, as this colour sees it
abbrev pub ahead : Colour → ℕ → ℕ
ahead White s = s + 8
ahead Black s = s - 8

-- Article 3.7: the rank from which a pawn of this colour takes en passant, counted from 0: the fifth that it sees
abbrev pub en_passant_rank : Colour → ℕ
en_passant_rank White = 4
en_passant_rank Black = 3

-- Article 3.7: the double step that a capture en passant by this colour answers, over its target, if the move may be one
abbrev pub double_of : Move → Colour → Option Move
double_of m c =
    cond ((rank m.from == en_passant_rank c) && one_ahead c m.from m.to && (files_apart m.from m.to == 1) && is_none m.promo) (Some (record { from = ahead c m.to; to = behind c m.to; promo = None })) None

-- Article 3.7: the double step over a square by the other side than this colour
abbrev pub double_over : ℕ → Colour → Move
double_over s c = record { from = ahead c s; to = behind c s; promo = None }
