-- The tables of ways have the squares from which a man may come on an empty board.
use Rattle.std.proofs.Common.{◌≡◌, ℕ, ◌<◌, ◌==◌, Bool, true, List, get_or, refl, arith}
use Rattle.std.specs.Int.{bit_at}
use Rattle.std.specs.Bool.{beq}
use Rattle.std.specs.List.{list_all, range_with_len}
use Rattle.board_base.specs.Attacks.{distance}
use Rattle.board_base.specs.declared.men.Colour.{Colour}
use Rattle.board_base.specs.declared.men.Colour.TheVariants.{White, Black}
use Rattle.board_base.specs.declared.men.Kind.{Kind}
use Rattle.board_base.specs.declared.men.Kind.TheVariants.{Pawn, Knight, Bishop, Rook, King}
use Rattle.general_lemmas.proofs.Ranges.{all_in_range}
use Rattle.general_lemmas.proofs.Truth.{beq-same}
use Rattle.play_rules.specs.Ways.{may_step}
use Rattle.unmove_gen.specs.Ways.{may_go_alone}
use Rattle.unmove_gen.specs.declared.way_tables.TheConstants.{WHITE_PAWNS, BLACK_PAWNS, KNIGHTS, KINGS, BISHOPS, ROOKS}

-- the bit of each square in the entry of each square says whether the man may come so
abbrev is_right : List ℕ → Colour → Kind → Bool
is_right table c k = list_all (λ t. list_all (λ s. beq (bit_at (get_or table t 0) s == 1) (may_go_alone c k s t)) (range_with_len 0 64)) (range_with_len 0 64)

right-at : (table : List ℕ) (c : Colour) (k : Kind) → is_right table c k ≡ true → (s t : ℕ) → s < 64 → t < 64 → (bit_at (get_or table t 0) s == 1) ≡ may_go_alone c k s t
right-at table c k right s t from to =
    beq-same _ _ (all_in_range (λ r. beq (bit_at (get_or table t 0) r == 1) (may_go_alone c k r t)) 0 64 s (all_in_range (λ n. list_all (λ r. beq (bit_at (get_or table n 0) r == 1) (may_go_alone c k r n)) (range_with_len 0 64)) 0 64 t right (omega arith) (omega arith)) (omega arith) (omega arith))

white_pawns : is_right WHITE_PAWNS White Pawn ≡ true
unfolding may_go_alone may_step distance
white_pawns = refl

black_pawns : is_right BLACK_PAWNS Black Pawn ≡ true
unfolding may_go_alone may_step distance
black_pawns = refl

knights : is_right KNIGHTS White Knight ≡ true
unfolding may_go_alone may_step distance
knights = refl

kings : is_right KINGS White King ≡ true
unfolding may_go_alone may_step distance
kings = refl

bishops : is_right BISHOPS White Bishop ≡ true
unfolding may_go_alone distance
bishops = refl

rooks : is_right ROOKS White Rook ≡ true
unfolding may_go_alone
rooks = refl

pub white_pawns-at : (s t : ℕ) → s < 64 → t < 64 → (bit_at (get_or WHITE_PAWNS t 0) s == 1) ≡ may_go_alone White Pawn s t
white_pawns-at = right-at WHITE_PAWNS White Pawn white_pawns

pub black_pawns-at : (s t : ℕ) → s < 64 → t < 64 → (bit_at (get_or BLACK_PAWNS t 0) s == 1) ≡ may_go_alone Black Pawn s t
black_pawns-at = right-at BLACK_PAWNS Black Pawn black_pawns

pub knights-at : (c : Colour) (s t : ℕ) → s < 64 → t < 64 → (bit_at (get_or KNIGHTS t 0) s == 1) ≡ may_go_alone c Knight s t
unfolding may_go_alone may_step
knights-at c = right-at KNIGHTS White Knight knights

pub kings-at : (c : Colour) (s t : ℕ) → s < 64 → t < 64 → (bit_at (get_or KINGS t 0) s == 1) ≡ may_go_alone c King s t
unfolding may_go_alone may_step
kings-at c = right-at KINGS White King kings

pub bishops-at : (c : Colour) (s t : ℕ) → s < 64 → t < 64 → (bit_at (get_or BISHOPS t 0) s == 1) ≡ may_go_alone c Bishop s t
unfolding may_go_alone
bishops-at c = right-at BISHOPS White Bishop bishops

pub rooks-at : (c : Colour) (s t : ℕ) → s < 64 → t < 64 → (bit_at (get_or ROOKS t 0) s == 1) ≡ may_go_alone c Rook s t
unfolding may_go_alone
rooks-at c = right-at ROOKS White Rook rooks
