-- Men who give check from near: such a check can't be uncovered, so the man who gives it has just come.
use Rattle.std.specs.Prelude.{ℕ, ◌≡◌, ◌≢◌, ◌<◌, Bool, true, false, ◌&&◌, ◌==◌, length, List, Option, Some, None}
use Rattle.std.specs.List.{list_any, range_with_len}
use Rattle.board_base.specs.Board.{Places, at, is_in, is_of, is_the, opponent}
use Rattle.board_base.specs.Attacks.{attacks_from, king_distance}
use Rattle.board_base.specs.declared.men.Colour.{Colour}
use Rattle.board_base.specs.declared.men.Kind.TheVariants.{Pawn, Knight, Bishop, Rook, Queen, King}
use Rattle.board_base.specs.declared.men.Man.{Man}

-- a man on s is near k: a knight or a pawn wherever he stands, a bishop, a rook or a queen on the next square
abbrev pub is_near : Option Man → ℕ → ℕ → Bool
is_near None s k = false
is_near (Some m) s k = elim m.kind [ Pawn ↦ true | Knight ↦ true | Bishop ↦ king_distance s k == 1 | Rook ↦ king_distance s k == 1 | Queen ↦ king_distance s k == 1 | King ↦ false ]

-- Article 3.9: the man on s, of the other side, attacks a king of c on k, and is near him
abbrev pub checks_nearby : Places → Colour → ℕ → ℕ → Bool
checks_nearby board c s k = is_the c King (at board k) && is_of (opponent c) (at board s) && attacks_from board s k && is_near (at board s) s k

-- the man on s checks some king of c from near
unfoldable pub is_near_checker : Places → Colour → ℕ → Bool
is_near_checker board c s = list_any (λ k. checks_nearby board c s k) (range_with_len 0 64)

-- Where the last move can have ended, with c to move: anywhere if no man checks from near, on his square if one does, and nowhere
-- if more do.
pub record AreArrivals (board : Places) (c : Colour) (set : List Bool) : Type 0 where
  pub size : length set ≡ 64
  pub none : ((s : ℕ) → s < 64 → is_near_checker board c s ≡ false) → (t : ℕ) → t < 64 → is_in set t ≡ true
  pub one : (s : ℕ) → s < 64 → is_near_checker board c s ≡ true → ((r : ℕ) → r < 64 → is_near_checker board c r ≡ true → r ≡ s) → (t : ℕ) → t < 64 → is_in set t ≡ (t == s)
  pub more : (s r : ℕ) → s < 64 → r < 64 → is_near_checker board c s ≡ true → is_near_checker board c r ≡ true → s ≢ r → (t : ℕ) → t < 64 → is_in set t ≡ false
  pub enough : (t : ℕ) → t < 64 → ((s : ℕ) → s < 64 → is_near_checker board c s ≡ true → s ≡ t) → is_in set t ≡ true
