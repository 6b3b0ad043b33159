-- The squares of the four castlings.
use Rattle.std.proofs.Common.{◌≡◌, ◌≢◌, ℕ, ◌+◌, ◌*◌, ◌<◌, ◌==◌, true, false, not, refl}
use Rattle.std.proofs.lemmas.Bool.{and_parts, eqb-false, eqb-true, ltb-true, not-true}
use Rattle.std.specs.Prelude.{nat_lt}
use Rattle.std.specs.List.{list_all}
use Rattle.board_base.specs.Board.{Places, at, is_empty, rank}
use Rattle.board_base.specs.Attacks.{distance, is_open, king_distance, on_the_way, ranks_apart, toward}
use Rattle.board_base.specs.Play.{all_castles, crossed, king_home, king_target, rook_home}
use Rattle.board_base.specs.declared.castles.Castle.{Castle}
use Rattle.board_base.specs.declared.castles.Castle.TheVariants.{WhiteShort, WhiteLong, BlackShort, BlackLong}
use Rattle.board_base.proofs.EachCastle.{each-castle}

inside : (f : Castle → ℕ) → list_all (λ x. nat_lt (f x) 64) all_castles ≡ true → (x : Castle) → f x < 64
inside f h x = ltb-true _ _ (each-castle (λ y. nat_lt (f y) 64) h x)

apart : (f g : Castle → ℕ) → list_all (λ x. not (f x == g x)) all_castles ≡ true → (x : Castle) → f x ≢ g x
apart f g h x = eqb-false _ _ (not-true _ (each-castle (λ y. not (f y == g y)) h x))

equal : (f g : Castle → ℕ) → list_all (λ x. f x == g x) all_castles ≡ true → (x : Castle) → f x ≡ g x
equal f g h x = eqb-true _ _ (each-castle (λ y. f y == g y) h x)

pub king_home-within : (x : Castle) → king_home x < 64
king_home-within = inside king_home refl

pub king_target-within : (x : Castle) → king_target x < 64
king_target-within = inside king_target refl

pub rook_home-within : (x : Castle) → rook_home x < 64
rook_home-within = inside rook_home refl

pub crossed-within : (x : Castle) → crossed x < 64
crossed-within = inside crossed refl

pub crossed-not-home : (x : Castle) → crossed x ≢ king_home x
crossed-not-home = apart crossed king_home refl

pub crossed-not-target : (x : Castle) → crossed x ≢ king_target x
crossed-not-target = apart crossed king_target refl

pub rook_home-not-home : (x : Castle) → rook_home x ≢ king_home x
rook_home-not-home = apart rook_home king_home refl

pub rook_home-not-target : (x : Castle) → rook_home x ≢ king_target x
rook_home-not-target = apart rook_home king_target refl

pub rook_home-not-crossed : (x : Castle) → rook_home x ≢ crossed x
rook_home-not-crossed = apart rook_home crossed refl

pub rank-rook_home : (x : Castle) → rank (rook_home x) ≡ rank (king_home x)
rank-rook_home = equal (λ x. rank (rook_home x)) (λ x. rank (king_home x)) refl

pub rank-crossed : (x : Castle) → rank (crossed x) ≡ rank (king_home x)
rank-crossed = equal (λ x. rank (crossed x)) (λ x. rank (king_home x)) refl

-- kings at home on one rank are one king
pub king_home-by_rank : (x : Castle) → king_home x ≡ 8 * rank (king_home x) + 4
king_home-by_rank = equal king_home (λ x. 8 * rank (king_home x) + 4) refl

-- a king goes farther in a castling than in his other moves
pub castle-two : (x : Castle) → (king_distance (king_home x) (king_target x) == 1) ≡ false
unfolding king_distance distance
castle-two x = not-true _ (each-castle (λ y. not (king_distance (king_home y) (king_target y) == 1)) refl x)

pub castle-one-rank : (x : Castle) → (ranks_apart (king_home x) (king_target x) == 2) ≡ false
unfolding distance
castle-one-rank x = not-true _ (each-castle (λ y. not (ranks_apart (king_home y) (king_target y) == 2)) refl x)

-- where the way from the king to the rook is open, the two squares next to the king are empty
pub crossed-empty : (board : Places) (x : Castle) → is_open board (king_home x) (rook_home x) ≡ true → is_empty (at board (crossed x)) ≡ true
unfolding king_distance distance on_the_way toward
crossed-empty board WhiteShort h = (and_parts _ _ h).0
crossed-empty board WhiteLong h = (and_parts _ _ h).0
crossed-empty board BlackShort h = (and_parts _ _ h).0
crossed-empty board BlackLong h = (and_parts _ _ h).0

pub target-empty : (board : Places) (x : Castle) → is_open board (king_home x) (rook_home x) ≡ true → is_empty (at board (king_target x)) ≡ true
unfolding king_distance distance on_the_way toward
target-empty board WhiteShort h = (and_parts _ _ (and_parts _ _ h).1).0
target-empty board WhiteLong h = (and_parts _ _ (and_parts _ _ h).1).0
target-empty board BlackShort h = (and_parts _ _ (and_parts _ _ h).1).0
target-empty board BlackLong h = (and_parts _ _ (and_parts _ _ h).1).0
