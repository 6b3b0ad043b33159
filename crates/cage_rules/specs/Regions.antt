-- Regions: where a man of the array can have gone while the men of a frozen set stood.
use Rattle.std.specs.Prelude.{ℕ, ◌≡◌, Bool, false, cond, ◌&&◌, ◌||◌, not, ◌==◌, IsTrue, List, length, map, Option, Some, None}
use Rattle.std.specs.List.{list_all, list_any, range_with_len}
use Rattle.board_base.specs.Board.{Places, at, initial_array, is_a, is_in, man, opponent, is_like}
use Rattle.board_base.specs.Attacks.{files_apart, kind_attacks, one_ahead}
use Rattle.board_base.specs.declared.men.Colour.TheVariants.{White}
use Rattle.board_base.specs.declared.men.Kind.TheVariants.{Pawn, Knight, Bishop, Rook, Queen}
use Rattle.board_base.specs.declared.men.Man.{Man}
use Rattle.play_rules.specs.Laws.{is_end}
use Rattle.play_rules.specs.Reach.{IsWithin}
use Rattle.cage_rules.specs.Sets.{each_set, squares_that}

-- Article 2.3: the man who begins on h, unless he is left out
unfoldable pub beginner : ℕ → Option Man
beginner h = at initial_array h

-- Article 2.3: h is the home of a knight, a bishop, a rook or a queen
abbrev pub is_officer_home : ℕ → Bool
is_officer_home h = is_a Knight (beginner h) || is_a Bishop (beginner h) || is_a Rook (beginner h) || is_a Queen (beginner h)

-- on a walled square stands somebody; whose man it is makes no difference
abbrev pub wall : Bool → Option Man
wall b = cond b (man White Pawn) None

-- the board on which exactly the squares of the set are occupied
unfoldable pub walls : List Bool → Places
walls set = map (λ s. wall (is_in set s)) (range_with_len 0 64)

-- Articles 3.2 to 3.6: on that board this man goes from t to u, and u isn't in the set
abbrev pub may_roam : List Bool → Option Man → ℕ → ℕ → Bool
may_roam set None t u = false
may_roam set (Some m) t u = kind_attacks (walls set) m.colour m.kind t u && not (is_in set u)

-- this man leaves these squares where he goes from t to u
abbrev pub is_left : List Bool → Option Man → List Bool → ℕ → ℕ → Bool
is_left set man within t u = is_in within t && may_roam set man t u && not (is_in within u)

-- he leaves them nowhere
unfoldable pub is_closed : List Bool → Option Man → List Bool → Bool
is_closed set man within = list_all (λ t. list_all (λ u. not (is_left set man within t u)) (range_with_len 0 64)) (range_with_len 0 64)

-- The region of this man from h is the least set of squares that has h and that he doesn't leave: the squares that each such set has.
unfoldable pub region_from : List Bool → Option Man → ℕ → List Bool
region_from set man h = squares_that (λ s. each_set (λ within. not (is_in within h && is_closed set man within) || is_in within s))

-- the region of h is that of the array's man on h
abbrev pub region : List Bool → ℕ → List Bool
region set h = region_from set (beginner h) h

-- The set has h, this man doesn't leave it, and it is within each set of which both are true. Only his region from h is so.
pub record IsLeastFrom (set : List Bool) (man : Option Man) (h : ℕ) (found : List Bool) : Type 0 where
  pub size : length found ≡ 64
  pub home : IsTrue (is_in found h)
  pub closed : IsTrue (is_closed set man found)
  pub least : (within : List Bool) → IsTrue (is_in within h) → IsTrue (is_closed set man within) → IsWithin found within

-- the same of the array's man on h; only the region of h is so
abbrev pub IsLeastClosed : List Bool → ℕ → List Bool → Type 0
IsLeastClosed set h found = IsLeastFrom set (beginner h) h found

-- no man of the colour and kind of the array's man on h stands in his region
unfoldable pub is_dead : Places → List Bool → ℕ → Bool
is_dead board set h = list_all (λ t. not (is_in (region set h) t && is_like (beginner h) (at board t))) (range_with_len 0 64)

-- Article 3.7: from u a pawn of the other side than this man's captures on t
abbrev pub is_struck : Option Man → ℕ → ℕ → Bool
is_struck None t u = false
is_struck (Some m) t u = one_ahead (opponent m.colour) u t && (files_apart u t == 1)

-- a pawn may do so: u is neither on rank 1 or 8, where no pawn stands, nor in the set, whose men stay
abbrev pub may_strike : List Bool → Option Man → ℕ → ℕ → Bool
may_strike set man t u = is_struck man t u && not (is_end u || is_in set u)

-- from some square of the board an enemy pawn may capture this man on t
unfoldable pub is_exposed : List Bool → Option Man → ℕ → Bool
is_exposed set man t = list_any (may_strike set man t) (range_with_len 0 64)

-- no square of the region is exposed: each of those from which an enemy pawn captures there is off the board, on rank 1 or 8, or in the set
unfoldable pub is_shielded : List Bool → ℕ → Bool
is_shielded set h = list_all (λ t. not (is_in (region set h) t && is_exposed set (beginner h) t)) (range_with_len 0 64)
