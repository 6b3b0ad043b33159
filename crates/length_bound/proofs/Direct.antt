-- The steps of a man on an empty board are as many as the distances of the squares tell.
use Rattle.std.proofs.Common.{◌≡◌, ℕ, zero, suc, ◌+◌, ◌<◌, ◌≤◌, ◌==◌, Bool, true, false, ◌&&◌, ◌||◌, not, inl, inr, refl, ap, subst, arith}
use Rattle.std.specs.Prelude.{nat_le}
use Rattle.std.specs.List.{list_any, list_all, count_by, range_with_len}
use Rattle.std.proofs.lemmas.Bool.{and_parts, both_ways, cases_Bool, cases_lt, or_cases, eqb-true, leb-true, not-true}
use Rattle.board_base.specs.Board.{no_men, same_kind}
use Rattle.board_base.specs.Attacks.{kind_attacks, distance, king_distance, on_the_way, toward}
use Rattle.board_base.specs.declared.men.Colour.TheVariants.{White}
use Rattle.board_base.specs.declared.men.Kind.{Kind}
use Rattle.board_base.specs.declared.men.Kind.TheVariants.{Pawn, Knight, Bishop, Rook, Queen, King}
use Rattle.general_lemmas.proofs.Ranges.{all_in_range, any-one}
use Rattle.general_lemmas.proofs.Counts.{one_if, count-end}
use Rattle.length_bound.specs.MoveCosts.{comes_within, steps}
use Rattle.length_bound.specs.DirectSteps.{direct_steps}
use Rattle.length_bound.proofs.Stepping.{comes-next, stays-within}

-- each test of two squares
abbrev on_squares : (ℕ → ℕ → Bool) → Bool
on_squares p = list_all (λ s. list_all (p s) (range_with_len 0 64)) (range_with_len 0 64)

on-squares : (p : ℕ → ℕ → Bool) → on_squares p ≡ true → (s t : ℕ) → s < 64 → t < 64 → p s t ≡ true
on-squares p h s t a b = all_in_range (p s) 0 64 t (all_in_range (λ s. list_all (p s) (range_with_len 0 64)) 0 64 s h (omega arith) (omega arith)) (omega arith) (omega arith)

-- where a man attacks, he has come one step at most
abbrev steps_on : Kind → ℕ → ℕ → Bool
steps_on k s t = not (kind_attacks no_men White k s t) || list_all (λ h. nat_le (direct_steps k h t) (direct_steps k h s + 1)) (range_with_len 0 64)

-- and where he came by steps, the last was one
abbrev steps_back : Kind → ℕ → ℕ → Bool
steps_back k h s = (h == s) || (direct_steps k h s == 64) || list_any (λ u. (direct_steps k h u + 1 == direct_steps k h s) && kind_attacks no_men White k u s) (range_with_len 0 64)

abbrev is_small : Kind → ℕ → ℕ → Bool
is_small k h s = nat_le (direct_steps k h s) 64 && (not (h == s) || (direct_steps k h s == 0))

kings : (on_squares (steps_on King) ≡ true) × (on_squares (steps_back King) ≡ true) × (on_squares (is_small King) ≡ true)
unfolding kind_attacks king_distance distance
kings = (refl, refl, refl)

knights : (on_squares (steps_on Knight) ≡ true) × (on_squares (steps_back Knight) ≡ true) × (on_squares (is_small Knight) ≡ true)
unfolding kind_attacks king_distance distance
knights = (refl, refl, refl)

rooks : (on_squares (steps_on Rook) ≡ true) × (on_squares (steps_back Rook) ≡ true) × (on_squares (is_small Rook) ≡ true)
unfolding kind_attacks king_distance on_the_way toward distance
rooks = (refl, refl, refl)

queens : (on_squares (steps_on Queen) ≡ true) × (on_squares (steps_back Queen) ≡ true) × (on_squares (is_small Queen) ≡ true)
unfolding kind_attacks king_distance on_the_way toward distance
queens = (refl, refl, refl)

bishops : (on_squares (steps_on Bishop) ≡ true) × (on_squares (steps_back Bishop) ≡ true) × (on_squares (is_small Bishop) ≡ true)
unfolding kind_attacks king_distance on_the_way toward distance
bishops = (refl, refl, refl)

tested : (k : Kind) → same_kind Pawn k ≡ false → (on_squares (steps_on k) ≡ true) × (on_squares (steps_back k) ≡ true) × (on_squares (is_small k) ≡ true)
tested Pawn other = absurd (both_ways (same_kind Pawn Pawn) other refl)
tested Knight other = knights
tested Bishop other = bishops
tested Rook other = rooks
tested Queen other = queens
tested King other = kings

-- how the last step was made
data Back (k : Kind) (h s : ℕ) : Type 0 where
  here : h ≡ s → Back k h s
  never : direct_steps k h s ≡ 64 → Back k h s
  after : (u : ℕ) → u < 64 → direct_steps k h u + 1 ≡ direct_steps k h s → kind_attacks no_men White k u s ≡ true → Back k h s

back : (k : Kind) (h s : ℕ) → same_kind Pawn k ≡ false → h < 64 → s < 64 → Back k h s
back k h s other a b = elim (or_cases _ _ (on-squares (steps_back k) (tested k other).1 h s a b)) [
  | inr some ↦
      let found = any-one (λ u. (direct_steps k h u + 1 == direct_steps k h s) && kind_attacks no_men White k u s) 0 64 some in
      let parts = and_parts (direct_steps k h found.number + 1 == direct_steps k h s) (kind_attacks no_men White k found.number s) found.passes in
      after found.number (omega (arith, found.below)) (eqb-true _ _ parts.0) parts.1
  | inl else ↦ elim (or_cases _ _ else) [ inl same ↦ here (eqb-true h s same) | inr far ↦ never (eqb-true _ 64 far) ]
]

on-by-one : (k : Kind) (h s t : ℕ) → same_kind Pawn k ≡ false → h < 64 → s < 64 → t < 64 → kind_attacks no_men White k s t ≡ true → direct_steps k h t ≤ direct_steps k h s + 1
on-by-one k h s t other a b c attacked = elim (or_cases _ _ (on-squares (steps_on k) (tested k other).0 s t b c)) [
  | inl not_so ↦ absurd (both_ways _ (not-true _ not_so) attacked)
  | inr all ↦ leb-true _ _ (all_in_range (λ h. nat_le (direct_steps k h t) (direct_steps k h s + 1)) 0 64 h all (omega arith) (omega arith))
]

small : (k : Kind) (h s : ℕ) → same_kind Pawn k ≡ false → h < 64 → s < 64 → direct_steps k h s ≤ 64
small k h s other a b = leb-true _ _ (and_parts _ _ (on-squares (is_small k) (tested k other).2 h s a b)).0

none-here : (k : Kind) (h s : ℕ) → same_kind Pawn k ≡ false → h < 64 → s < 64 → (h == s) ≡ true → direct_steps k h s ≡ 0
none-here k h s other a b same = elim (or_cases _ _ (and_parts _ _ (on-squares (is_small k) (tested k other).2 h s a b)).1) [
  | inl not_so ↦ absurd (both_ways _ (not-true _ not_so) same)
  | inr none ↦ eqb-true _ 0 none
]

-- who comes in n steps needs no more
comes-least : (k : Kind) (n h s : ℕ) → same_kind Pawn k ≡ false → h < 64 → s < 64 → comes_within k n h s ≡ true → direct_steps k h s ≤ n
unfolding comes_within
comes-least k zero h s other a b come = let none = none-here k h s other a b come in omega arith
comes-least k (suc n) h s other a b come = elim (or_cases _ _ come) [
  | inl sooner ↦ let most : direct_steps k h s ≤ n = comes-least k n h s other a b sooner in omega arith
  | inr some ↦
      let found = any-one (λ u. comes_within k n h u && kind_attacks no_men White k u s) 0 64 some in
      let parts = and_parts (comes_within k n h found.number) (kind_attacks no_men White k found.number s) found.passes in
      let inside : found.number < 64 = omega (arith, found.below) in
      omega (arith, comes-least k n h found.number other a inside parts.0, on-by-one k h found.number s other a inside b parts.1)
]

-- who needs no more than n comes in n steps
comes-there : (k : Kind) (n h s : ℕ) → same_kind Pawn k ≡ false → h < 64 → s < 64 → n < 64 → direct_steps k h s ≤ n → comes_within k n h s ≡ true
comes-there k zero h s other a b few most = elim (back k h s other a b) [
  | here same ↦ subst (λ (t : ℕ). comes_within k zero h t ≡ true) same (stays-within k zero h)
  | never far ↦ absurd (omega arith)
  | after u inside one attacked ↦ absurd (omega arith)
]
comes-there k (suc n) h s other a b few most = elim (back k h s other a b) [
  | here same ↦ subst (λ (t : ℕ). comes_within k (suc n) h t ≡ true) same (stays-within k (suc n) h)
  | never far ↦ absurd (omega arith)
  | after u inside one attacked ↦ comes-next k n h u s inside attacked (comes-there k n h u other a inside (omega arith) (omega arith))
]

-- how many numbers are too few
too-few : (p : ℕ → Bool) (f m : ℕ) → ((n : ℕ) → n < m → f ≤ n → p n ≡ true) → ((n : ℕ) → n < m → n < f → p n ≡ false) → (f ≤ m → count_by (λ n. not (p n)) (range_with_len 0 m) ≡ f) × (m ≤ f → count_by (λ n. not (p n)) (range_with_len 0 m) ≡ m)
too-few p f zero enough few = (λ h. omega arith, λ h. refl)
too-few p f (suc m) enough few =
    let rest = too-few p f m (λ n a b. enough n (omega arith) b) (λ n a b. few n (omega arith) b) in
    let last = count-end (λ n. not (p n)) m 0 in
    let zero_on : 0 + m ≡ m = omega arith in
    let same : one_if (not (p (0 + m))) ≡ one_if (not (p m)) = ap (λ (n : ℕ). one_if (not (p n))) zero_on in (
      λ h. elim (cases_lt m f) [
        | inl low ↦ let now : one_if (not (p m)) ≡ 1 = ap (λ (x : Bool). one_if (not x)) (few m (omega arith) low) in let before = rest.1 (omega arith) in omega (arith, last, same, now, before)
        | inr high ↦ let now : one_if (not (p m)) ≡ 0 = ap (λ (x : Bool). one_if (not x)) (enough m (omega arith) high) in let before = rest.0 (omega arith) in omega (arith, last, same, now, before)
      ],
      λ h. let now : one_if (not (p m)) ≡ 1 = ap (λ (x : Bool). one_if (not x)) (few m (omega arith) (omega arith)) in let before = rest.1 (omega arith) in omega (arith, last, same, now, before),
    )

not-comes : (k : Kind) (n h s : ℕ) → same_kind Pawn k ≡ false → h < 64 → s < 64 → n < direct_steps k h s → comes_within k n h s ≡ false
not-comes k n h s other a b few = elim (cases_Bool (comes_within k n h s)) [
  | inl come ↦ absurd (let most = comes-least k n h s other a b come in omega arith)
  | inr not_so ↦ not_so
]

-- the steps of a man who is no pawn
pub steps-direct : (k : Kind) (h s : ℕ) → same_kind Pawn k ≡ false → h < 64 → s < 64 → steps k h s ≡ direct_steps k h s
unfolding steps
steps-direct k h s other a b =
    (too-few (λ n. comes_within k n h s) (direct_steps k h s) 64 (λ n few most. comes-there k n h s other a b few most) (λ n few less. not-comes k n h s other a b less)).0 (small k h s other a b)
