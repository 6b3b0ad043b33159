-- One step of a man adds at most one to the steps that he needs.
use Rattle.std.proofs.Common.{◌≡◌, ℕ, zero, suc, ◌+◌, ◌<◌, ◌≤◌, Bool, true, false, ◌&&◌, not, inl, inr, List, [], ◌∷◌, refl, ap, arith}
use Rattle.std.specs.Prelude.{None}
use Rattle.std.specs.List.{count_by, range_with_len}
use Rattle.std.proofs.lemmas.Bool.{and_parts, and_from, both_ways, cases_lt, eq-eqb, or_left, or_right}
use Rattle.std.proofs.lemmas.List.{get_or-replicate, get_or_past}
use Rattle.std.proofs.lemmas.List.Sums.{count_by-le-length}
use Rattle.std.proofs.lemmas.List.FromFn.{length-range_with_len}
use Rattle.board_base.specs.Board.{Places, no_men, at, is_empty, same_kind}
use Rattle.board_base.specs.Attacks.{kind_attacks, is_open, on_the_way}
use Rattle.board_base.specs.declared.men.Colour.{Colour}
use Rattle.board_base.specs.declared.men.Colour.TheVariants.{White}
use Rattle.board_base.specs.declared.men.Kind.{Kind}
use Rattle.board_base.specs.declared.men.Kind.TheVariants.{Pawn, Knight, Bishop, Rook, Queen, King}
use Rattle.general_lemmas.proofs.Ranges.{all-each, any-found}
use Rattle.general_lemmas.proofs.Counts.{one_if, one_if-most, count-cons, count-end}
use Rattle.length_bound.specs.MoveCosts.{comes_within, steps}

-- nobody stands on an empty board
nobody : (s : ℕ) → at no_men s ≡ None
nobody s = elim (cases_lt s 64) [
  | inl inside ↦ get_or-replicate 64 s None None inside
  | inr past ↦ get_or_past no_men s None past
]

open-empty : (s t : ℕ) → is_open no_men s t ≡ true
open-empty s t = all-each (λ k. is_empty (at no_men (on_the_way s t k))) _ _ (λ k low high. ap is_empty (nobody (on_the_way s t k)))

-- what a man attacks, he attacks on an empty board
pub on-empty : (board : Places) (c : Colour) (k : Kind) (s t : ℕ) → same_kind Pawn k ≡ false → kind_attacks board c k s t ≡ true → kind_attacks no_men White k s t ≡ true
unfolding kind_attacks
on-empty board c Pawn s t other h = absurd (both_ways (same_kind Pawn Pawn) other refl)
on-empty board c Knight s t other h = h
on-empty board c Bishop s t other h = and_from _ _ (and_parts _ _ h).0 (open-empty s t)
on-empty board c Rook s t other h = and_from _ _ (and_parts _ _ h).0 (open-empty s t)
on-empty board c Queen s t other h = and_from _ _ (and_parts _ _ h).0 (open-empty s t)
on-empty board c King s t other h = h

-- one step more
pub comes-next : (k : Kind) (n h s t : ℕ) → s < 64 → kind_attacks no_men White k s t ≡ true → comes_within k n h s ≡ true → comes_within k (suc n) h t ≡ true
unfolding comes_within
comes-next k n h s t small attacked there =
    or_right (comes_within k n h t) _ (any-found (λ u. comes_within k n h u && kind_attacks no_men White k u t) 0 64 s (omega arith) (omega arith) (and_from _ _ there attacked))

-- what fails the first test also fails the second
no-more : (a b : Bool) → (a ≡ true → b ≡ true) → one_if (not b) ≤ one_if (not a)
no-more true b h = let e : one_if (not b) ≡ 0 = ap (λ (x : Bool). one_if (not x)) (h refl) in omega arith
no-more false b h = one_if-most (not b)

-- where the second test is passed by a number, and the first by the next one, one more number at most fails the first
late-by-one : (p q : ℕ → Bool) (n : ℕ) → ((j : ℕ) → q j ≡ true → p (suc j) ≡ true) → count_by (λ j. not (p j)) (range_with_len 0 (suc n)) ≤ count_by (λ j. not (q j)) (range_with_len 0 n) + 1
late-by-one p q zero next = omega (arith, count-cons (λ j. not (p j)) 0 [], one_if-most (not (p 0)))
late-by-one p q (suc n) next =
    let last : one_if (not (p (0 + suc n))) ≡ one_if (not (p (suc n))) = ap (λ (j : ℕ). one_if (not (p j))) (omega arith) in
    let before : one_if (not (q (0 + n))) ≡ one_if (not (q n)) = ap (λ (j : ℕ). one_if (not (q j))) (omega arith) in
    omega (arith, count-end (λ j. not (p j)) (suc n) 0, count-end (λ j. not (q j)) n 0, last, before, no-more (q n) (p (suc n)) (next n), late-by-one p q n next)

-- a step to t from s adds at most one
pub one-step : (k : Kind) (h s t : ℕ) → s < 64 → kind_attacks no_men White k s t ≡ true → steps k h t ≤ steps k h s + 1
unfolding steps
one-step k h s t small attacked =
    omega (arith, count-end (λ n. not (comes_within k n h s)) 63 0, late-by-one (λ n. comes_within k n h t) (λ n. comes_within k n h s) 63 (λ n there. comes-next k n h s t small attacked there))

pub steps-most : (k : Kind) (h s : ℕ) → steps k h s ≤ 64
unfolding steps
steps-most k h s = omega (arith, count_by-le-length (λ n. not (comes_within k n h s)) (range_with_len 0 64), length-range_with_len 0 64)

none-late : (p : ℕ → Bool) (xs : List ℕ) → ((j : ℕ) → p j ≡ true) → count_by (λ j. not (p j)) xs ≡ 0
none-late p [] h = refl
none-late p (x ∷ xs) h =
    let here : one_if (not (p x)) ≡ 0 = ap (λ (b : Bool). one_if (not b)) (h x) in
    omega (arith, count-cons (λ j. not (p j)) x xs, here, none-late p xs h)

-- he who stays needs none
pub stays-within : (k : Kind) (n h : ℕ) → comes_within k n h h ≡ true
unfolding comes_within
stays-within k zero h = eq-eqb h h refl
stays-within k (suc n) h = or_left (comes_within k n h h) _ (stays-within k n h)

pub no-step : (k : Kind) (h : ℕ) → steps k h h ≡ 0
unfolding steps
no-step k h = none-late (λ n. comes_within k n h h) (range_with_len 0 64) (λ n. stays-within k n h)
