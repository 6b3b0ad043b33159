-- Tests of whole sets, as tests of their squares.
use Rattle.std.proofs.Common.{◌≡◌, ℕ, zero, suc, ◌+◌, ◌<◌, ◌≤◌, ◌==◌, inl, inr, Bool, true, false, cond, ◌&&◌, ◌||◌, not, List, set, refl, ap, sym, ◌∙◌, subst, arith}
use Rattle.std.proofs.lemmas.Bool.{and_from, and_left, and_right, cases_lt, cond-false, cond-true, le-ltb, lt-ltb}
use Rattle.std.specs.Prelude.{nat_lt}
use Rattle.std.specs.List.{list_all, list_any, range_with_len}
use Rattle.board_base.specs.Board.{is_in}
use Rattle.board_base.specs.Squares.{number_of, squares_of}
use Rattle.figures.specs.Sets.{squares_that, union}
use Rattle.figures.specs.SetSteps.{both, outside}
use Rattle.figures.proofs.Filling.{Filled, empty-start, filled-in, filled-out, filled-that, is_in-that}
use Rattle.figures.proofs.SetAlgebra.{is_in-both, is_in-outside, is_in-union, none-bits}
use Rattle.sketch_sets.specs.Homes.{is_inside}
use Rattle.sketch_sets.specs.Tests.{meets}

-- tests that agree on the board
pub all-same : (p r : ℕ → Bool) (k n : ℕ) → ((q : ℕ) → q < k + n → p q ≡ r q) → list_all p (range_with_len k n) ≡ list_all r (range_with_len k n)
all-same p r k zero same = refl
all-same p r k (suc n) same = ap (λ (b : Bool). b && list_all p (range_with_len (k + 1) n)) (same k (omega arith)) ∙ ap (λ (b : Bool). r k && b) (all-same p r (k + 1) n (λ q low. same q (omega arith)))

pub any-same : (p r : ℕ → Bool) (k n : ℕ) → ((q : ℕ) → q < k + n → p q ≡ r q) → list_any p (range_with_len k n) ≡ list_any r (range_with_len k n)
any-same p r k zero same = refl
any-same p r k (suc n) same = ap (λ (b : Bool). b || list_any p (range_with_len (k + 1) n)) (same k (omega arith)) ∙ ap (λ (b : Bool). r k || b) (any-same p r (k + 1) n (λ q low. same q (omega arith)))

not-and : (x y : Bool) → not (not x && y) ≡ (x || not y)
not-and true y = refl
not-and false y = refl

pub not-all : (p : ℕ → Bool) (k n : ℕ) → not (list_all (λ q. not (p q)) (range_with_len k n)) ≡ list_any p (range_with_len k n)
not-all p k zero = refl
not-all p k (suc n) = not-and (p k) (list_all (λ q. not (p q)) (range_with_len (k + 1) n)) ∙ ap (λ (b : Bool). p k || b) (not-all p (k + 1) n)

not-both : (x y : Bool) → not (x && not y) ≡ (not x || y)
not-both true true = refl
not-both true false = refl
not-both false y = refl

pub within-none : (a b : List Bool) (n : ℕ) → n ≡ number_of (both a (outside b)) → squares_of n ≡ both a (outside b) → (n == 0) ≡ is_inside a b
unfolding is_inside
within-none a b n number squares =
    none-bits (both a (outside b)) n number squares
    ∙ all-same (λ q. not (is_in (both a (outside b)) q)) (λ q. not (is_in a q) || is_in b q) 0 64 (λ q low. let inside : q < 64 = omega arith in ap not (is_in-both a (outside b) q inside ∙ ap (λ (x : Bool). is_in a q && x) (is_in-outside b q inside)) ∙ not-both (is_in a q) (is_in b q))

pub meets-some : (a b : List Bool) (n : ℕ) → n ≡ number_of (both a b) → squares_of n ≡ both a b → not (n == 0) ≡ meets a b
unfolding meets
meets-some a b n number squares =
    ap not (none-bits (both a b) n number squares ∙ all-same (λ q. not (is_in (both a b) q)) (λ q. not (is_in a q && is_in b q)) 0 64 (λ q low. ap not (is_in-both a b q (omega arith))))
    ∙ not-all (λ q. is_in a q && is_in b q) 0 64

-- against the squares that pass a test
pub inside-told : (a : List Bool) (p : ℕ → Bool) → is_inside a (squares_that p) ≡ list_all (λ q. not (is_in a q) || p q) (range_with_len 0 64)
unfolding is_inside
inside-told a p = all-same (λ q. not (is_in a q) || is_in (squares_that p) q) (λ q. not (is_in a q) || p q) 0 64 (λ q low. ap (λ (x : Bool). not (is_in a q) || x) (is_in-that p q (omega arith)))

pub meets-told : (a : List Bool) (p : ℕ → Bool) → meets a (squares_that p) ≡ list_any (λ q. is_in a q && p q) (range_with_len 0 64)
unfolding meets
meets-told a p = any-same (λ q. is_in a q && is_in (squares_that p) q) (λ q. is_in a q && p q) 0 64 (λ q low. ap (λ (x : Bool). is_in a q && x) (is_in-that p q (omega arith)))

-- one more square of those of a set that pass a test
those-if : (inside : List Bool) (p : ℕ → Bool) (those : List Bool) (i : ℕ) (b : Bool) → i < 64 → is_in inside i ≡ true → p i ≡ b → Filled (λ s. is_in inside s && p s) false those i → Filled (λ s. is_in inside s && p s) false (cond b (set those i true) those) (i + 1)
those-if inside p those i true low member pass before = filled-in (λ s. is_in inside s && p s) false those i true low (and_from _ _ member pass) before
those-if inside p those i false low member pass before = filled-out (λ s. is_in inside s && p s) false those i (and_right _ _ pass) before

-- none between
those-past : (inside : List Bool) (p : ℕ → Bool) (those : List Bool) (i j : ℕ) → i ≤ j → ((s : ℕ) → i ≤ s → s < j → is_in inside s ≡ false) → Filled (λ s. is_in inside s && p s) false those i → Filled (λ s. is_in inside s && p s) false those j
those-past inside p those i j high none before = record {
  size = before.size;
  each = λ t. elim (cases_lt t i) [
    | inl low ↦ before.each t ∙ cond-true (nat_lt t i) (is_in inside t && p t) false (lt-ltb t i low) ∙ sym (cond-true (nat_lt t j) (is_in inside t && p t) false (lt-ltb t j (omega arith)))
    | inr past ↦ elim (cases_lt t j) [
      | inl between ↦ before.each t ∙ cond-false (nat_lt t i) (is_in inside t && p t) false (le-ltb t i past) ∙ sym (cond-true (nat_lt t j) (is_in inside t && p t) false (lt-ltb t j between) ∙ and_left _ _ (none t past between))
      | inr beyond ↦ before.each t ∙ cond-false (nat_lt t i) (is_in inside t && p t) false (le-ltb t i past) ∙ sym (cond-false (nat_lt t j) (is_in inside t && p t) false (le-ltb t j beyond))
    ]
  ];
}

-- those before the next square of the set, which is this one
pub record Those (inside : List Bool) (p : ℕ → Bool) (those : List Bool) (i : ℕ) : Type 0 where
  pub filled : Filled (λ s. is_in inside s && p s) false those i
  pub next : i < 64 → is_in inside i ≡ true

pub those-start : (inside : List Bool) (p : ℕ → Bool) (those : List Bool) (i : ℕ) → those ≡ squares_of 0 → ((s : ℕ) → 0 ≤ s → s < i → is_in inside s ≡ false) → (i < 64 → is_in inside i ≡ true) → Those inside p those i
those-start inside p those i e none next = record { filled = those-past inside p those 0 i (omega arith) none (empty-start (λ s. is_in inside s && p s) those e); next = next }

pub those-more : (inside : List Bool) (p : ℕ → Bool) (those more : List Bool) (i j : ℕ) (b : Bool) → i < 64 → p i ≡ b → more ≡ cond b (set those i true) those → i + 1 ≤ j → ((s : ℕ) → i + 1 ≤ s → s < j → is_in inside s ≡ false) → (j < 64 → is_in inside j ≡ true) → Those inside p those i → Those inside p more j
those-more inside p those more i j b low here made high none next before = record {
  filled = those-past inside p more (i + 1) j high none (subst (λ (l : List Bool). Filled (λ s. is_in inside s && p s) false l (i + 1)) (sym made) (those-if inside p those i b low (before.next low) here before.filled));
  next = next;
}

pub those-end : (inside : List Bool) (p : ℕ → Bool) (those : List Bool) (i : ℕ) → 64 ≤ i → Those inside p those i → those ≡ squares_that (λ s. is_in inside s && p s)
those-end inside p those i past done = filled-that (λ s. is_in inside s && p s) those i past done.filled

-- a square of both sets, of either, and outside one
pub told-both : (a b made : List Bool) (s : ℕ) → s < 64 → made ≡ squares_that (λ t. is_in a t && is_in b t) → is_in made s ≡ (is_in a s && is_in b s)
told-both a b made s low e = ap (λ (l : List Bool). is_in l s) e ∙ is_in-that (λ t. is_in a t && is_in b t) s low

pub told-outside : (a made : List Bool) (s : ℕ) → s < 64 → made ≡ squares_that (λ t. not (is_in a t)) → is_in made s ≡ not (is_in a s)
told-outside a made s low e = ap (λ (l : List Bool). is_in l s) e ∙ is_in-that (λ t. not (is_in a t)) s low

pub told-either : (a b made : List Bool) (s : ℕ) → s < 64 → made ≡ union a b → is_in made s ≡ (is_in a s || is_in b s)
told-either a b made s low e = ap (λ (l : List Bool). is_in l s) e ∙ is_in-union a b s low

pub told-less : (a b out made : List Bool) (s : ℕ) → s < 64 → out ≡ squares_that (λ t. not (is_in b t)) → made ≡ squares_that (λ t. is_in a t && is_in out t) → is_in made s ≡ (is_in a s && not (is_in b s))
told-less a b out made s low eo e = told-both a out made s low e ∙ ap (λ (x : Bool). is_in a s && x) (told-outside b out s low eo)
