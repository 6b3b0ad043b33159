-- Sets of one square.
use Rattle.std.proofs.Common.{◌≡◌, ℕ, ◌+◌, ◌<◌, ◌≤◌, ◌==◌, inl, inr, Bool, true, false, cond, ◌||◌, not, List, length, get_or, set, take, refl, ap, sym, ◌∙◌, arith}
use Rattle.std.proofs.lemmas.Bool.{and_from, and_parts, both_ways, cases_eq, cases_lt, eq-eqb, eqb-true, ne_eqb, or_right, false_from_ne_true}
use Rattle.std.proofs.lemmas.List.{get_or-set_same, get_or-set_other, length-set, take_all}
use Rattle.std.specs.Prelude.{MatchOption, None, Option, Some}
use Rattle.std.specs.List.{list_all, list_any, range_with_len}
use Rattle.std.proofs.lemmas.List.Folds.{list_any_more}
use Rattle.board_base.specs.Board.{is_in}
use Rattle.board_base.specs.Squares.{squares_of}
use Rattle.board_base.specs.SquareNumbers.{length-squares_of}
use Rattle.past_sketches.proofs.Filling.{Filled, filled-in, filled-out, in-that, is_in-that, none-in-zero}
use Rattle.past_sketches.proofs.SetAlgebra.{that-is}
use Rattle.past_sketches.proofs.Tested.{all_board, at_board, member-inside}
use Rattle.past_sketches.specs.Figures.{Figure, fixed_squares, is_fixed_on, only_on}

pub only-made : (s : ℕ) → s < 64 → set (squares_of 0) s true ≡ only_on s
only-made s low =
    let full : length (squares_of 0) ≡ 64 = length-squares_of 0 in
    that-is (λ t. t == s) (set (squares_of 0) s true) (length-set (squares_of 0) s true ∙ full) (λ t inside. elim (cases_eq t s) [
      | inl same ↦ ap (is_in (set (squares_of 0) s true)) same ∙ get_or-set_same (squares_of 0) s true false (omega arith) ∙ sym (eq-eqb t s same)
      | inr other ↦ get_or-set_other (squares_of 0) s t true false other ∙ none-in-zero t ∙ sym (ne_eqb t s other)
    ])

pub in-only : (s : ℕ) → s < 64 → is_in (only_on s) s ≡ true
in-only s low = is_in-that (λ t. t == s) s low ∙ eq-eqb s s refl

pub only-in : (s t : ℕ) → is_in (only_on s) t ≡ true → t ≡ s
only-in s t member = eqb-true t s (in-that (λ t. t == s) t member).1

pub only-one : (s t : ℕ) → s < 64 → only_on s ≡ only_on t → s ≡ t
only-one s t low e = only-in t s (ap (λ (l : List Bool). is_in l s) (sym e) ∙ in-only s low)

or-false : (b : Bool) → (b || false) ≡ b
or-false true = refl
or-false false = refl

-- nothing else is in the set
pub only-told : (set : List Bool) (s : ℕ) → length set ≡ 64 → s < 64 → is_in set s ≡ true → ((t : ℕ) → t < 64 → is_in set t ≡ true → t ≡ s) → set ≡ only_on s
only-told set s size low member each = that-is (λ t. t == s) set size (λ t inside. elim (cases_eq t s) [
  | inl same ↦ ap (is_in set) same ∙ member ∙ sym (eq-eqb t s same)
  | inr other ↦ false_from_ne_true (is_in set t) (λ there. other (each t inside there)) ∙ sym (ne_eqb t s other)
])

-- the first square from the first on, and the next
pub one-square : (set : List Bool) (first next : ℕ) → length set ≡ 64 → first < 64 → is_in set first ≡ true → 64 ≤ next → ((s : ℕ) → 0 ≤ s → s < first → is_in set s ≡ false) → ((s : ℕ) → first + 1 ≤ s → s < next → is_in set s ≡ false) → set ≡ only_on first
one-square set first next size low member far before after = only-told set first size low member (λ t inside there. elim (cases_eq t first) [
  | inl same ↦ same
  | inr other ↦ elim (cases_lt t first) [
    | inl below ↦ absurd (both_ways _ (before t (omega arith) below) there)
    | inr above ↦ absurd (both_ways _ (after t (omega arith) (omega arith)) there)
  ]
])

pub filled-if : (p : ℕ → Bool) (set' : List Bool) (i : ℕ) (b : Bool) → i < 64 → p i ≡ b → Filled p false set' i → Filled p false (cond b (set set' i true) set') (i + 1)
filled-if p set' i true inside here before = filled-in p false set' i true inside here before
filled-if p set' i false inside here before = filled-out p false set' i here before

-- a figure is fixed on a square where his set is of that square alone
pub either-true : (x y : Bool) → (not x || y) ≡ true → x ≡ true → y ≡ true
either-true true y h e = h
either-true false y h e = absurd (both_ways false refl e)

pub fixed-only : (f : Figure) (s : ℕ) → length f.squares ≡ 64 → is_fixed_on s f ≡ true → (s < 64) × (f.squares ≡ only_on s)
fixed-only f s size h =
    let parts = and_parts (is_in f.squares s) (list_all (λ t. not (is_in f.squares t) || (t == s)) (range_with_len 0 64)) h in
    let low : s < 64 = member-inside f.squares s size parts.0 in
    (low, only-told f.squares s size low parts.0 (λ t inside there. eqb-true t s (either-true (is_in f.squares t) (t == s) (at_board (λ t. not (is_in f.squares t) || (t == s)) t parts.1 inside) there)))

pub implied : (x y : Bool) → (x ≡ true → y ≡ true) → (not x || y) ≡ true
implied true y h = h refl
implied false y h = refl

pub only-fixed : (f : Figure) (s : ℕ) → s < 64 → f.squares ≡ only_on s → is_fixed_on s f ≡ true
only-fixed f s low e =
    and_from _ _ (ap (λ (l : List Bool). is_in l s) e ∙ in-only s low)
    (all_board (λ t. not (is_in f.squares t) || (t == s)) (λ t inside. implied (is_in f.squares t) (t == s) (λ there. eq-eqb t s (only-in s t (ap (λ (l : List Bool). is_in l t) (sym e) ∙ there)))))

pub fixed-none : (f : Figure) → length f.squares ≡ 64 → ((s : ℕ) → s < 64 → f.squares ≡ only_on s → ⊥) → (s : ℕ) → is_fixed_on s f ≡ false
fixed-none f size none s = false_from_ne_true (is_fixed_on s f) (λ h. let it = fixed-only f s size h in none s it.0 it.1)

pub fixed-same : (f : Figure) (s t : ℕ) → length f.squares ≡ 64 → is_fixed_on s f ≡ true → (t == s) ≡ is_fixed_on t f
fixed-same f s t size h =
    let it = fixed-only f s size h in
    elim (cases_eq t s) [
      | inl same ↦ eq-eqb t s same ∙ sym (ap (λ (x : ℕ). is_fixed_on x f) same ∙ h)
      | inr other ↦ ne_eqb t s other ∙ sym (false_from_ne_true (is_fixed_on t f) (λ there. let that = fixed-only f t size there in other (only-one t s that.0 (sym that.1 ∙ it.1))))
    ]

pub fixed-matched : (o : Option ℕ) (f : Figure) → length f.squares ≡ 64 → MatchOption o ((s : ℕ) → s < 64 → f.squares ≡ only_on s → ⊥) (λ s. (s < 64) × (f.squares ≡ only_on s)) → MatchOption o ((s : ℕ) → is_fixed_on s f ≡ false) (λ s. is_fixed_on s f ≡ true)
fixed-matched None f size none = fixed-none f size none
fixed-matched (Some s) f size one = only-fixed f s one.0 one.1

-- the fixed squares of a sketch, figure by figure
pub record Fixed (figures : List Figure) (i : ℕ) (set : List Bool) : Type 0 where
  pub size : length set ≡ 64
  pub each : (s : ℕ) → s < 64 → is_in set s ≡ list_any (is_fixed_on s) (take i figures)

pub fixed-start : (figures : List Figure) (set : List Bool) → set ≡ squares_of 0 → Fixed figures 0 set
fixed-start figures set e = record { size = ap length e ∙ length-squares_of 0; each = λ s inside. ap (λ (l : List Bool). is_in l s) e ∙ none-in-zero s }

pub fixed-with : (figures : List Figure) (i : ℕ) (set' : List Bool) (f : Figure) (t : ℕ) → i < length figures → get_or figures i f ≡ f → length f.squares ≡ 64 → is_fixed_on t f ≡ true → Fixed figures i set' → Fixed figures (i + 1) (set set' t true)
fixed-with figures i set' f t inside there size h before =
    let low : t < 64 = (fixed-only f t size h).0 in
    let whole : length set' ≡ 64 = before.size in
    record {
      size = length-set set' t true ∙ whole;
      each = λ s on. sym (list_any_more (is_fixed_on s) figures i f inside ∙ ap (λ (g : Figure). list_any (is_fixed_on s) (take i figures) || is_fixed_on s g) there ∙ elim (cases_eq s t) [
        | inl same ↦ or_right _ _ (ap (λ (x : ℕ). is_fixed_on x f) same ∙ h) ∙ sym (ap (is_in (set set' t true)) same ∙ get_or-set_same set' t true false (omega arith))
        | inr other ↦
            ap (λ (b : Bool). list_any (is_fixed_on s) (take i figures) || b) (sym (fixed-same f t s size h) ∙ ne_eqb s t other) ∙ or-false (list_any (is_fixed_on s) (take i figures))
            ∙ sym (before.each s on) ∙ sym (get_or-set_other set' t s true false other)
      ]);
    }

pub fixed-without : (figures : List Figure) (i : ℕ) (set' : List Bool) (f : Figure) → i < length figures → get_or figures i f ≡ f → ((s : ℕ) → is_fixed_on s f ≡ false) → Fixed figures i set' → Fixed figures (i + 1) set'
fixed-without figures i set' f inside there none before = record {
  size = before.size;
  each = λ s on. before.each s on ∙ sym (list_any_more (is_fixed_on s) figures i f inside ∙ ap (λ (g : Figure). list_any (is_fixed_on s) (take i figures) || is_fixed_on s g) there ∙ ap (λ (b : Bool). list_any (is_fixed_on s) (take i figures) || b) (none s) ∙ or-false (list_any (is_fixed_on s) (take i figures)));
}

pub fixed-end : (figures : List Figure) (i : ℕ) (set' : List Bool) → i ≡ length figures → Fixed figures i set' → set' ≡ fixed_squares figures
unfolding fixed_squares
fixed-end figures i set' e done = that-is (λ s. list_any (is_fixed_on s) figures) set' done.size (λ s inside. done.each s inside ∙ ap (list_any (is_fixed_on s)) (ap (λ (n : ℕ). take n figures) e ∙ take_all (length figures) figures (omega arith)))
