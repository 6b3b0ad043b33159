-- What the first bar of a scope says, and where there is one.
use Rattle.std.proofs.Common.{◌≡◌, ℕ, ◌-◌, ◌≤◌, Bool, true, ◌⊎◌, inl, inr, List, [], ◌∷◌, Option, Some, None, refl, sym, ap, ◌∙◌, arith}
use Rattle.std.proofs.lemmas.Bool.{and_from, and_parts, both_ways, cases_Bool, cond-false, cond-true, or_left, or_right}
use Rattle.general_lemmas.proofs.Lists.{contains-cases, contains-first, contains-later, contains-none}
use Rattle.std.specs.List.{Contains, find, list_all, list_any, range_with_len}
use Rattle.play_rules.proofs.Kings.{find-passes}
use Rattle.board_base.specs.declared.unmoves.Unmove.{Unmove}
use Rattle.board_base.proofs.EachCastle.{where_held}
use Rattle.query_base.specs.Asked.{Asked}
use Rattle.retraction_bars.specs.Bars.{bars}
use Rattle.retraction_bars.specs.Grounds.{bars_all, first_bar, spares}
use Rattle.retraction_bars.specs.Numbers.{bar_at}
use Rattle.retraction_bars.specs.Scopes.{high_of, is_within, low_of}
use Rattle.retraction_bars.specs.declared.scopes.Scope.{Scope}

-- nothing passes where nothing is found
none_pass : (p : ℕ → Bool) (xs : List ℕ) (n : ℕ) → find p xs ≡ None → Contains xs n → p n ≡ true → ⊥
none_pass p [] n h there ok = contains-none n there
none_pass p (x ∷ xs) n h there ok = elim (cases_Bool (p x)) [
  | inl first ↦ let e : Some x ≡ None = sym (cond-true (p x) (Some x) (find p xs) first) ∙ h in cc
  | inr other ↦ elim (contains-cases x xs n there) [
    | inl same ↦ both_ways _ other (ap p same ∙ ok)
    | inr later ↦ none_pass p xs n (sym (cond-false (p x) (Some x) (find p xs) other) ∙ h) later ok
  ]
]

pub each_passes : {A : Type 0} (p : A → Bool) (xs : List A) (x : A) → list_all p xs ≡ true → Contains xs x → p x ≡ true
each_passes {A} p [] x h there = absurd (contains-none x there)
each_passes {A} p (y ∷ xs) x h there = elim (contains-cases y xs x there) [
  | inl same ↦ ap p (sym same) ∙ (and_parts _ _ h).0
  | inr later ↦ each_passes p xs x (and_parts _ _ h).1 later
]

pub all_pass : {A : Type 0} (p : A → Bool) (xs : List A) → ((x : A) → Contains xs x → p x ≡ true) → list_all p xs ≡ true
all_pass {A} p [] h = refl
all_pass {A} p (y ∷ xs) h = and_from _ _ (h y (contains-first y xs)) (all_pass p xs (λ x there. h x (contains-later y xs x there)))

pub one_passes : {A : Type 0} (p : A → Bool) (xs : List A) (x : A) → Contains xs x → p x ≡ true → list_any p xs ≡ true
one_passes {A} p [] x there h = absurd (contains-none x there)
one_passes {A} p (y ∷ xs) x there h = elim (contains-cases y xs x there) [
  | inl same ↦ or_left _ _ (ap p same ∙ h)
  | inr later ↦ or_right _ _ (one_passes p xs x later h)
]

pub given_or_none : (o : Option ℕ) → ((n : ℕ) × (o ≡ Some n)) ⊎ (o ≡ None)
given_or_none None = inr refl
given_or_none (Some n) = inl (n, refl)

-- the bar that is found bars each way of the scope
pub ground_holds : (q : Asked) (ways : List Unmove) (s : Scope) (n : ℕ) (u : Unmove) → first_bar q ways s ≡ Some n → Contains ways u → is_within s u ≡ true → bars (bar_at n) q u ≡ true
unfolding first_bar
ground_holds q ways s n u h there within = elim (cases_Bool (list_any (is_within s) ways)) [
  | inl some ↦
      let e = sym (cond-true _ (find (bars_all q ways s) (range_with_len (low_of s.manner) (high_of s.manner - low_of s.manner))) None some) ∙ h in
      where_held (is_within s u) _ (each_passes (spares q s (bar_at n)) ways u (find-passes (bars_all q ways s) _ n e) there) within
  | inr none ↦
      let e : None ≡ Some n = sym (cond-false _ (find (bars_all q ways s) (range_with_len (low_of s.manner) (high_of s.manner - low_of s.manner))) None none) ∙ h in
      cc
]

-- some bar is found where a way is in the scope, and this bar, which is tried, bars all of the scope
pub ground_found : (q : Asked) (ways : List Unmove) (s : Scope) (n : ℕ) (u : Unmove) → Contains ways u → is_within s u ≡ true → Contains (range_with_len (low_of s.manner) (high_of s.manner - low_of s.manner)) n → bars_all q ways s n ≡ true → (k : ℕ) × (first_bar q ways s ≡ Some k)
unfolding first_bar
ground_found q ways s n u there within tried all =
    let some : list_any (is_within s) ways ≡ true = one_passes (is_within s) ways u there within in
    let e = cond-true _ (find (bars_all q ways s) (range_with_len (low_of s.manner) (high_of s.manner - low_of s.manner))) None some in
    elim (given_or_none (find (bars_all q ways s) (range_with_len (low_of s.manner) (high_of s.manner - low_of s.manner)))) [
      | inl (k, h) ↦ (k, e ∙ h)
      | inr none ↦ absurd (none_pass (bars_all q ways s) _ n none tried all)
    ]

-- nothing is left to test
pub all_over : (p : ℕ → Bool) (k n : ℕ) (b : Bool) → n ≤ k → list_all p (range_with_len k (n - k)) ≡ b → true ≡ b
all_over p k n b past so_far = let e : 0 ≡ n - k = omega arith in ap (λ (m : ℕ). list_all p (range_with_len k m)) e ∙ so_far
