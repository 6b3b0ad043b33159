-- The least over a figure's kinds and squares.
use Rattle.std.proofs.Common.{◌≡◌, ℕ, ◌<◌, ◌≤◌, inl, inr, true, false, map, List, [], ◌∷◌, refl, ap, sym, ◌∙◌, subst, arith}
use Rattle.std.proofs.lemmas.Bool.{cases_lt, or_cases, or_left, or_right, both_ways}
use Rattle.std.specs.List.{Contains, filter, flat_map, list_any, range_with_len}
use Rattle.general_lemmas.proofs.Lists.{contains-cases, contains-filter, contains-first, contains-flat_map, contains-later, contains-map, contains-none, filter-contains, flat_map-contains, map-contains}
use Rattle.general_lemmas.proofs.Ranges.{contains-range, range-contains}
use Rattle.board_base.specs.Board.{is_in, same_kind}
use Rattle.board_base.specs.declared.men.Kind.{Kind}
use Rattle.board_base.proofs.KindsOfMen.{kind_is, same_kind-self}
use Rattle.balance_rule.specs.Costs.{least, never}
use Rattle.balance_rule.proofs.Listed.{least-below, least-found}
use Rattle.figures.specs.Figures.{Figure, may_be}
use Rattle.sketch_account.specs.Over.{IsLeastOver}

least-most : (xs : List ℕ) → least xs ≤ never
least-most [] = omega arith
least-most (x ∷ xs) = omega (arith, least-most xs)

kind-in : (kinds : List Kind) (k : Kind) → list_any (λ j. same_kind j k) kinds ≡ true → Contains kinds k
kind-in [] k h = absurd (both_ways false refl h)
kind-in (j ∷ kinds) k h = elim (or_cases (same_kind j k) (list_any (λ i. same_kind i k) kinds) h) [
  | inl here ↦ subst (Contains (j ∷ kinds)) (kind_is j k here) (contains-first j kinds)
  | inr later ↦ contains-later j kinds k (kind-in kinds k later)
]

in-kind : (kinds : List Kind) (k : Kind) → Contains kinds k → list_any (λ j. same_kind j k) kinds ≡ true
in-kind [] k h = absurd (contains-none k h)
in-kind (j ∷ kinds) k h = elim (contains-cases j kinds k h) [
  | inl same ↦ or_left (same_kind j k) (list_any (λ i. same_kind i k) kinds) (ap (λ (x : Kind). same_kind x k) same ∙ same_kind-self k)
  | inr later ↦ or_right (same_kind j k) (list_any (λ i. same_kind i k) kinds) (in-kind kinds k later)
]

-- all that is told
abbrev pub told_over : (Kind → ℕ → ℕ) → Figure → List ℕ
told_over g f = flat_map (λ k. map (g k) (filter (is_in f.squares) (range_with_len 0 64))) f.kinds

pub over-listed : (f : Figure) (g : Kind → ℕ → ℕ) → IsLeastOver f g (least (told_over g f))
over-listed f g = record {
  most = least-most (told_over g f);
  below = λ k s may inside member.
      least-below (told_over g f) (g k s) (contains-flat_map (λ k. map (g k) (filter (is_in f.squares) (range_with_len 0 64))) f.kinds k (g k s) (kind-in f.kinds k may)
      (contains-map (g k) (filter (is_in f.squares) (range_with_len 0 64)) s (contains-filter (is_in f.squares) (range_with_len 0 64) s (contains-range 0 64 s (omega arith) (omega arith)) member)));
  found = λ low.
      let x = flat_map-contains (λ k. map (g k) (filter (is_in f.squares) (range_with_len 0 64))) f.kinds (least (told_over g f)) (least-found (told_over g f) low) in
      let y = map-contains (g x.0) (filter (is_in f.squares) (range_with_len 0 64)) (least (told_over g f)) x.2 in
      let z = filter-contains (is_in f.squares) (range_with_len 0 64) y.0 y.1 in
      record { kind = x.0; square = y.0; may = in-kind f.kinds x.0 x.1; inside = (range-contains 0 64 y.0 z.0).1; member = z.1; is = y.2 };
}

no-less : (f : Figure) (g : Kind → ℕ → ℕ) (n m : ℕ) → IsLeastOver f g n → IsLeastOver f g m → n < m → ⊥
no-less f g n m a b less =
    let low : n < never = omega (arith, b.most) in
    let x = a.found low in
    let bound : m ≤ g x.kind x.square = b.below x.kind x.square x.may x.inside x.member in
    let here : g x.kind x.square ≡ n = x.is in
    omega arith

pub only-over : (f : Figure) (g : Kind → ℕ → ℕ) (n m : ℕ) → IsLeastOver f g n → IsLeastOver f g m → n ≡ m
only-over f g n m a b = elim (cases_lt n m) [
  | inl less ↦ absurd (no-less f g n m a b less)
  | inr no_less ↦ elim (cases_lt m n) [ inl more ↦ absurd (no-less f g m n b a more) | inr no_more ↦ omega arith ]
]

-- nothing but `never`
pub over-never : (f : Figure) (g : Kind → ℕ → ℕ) → ((k : Kind) (s : ℕ) → may_be f k ≡ true → s < 64 → is_in f.squares s ≡ true → g k s ≡ never) → IsLeastOver f g never
over-never f g none = record {
  most = omega arith;
  below = λ k s may inside member. let e : g k s ≡ never = none k s may inside member in omega arith;
  found = λ low. absurd (omega arith);
}

-- the base, where some square and kind costs that and the others cost `never`
pub over-base : (f : Figure) (g : Kind → ℕ → ℕ) (k : Kind) (s : ℕ) → may_be f k ≡ true → s < 64 → is_in f.squares s ≡ true → g k s ≡ 96 → ((k : Kind) (s : ℕ) → may_be f k ≡ true → s < 64 → is_in f.squares s ≡ true → 96 ≤ g k s) → IsLeastOver f g 96
over-base f g k s may inside member is bound = record {
  most = omega arith;
  below = bound;
  found = λ low. record { kind = k; square = s; may = may; inside = inside; member = member; is = is };
}

-- the same is told
pub over-same : (f : Figure) (g h : Kind → ℕ → ℕ) (n : ℕ) → ((k : Kind) (s : ℕ) → may_be f k ≡ true → s < 64 → is_in f.squares s ≡ true → g k s ≡ h k s) → IsLeastOver f g n → IsLeastOver f h n
over-same f g h n same was = record {
  most = was.most;
  below = λ k s may inside member. let e : g k s ≡ h k s = same k s may inside member in omega (arith, was.below k s may inside member);
  found = λ low. let x = was.found low in record { kind = x.kind; square = x.square; may = x.may; inside = x.inside; member = x.member; is = sym (same x.kind x.square x.may x.inside x.member) ∙ x.is };
}
