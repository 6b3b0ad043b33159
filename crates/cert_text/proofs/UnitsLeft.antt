-- Units that are left behind those of children.
use Rattle.std.proofs.Common.{◌≡◌, ℕ, suc, ◌+◌, ◌-◌, ◌≤◌, Some, None, inl, inr, nat_le, sym, ap, ◌∙◌, arith}
use Rattle.std.proofs.lemmas.Bool.{cases_Bool, cond-false, cond-true, le-leb, leb-true, leb-false, lt-leb}
use Rattle.std.proofs.lemmas.Option.{same_Some}
use Rattle.board_base.specs.declared.unmoves.Unmove.{Unmove}
use Rattle.sketch_body.specs.Whole.{left_of}
use Rattle.sketch_body.proofs.Taking.{left_less}
use Rattle.cert_text.specs.Tree.{Forest, Tree, count, kid_at, units_each, units_in}
use Rattle.cert_text.specs.Sizes.{rest_of}
use Rattle.cert_text.proofs.Forests.{rest-end, rest-more}

next_units : (f : Forest) (i : ℕ) (l : Unmove) (t : Tree) → kid_at f i ≡ Some (l, t) → units_each (rest_of f i) ≡ units_in t + units_each (rest_of f (i + 1))
next_units f i l t e =
    let next : suc i ≡ i + 1 = omega arith in
    ap units_each (rest-more f i l t e) ∙ ap (λ (j : ℕ). units_in t + units_each (rest_of f j)) next

left_then : (left n k m : ℕ) → Some m ≡ left_of left n → left_of m k ≡ left_of left (n + k)
left_then left n k m e = elim (cases_Bool (nat_le n left)) [
  | inl fits ↦
      let same : m ≡ left - n = same_Some m (left - n) (e ∙ cond-true (nat_le n left) (Some (left - n)) None fits) in
      ap (λ (x : ℕ). left_of x k) same ∙ left_less left n k (leb-true n left fits)
  | inr more ↦ let none = cond-false (nat_le n left) (Some (left - n)) None more in absurd cc
]

none_then : (left n k : ℕ) → None ≡ left_of left n → None ≡ left_of left (n + k)
none_then left n k e = elim (cases_Bool (nat_le n left)) [
  | inl fits ↦ let some = cond-true (nat_le n left) (Some (left - n)) None fits in absurd cc
  | inr more ↦ let past = leb-false n left more in sym (cond-false (nat_le (n + k) left) _ None (lt-leb (n + k) left (omega arith)))
]

pub kid_left : (f : Forest) (i : ℕ) (l : Unmove) (t : Tree) (left more : ℕ) → kid_at f i ≡ Some (l, t) → Some more ≡ left_of left (units_in t) → left_of more (units_each (rest_of f (i + 1))) ≡ left_of left (units_each (rest_of f i))
kid_left f i l t left more e is = left_then left (units_in t) (units_each (rest_of f (i + 1))) more is ∙ ap (left_of left) (sym (next_units f i l t e))

pub kid_over : (f : Forest) (i : ℕ) (l : Unmove) (t : Tree) (left : ℕ) → kid_at f i ≡ Some (l, t) → None ≡ left_of left (units_in t) → None ≡ left_of left (units_each (rest_of f i))
kid_over f i l t left e is = none_then left (units_in t) (units_each (rest_of f (i + 1))) is ∙ ap (left_of left) (sym (next_units f i l t e))

pub kids_end : (f : Forest) (i left : ℕ) → count f ≤ i → Some left ≡ left_of left (units_each (rest_of f i))
kids_end f i left past =
    let same : left ≡ left - 0 = omega arith in
    ap (λ (n : ℕ). Some n) same ∙ sym (cond-true (nat_le 0 left) (Some (left - 0)) None (le-leb 0 left (omega arith))) ∙ ap (λ (g : Forest). left_of left (units_each g)) (sym (rest-end f i past))
