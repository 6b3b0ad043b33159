-- The place that so many pawns above leave to a figure is as good as the one that he had.
use Rattle.std.proofs.Common.{◌≡◌, ℕ, zero, suc, ◌+◌, ◌<◌, ◌≤◌, ◌==◌, max, inl, inr, Bool, true, false, cond, ◌&&◌, not, [], ◌∷◌, refl, ap, sym, ◌∙◌, subst, arith}
use Rattle.std.proofs.lemmas.Bool.{and_from, and_parts, and_right, cases_Bool, cases_lt, cond-false, cond-true, eq-eqb, le-ltb, lt-ltb, ltb-false, ltb-true, not-true, not_from_false, not_from_true, or_left, or_right}
use Rattle.std.proofs.lemmas.Option.{same_Some}
use Rattle.std.specs.Prelude.{Some, nat_lt}
use Rattle.past_account.specs.Figures.{Figure, Sketch, figure_at}
use Rattle.past_account.specs.Steps.{is_next_place}
use Rattle.sketch_steps.proofs.Rearranging.{count-above, count-more}
use Rattle.sketch_list.specs.Listed.{count_from, is_from, is_on_file, is_under, next_above}
use Rattle.past_account.proofs.Changed.{next-rest}

-- the lowest place above those that pass
pub next-over : (p : Figure → Bool) (T : Sketch) (i : ℕ) (h : Figure) → figure_at T i ≡ Some h → p h ≡ true → h.place < next_above p T
unfolding next_above
next-over p [] i h e pass = cc
next-over p (g ∷ T) zero h e pass =
    let same : g ≡ h = same_Some g h e in
    let here : cond (p g) (g.place + 1) 0 ≡ h.place + 1 = cond-true (p g) (g.place + 1) 0 (ap p same ∙ pass) ∙ ap (λ (x : Figure). x.place + 1) same in
    omega (arith, here)
next-over p (g ∷ T) (suc i) h e pass = let more = next-over p T i h e pass in omega (arith, more)

pub next-least : (p : Figure → Bool) (T : Sketch) (b : ℕ) → ((i : ℕ) (g : Figure) → figure_at T i ≡ Some g → p g ≡ true → g.place < b) → next_above p T ≤ b
unfolding next_above
next-least p [] b all = omega arith
next-least p (g ∷ T) b all =
    let rest = next-least p T b (λ i h e pass. all (suc i) h e pass) in
    elim (cases_Bool (p g)) [
      | inl pass ↦ let here : cond (p g) (g.place + 1) 0 ≡ g.place + 1 = cond-true (p g) (g.place + 1) 0 pass in let low = all 0 g refl pass in omega (arith, here, low, rest)
      | inr out ↦ let here : cond (p g) (g.place + 1) 0 ≡ 0 = cond-false (p g) (g.place + 1) 0 out in omega (arith, here, rest)
    ]

pub next-place : (p : Figure → Bool) (T : Sketch) → is_next_place T (next_above p T) ≡ true
unfolding next_above
next-place p [] = refl
next-place p (g ∷ T) =
    let rest = next-rest g T (next_above p T) (next-place p T) in
    elim (cases_lt (next_above p T) (cond (p g) (g.place + 1) 0)) [
      | inr high ↦ let e : max (cond (p g) (g.place + 1) 0) (next_above p T) ≡ next_above p T = omega arith in subst (λ (k : ℕ). is_next_place (g ∷ T) k ≡ true) (sym e) rest
      | inl low ↦ elim (cases_Bool (p g)) [
        | inl pass ↦
            let here : cond (p g) (g.place + 1) 0 ≡ g.place + 1 = cond-true (p g) (g.place + 1) 0 pass in
            let e : max (cond (p g) (g.place + 1) 0) (next_above p T) ≡ g.place + 1 = omega (arith, here) in
            subst (λ (k : ℕ). is_next_place (g ∷ T) k ≡ true) (sym e) (or_right (g.place + 1 == 0) _ (or_left _ _ (eq-eqb (g.place + 1) (g.place + 1) refl)))
        | inr out ↦ let here : cond (p g) (g.place + 1) 0 ≡ 0 = cond-false (p g) (g.place + 1) 0 out in absurd (omega (arith, here, low))
      ]
    ]

-- from a higher place on there are no more
from-more : (n a b : ℕ) (g : Figure) → a ≤ b → is_from n b g ≡ true → is_from n a g ≡ true
unfolding is_from
from-more n a b g low h =
    let parts = and_parts (is_on_file n g) (not (nat_lt g.place b)) h in
    let high = ltb-false g.place b (not-true _ parts.1) in
    and_from (is_on_file n g) _ parts.0 (not_from_false _ (le-ltb g.place a (omega (arith, high, low))))

pub count-fewer : (T : Sketch) (n a b : ℕ) → a ≤ b → count_from T n b ≤ count_from T n a
unfolding count_from
count-fewer T n a b low = count-more (is_from n b) (is_from n a) T (λ g h. from-more n a b g low h)

from-self : (n : ℕ) (g : Figure) → is_on_file n g ≡ true → is_from n g.place g ≡ true
unfolding is_from
from-self n g on = and_from (is_on_file n g) _ on (not_from_false _ (le-ltb g.place g.place (omega arith)))

from-below : (n p : ℕ) (g : Figure) → g.place < p → is_from n p g ≡ false
unfolding is_from
from-below n p g low = and_right (is_on_file n g) _ (not_from_true _ (lt-ltb g.place p low))

count-strict : (T : Sketch) (n p i : ℕ) (g : Figure) → figure_at T i ≡ Some g → is_on_file n g ≡ true → g.place < p → count_from T n p < count_from T n g.place
unfolding count_from
count-strict T n p i g found on low = count-above (is_from n p) (is_from n g.place) T i g (λ h more. from-more n g.place p h (omega arith) more) found (from-below n p g low) (from-self n g on)

-- who was below is below, and no other of the file
pub place-over : (T : Sketch) (n p i : ℕ) (g : Figure) → figure_at T i ≡ Some g → is_on_file n g ≡ true → g.place < p → g.place < next_above (is_under T n (count_from T n p)) T
unfolding is_under
place-over T n p i g found on low = next-over (λ h. is_on_file n h && nat_lt (count_from T n p) (count_from T n h.place)) T i g found (and_from _ _ on (lt-ltb _ _ (count-strict T n p i g found on low)))

under-count : (T : Sketch) (n k : ℕ) (h : Figure) → is_under T n k h ≡ true → k < count_from T n h.place
unfolding is_under
under-count T n k h pass = ltb-true _ _ (and_parts (is_on_file n h) (nat_lt k (count_from T n h.place)) pass).1

pub place-under : (T : Sketch) (n p i : ℕ) (g : Figure) → figure_at T i ≡ Some g → g.place < next_above (is_under T n (count_from T n p)) T → g.place < p
place-under T n p i g found low = elim (cases_lt g.place p) [
  | inl under ↦ under
  | inr over ↦ absurd (let least = next-least (is_under T n (count_from T n p)) T g.place (λ j h there pass. elim (cases_lt h.place g.place) [
    | inl less ↦ less
    | inr more ↦ absurd (let many = under-count T n (count_from T n p) h pass in let few = count-fewer T n p h.place (omega (arith, over, more)) in omega (arith, many, few))
  ]) in omega (arith, least, low))
]
