-- Figures of a set for whom the array has men.
use Rattle.std.proofs.Common.{◌≡◌, ℕ, ◌<◌, inl, inr, Bool, true, false, ◌&&◌, ◌||◌, not, List, length, refl, ap, sym, ◌∙◌}
use Rattle.std.proofs.lemmas.Bool.{and_parts, and_from, or_cases, or_left, or_right, cases_Bool, not-true, not_from_false, both_ways}
use Rattle.std.specs.Prelude.{Option, Some, None}
use Rattle.std.specs.List.{list_all, range_with_len}
use Rattle.general_lemmas.proofs.Truth.{same_truth}
use Rattle.board_base.specs.Board.{Places, array_of, at, is_in, same_colour}
use Rattle.board_base.specs.declared.men.Man.{Man}
use Rattle.board_base.proofs.KindsOfMen.{colour_is, same_colour-self}
use Rattle.cage_rules.proofs.Tested.{all_board, at_board, member-inside}
use Rattle.figures.specs.Figures.{Figure, is_fixed_on, may_be}
use Rattle.sketch_grounds.specs.Begun.{begins_on, is_begun}
use Rattle.past_account.specs.Frozen.{IsBegun}
use Rattle.sketch_grounds.proofs.Freezing.{fixed-once}

pub begins-told : (o : List Bool) (s : ℕ) (f : Figure) (place : Option Man) → at (array_of o) s ≡ place → begins_on place f ≡ true → IsBegun o s f
begins-told o s f None e h = absurd (both_ways false refl h)
begins-told o s f (Some m) e h = let parts = and_parts (same_colour m.colour f.colour) (may_be f m.kind) h in (m, e, colour_is m.colour f.colour parts.0, parts.1)

pub begins-tells : (o : List Bool) (s : ℕ) (f : Figure) → IsBegun o s f → begins_on (at (array_of o) s) f ≡ true
begins-tells o s f b = ap (λ (p : Option Man). begins_on p f) b.1 ∙ and_from _ _ (ap (same_colour b.0.colour) (sym b.2) ∙ same_colour-self b.0.colour) b.3

-- where he is fixed on s, what is tested is told of s
pub begun-some : (first : Places) (set : List Bool) (f : Figure) (s : ℕ) (b c : Bool) → length f.squares ≡ 64 → is_fixed_on s f ≡ true → b ≡ is_in set s → c ≡ begins_on (at first s) f → (not b || c) ≡ is_begun first set f
unfolding is_begun
begun-some first set f s b c size fixed eb ec = let inside : s < 64 = member-inside f.squares s size (and_parts (is_in f.squares s) _ fixed).0 in same_truth (not b || c) (list_all (λ s. not (is_in set s && is_fixed_on s f) || begins_on (at first s) f) (range_with_len 0 64))
    (λ h. all_board (λ s. not (is_in set s && is_fixed_on s f) || begins_on (at first s) f) (λ t ti. elim (cases_Bool (is_in set t && is_fixed_on t f)) [
      | inl here ↦
          let parts = and_parts (is_in set t) (is_fixed_on t f) here in
          let same : s ≡ t = fixed-once f s t size fixed parts.1 in
          or_right (not (is_in set t && is_fixed_on t f)) (begins_on (at first t) f) (elim (or_cases (not b) c h) [
            | inl out ↦ absurd (both_ways _ (sym (eb ∙ ap (is_in set) same) ∙ not-true b out) parts.0)
            | inr so ↦ ap (λ (n : ℕ). begins_on (at first n) f) (sym same) ∙ sym ec ∙ so
          ])
      | inr other ↦ or_left (not (is_in set t && is_fixed_on t f)) (begins_on (at first t) f) (not_from_false _ other)
    ]))
    (λ all. elim (cases_Bool b) [
      | inl there ↦ or_right (not b) c (elim (or_cases (not (is_in set s && is_fixed_on s f)) (begins_on (at first s) f) (at_board (λ s. not (is_in set s && is_fixed_on s f) || begins_on (at first s) f) s all inside)) [
        | inl out ↦ absurd (both_ways _ (not-true _ out) (and_from _ _ (sym eb ∙ there) fixed))
        | inr so ↦ ec ∙ so
      ])
      | inr out ↦ or_left (not b) c (not_from_false b out)
    ])

pub begun-none : (first : Places) (set : List Bool) (f : Figure) → ((s : ℕ) → is_fixed_on s f ≡ false) → true ≡ is_begun first set f
unfolding is_begun
begun-none first set f loose = sym (all_board (λ s. not (is_in set s && is_fixed_on s f) || begins_on (at first s) f) (λ t ti. elim (cases_Bool (is_in set t && is_fixed_on t f)) [
  | inl here ↦ absurd (both_ways _ (loose t) (and_parts (is_in set t) (is_fixed_on t f) here).1)
  | inr other ↦ or_left (not (is_in set t && is_fixed_on t f)) (begins_on (at first t) f) (not_from_false _ other)
]))

-- parts of a test
pub left-part : (b c : Bool) → b ≡ false → not b ≡ (not b || c)
left-part true c e = absurd (both_ways _ e refl)
left-part false c e = refl

pub right-part : (b c : Bool) → b ≡ true → c ≡ (not b || c)
right-part true c e = refl
right-part false c e = absurd (both_ways _ refl e)

pub begun-told : (o : List Bool) (set : List Bool) (f : Figure) (s : ℕ) → length f.squares ≡ 64 → is_begun (array_of o) set f ≡ true → is_in set s ≡ true → is_fixed_on s f ≡ true → IsBegun o s f
unfolding is_begun
begun-told o set f s size all member fixed =
    let inside : s < 64 = member-inside f.squares s size (and_parts (is_in f.squares s) _ fixed).0 in
    elim (or_cases (not (is_in set s && is_fixed_on s f)) (begins_on (at (array_of o) s) f) (at_board (λ s. not (is_in set s && is_fixed_on s f) || begins_on (at (array_of o) s) f) s all inside)) [
      | inl out ↦ absurd (both_ways _ (not-true _ out) (and_from _ _ member fixed))
      | inr so ↦ begins-told o s f (at (array_of o) s) refl so
    ]

pub begun-tells : (o : List Bool) (set : List Bool) (f : Figure) → ((s : ℕ) → is_in set s ≡ true → is_fixed_on s f ≡ true → IsBegun o s f) → is_begun (array_of o) set f ≡ true
unfolding is_begun
begun-tells o set f each = all_board (λ s. not (is_in set s && is_fixed_on s f) || begins_on (at (array_of o) s) f) (λ t ti. elim (cases_Bool (is_in set t && is_fixed_on t f)) [
  | inl here ↦ let parts = and_parts (is_in set t) (is_fixed_on t f) here in or_right (not (is_in set t && is_fixed_on t f)) (begins_on (at (array_of o) t) f) (begins-tells o t f (each t parts.0 parts.1))
  | inr other ↦ or_left (not (is_in set t && is_fixed_on t f)) (begins_on (at (array_of o) t) f) (not_from_false _ other)
])
