-- Assignments of sixteen rows to sixteen columns.
use Rattle.std.proofs.Common.{◌≡◌, ◌≢◌, ℕ, suc, ◌<◌, inl, inr, List, [], ◌∷◌, length, slice_index, refl, ap, sym, ◌∙◌, arith}
use Rattle.std.proofs.lemmas.Bool.{cases_eq}
use Rattle.std.proofs.lemmas.List.Edits.{length-swap, swapped_from_swap}
use Rattle.std.proofs.lemmas.List.Elements.{All-from_get_or, All-get_or}
use Rattle.std.specs.List.{swap, range_with_len}
use Rattle.general_lemmas.proofs.Differing.{Differ, Has, has-range}
use Rattle.assignment.specs.Assignments.{IsInjection}

-- the same columns, read one by one
pub injection-same : (xs ys : List ℕ) → IsInjection 16 16 xs → length ys ≡ 16 → ((k : ℕ) → k < 16 → slice_index ys k ≡ slice_index xs k) → IsInjection 16 16 ys
injection-same xs ys h size same = record {
  size = size;
  within = All-from_get_or (λ j. j < 16) ys 0 (λ i low. let e = same i (omega (arith, low, size)) in let below : slice_index xs i < 16 = All-get_or (λ j. j < 16) xs i 0 (omega (arith, low, size, h.size)) h.within in omega (arith, e, below));
  apart = λ i k low high is. h.apart i k (omega (arith, low, size, h.size)) (omega (arith, high, size, h.size)) (sym (same i (omega (arith, low, size))) ∙ is ∙ same k (omega (arith, high, size)));
}

-- two columns that change places
module _ (a b : ℕ) (xs : List ℕ) (h : IsInjection 16 16 xs) (first : a < 16) (second : b < 16) where
  from : (m : ℕ) → m < 16 → (n : ℕ) × (n < 16) × (slice_index (swap xs a b) m ≡ slice_index xs n) × ((m ≡ a → n ≡ b) × (m ≡ b → n ≡ a) × (m ≢ a → m ≢ b → n ≡ m))
  from m low =
      let size = h.size in
      let is = swapped_from_swap xs (swap xs a b) a b 0 (omega arith) (omega arith) refl in
      elim (cases_eq m a) [
        | inl here ↦ (b, second, ap (slice_index (swap xs a b)) here ∙ is.0, (λ e. refl, λ e. sym e ∙ here, λ not_a not_b. absurd (not_a here)))
        | inr other ↦ elim (cases_eq m b) [
          | inl there ↦ (a, first, ap (slice_index (swap xs a b)) there ∙ is.1, (λ e. absurd (other e), λ e. refl, λ not_a not_b. absurd (not_b there)))
          | inr neither ↦ (m, low, is.2 m other neither, (λ e. absurd (other e), λ e. absurd (neither e), λ not_a not_b. refl))
        ]
      ]

  pub injection-swap : IsInjection 16 16 (swap xs a b)
  injection-swap =
      let size : length (swap xs a b) ≡ 16 = length-swap xs a b ∙ h.size in
      record {
        size = size;
        within = All-from_get_or (λ j. j < 16) (swap xs a b) 0 (λ i low.
            let x = from i (omega (arith, low, size)) in
            let inside : x.0 < 16 = x.1 in
            let below : slice_index xs x.0 < 16 = All-get_or (λ j. j < 16) xs x.0 0 (omega (arith, inside, h.size)) h.within in
            let e : slice_index (swap xs a b) i ≡ slice_index xs x.0 = x.2 in
            omega (arith, e, below));
        apart = λ i k low high same.
            let x = from i (omega (arith, low, size)) in
            let y = from k (omega (arith, high, size)) in
            let in_x : x.0 < 16 = x.1 in
            let in_y : y.0 < 16 = y.1 in
            let equal : x.0 ≡ y.0 = h.apart x.0 y.0 (omega (arith, in_x, h.size)) (omega (arith, in_y, h.size)) (sym x.2 ∙ same ∙ y.2) in
            elim (cases_eq i a) [
              | inl i_a ↦ elim (cases_eq k a) [
                | inl k_a ↦ i_a ∙ sym k_a
                | inr k_other ↦ elim (cases_eq k b) [
                  | inl k_b ↦ let e : x.0 ≡ b = x.3.0 i_a in let f : y.0 ≡ a = y.3.1 k_b in omega (arith, i_a, k_b, e, f, equal)
                  | inr k_free ↦ let e : x.0 ≡ b = x.3.0 i_a in let f : y.0 ≡ k = y.3.2 k_other k_free in absurd (k_free (sym f ∙ sym equal ∙ e))
                ]
              ]
              | inr i_other ↦ elim (cases_eq i b) [
                | inl i_b ↦ elim (cases_eq k a) [
                  | inl k_a ↦ let e : x.0 ≡ a = x.3.1 i_b in let f : y.0 ≡ b = y.3.0 k_a in omega (arith, i_b, k_a, e, f, equal)
                  | inr k_other ↦ elim (cases_eq k b) [
                    | inl k_b ↦ i_b ∙ sym k_b
                    | inr k_free ↦ let e : x.0 ≡ a = x.3.1 i_b in let f : y.0 ≡ k = y.3.2 k_other k_free in absurd (k_other (sym f ∙ sym equal ∙ e))
                  ]
                ]
                | inr i_free ↦
                    let e : x.0 ≡ i = x.3.2 i_other i_free in
                    elim (cases_eq k a) [
                      | inl k_a ↦ let f : y.0 ≡ b = y.3.0 k_a in absurd (i_free (sym e ∙ equal ∙ f))
                      | inr k_other ↦ elim (cases_eq k b) [
                        | inl k_b ↦ let f : y.0 ≡ a = y.3.1 k_b in absurd (i_other (sym e ∙ equal ∙ f))
                        | inr k_free ↦ let f : y.0 ≡ k = y.3.2 k_other k_free in sym e ∙ equal ∙ f
                      ]
                    ]
              ]
            ];
      }

-- each of a list's numbers has a place in it
pub has-place : (xs : List ℕ) (z : ℕ) → Has xs z → (k : ℕ) × (k < length xs) × (slice_index xs k ≡ z)
has-place [] z h = elim h [ ]
has-place (x ∷ xs) z h = elim h [
  | inl e ↦ (0, omega arith, e)
  | inr there ↦ let x = has-place xs z there in let low : x.0 < length xs = x.1 in (suc x.0, omega arith, x.2)
]

-- numbers in places of their own differ
pub places-differ : (xs : List ℕ) → ((i k : ℕ) → i < length xs → k < length xs → slice_index xs i ≡ slice_index xs k → i ≡ k) → Differ xs
places-differ [] apart = tt
places-differ (x ∷ xs) apart = (
  λ there. let y = has-place xs x there in let low : y.0 < length xs = y.1 in let e : 0 ≡ suc y.0 = apart 0 (suc y.0) (omega arith) (omega arith) (sym y.2) in absurd (omega arith),
  places-differ xs (λ i k low high same. let e : suc i ≡ suc k = apart (suc i) (suc k) (omega arith) (omega arith) same in omega arith),
)

-- the columns of an assignment, each once, are among all
pub columns-differ : (columns : List ℕ) → IsInjection 16 16 columns → Differ columns
columns-differ columns h = places-differ columns h.apart

pub columns-among : (columns : List ℕ) → IsInjection 16 16 columns → (z : ℕ) → Has columns z → Has (range_with_len 0 16) z
columns-among columns h z there =
    let x = has-place columns z there in
    let low : slice_index columns x.0 < 16 = All-get_or (λ j. j < 16) columns x.0 0 x.1 h.within in
    let e : slice_index columns x.0 ≡ z = x.2 in
    has-range 0 16 z (omega arith) (omega (arith, low, e))
