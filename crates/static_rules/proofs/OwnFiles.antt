-- Pawns that are given files of their own one after another.
use Rattle.std.proofs.Common.{◌≡◌, ℕ, ◌+◌, ◌*◌, ◌<◌, ◌≤◌, Bool, true, false, List, [], ◌∷◌, ◌++◌, length, slice_index, slice_index_or, slice_set, inl, inr, refl, sym, ap, ◌∙◌, arith, length-append, length-set, get_or-set_same, get_or-set_other}
use Rattle.std.proofs.lemmas.Bool.{both_ways, cases_eq, cases_lt}
use Rattle.std.proofs.lemmas.List.{get_or_append_left, get_or_push}
use Rattle.std.proofs.lemmas.List.Elements.{All-push, All-nil}
use Rattle.assignment.specs.Assignments.{IsInjection, assignment_cost}
use Rattle.assignment.specs.Tables.{cost_at}

-- so many pawns have files of their own, which are taken, and together cost so much
pub record AreGiven (table : List (List ℕ)) (rows cost : ℕ) (taken : List Bool) : Type 0 where
  pub files : List ℕ
  pub injection : IsInjection 8 rows files
  pub cost_is : cost ≡ assignment_cost table files
  pub are_taken : (k : ℕ) → k < rows → slice_index_or taken (slice_index files k) false ≡ true
  pub whole : length taken ≡ 8
  pub small : cost ≤ 64 * rows

-- nobody costs nothing
no_cost : (table : List (List ℕ)) → assignment_cost table [] ≡ 0
no_cost [] = refl
no_cost (row ∷ table) = refl

-- no pawn has one yet
pub none_given : (table : List (List ℕ)) (taken : List Bool) → length taken ≡ 8 → AreGiven table 0 0 taken
none_given table taken whole = record {
  files = [];
  injection = record { size = refl; within = All-nil (λ j. j < 8); apart = λ i k li lk same. absurd (omega arith) };
  cost_is = sym (no_cost table);
  are_taken = λ k low. absurd (omega arith);
  whole = whole;
  small = omega arith;
}

-- what one more costs
more_cost : (table : List (List ℕ)) (files : List ℕ) (f : ℕ) → length files < length table → assignment_cost table (files ++ f ∷ []) ≡ assignment_cost table files + cost_at table (length files) f
more_cost [] files f low = absurd (omega arith)
more_cost (row ∷ table) [] f low = let none = no_cost table in omega arith
more_cost (row ∷ table) (g ∷ files) f low = let rest = more_cost table files f (omega arith) in omega arith

-- the file of each before stays, and that of the last is this
stays : (files : List ℕ) (f k : ℕ) → k < length files → slice_index (files ++ f ∷ []) k ≡ slice_index files k
stays files f k low = get_or_append_left files (f ∷ []) 0 k low

-- one more file, which is none of the others
more_apart : (rows : ℕ) (files : List ℕ) (f : ℕ) → IsInjection 8 rows files → ((k : ℕ) → k < rows → slice_index files k ≡ f → ⊥)
    → (i k : ℕ) → i < length (files ++ f ∷ []) → k < length (files ++ f ∷ []) → slice_index (files ++ f ∷ []) i ≡ slice_index (files ++ f ∷ []) k → i ≡ k
more_apart rows files f inj other i k li lk same =
    let size : length files ≡ rows = inj.size in
    let all : length (files ++ f ∷ []) ≡ length files + 1 = length-append files (f ∷ []) in
    elim (cases_lt i (length files)) [
      | inl ei ↦ elim (cases_lt k (length files)) [
        | inl ek ↦ inj.apart i k ei ek (sym (stays files f i ei) ∙ same ∙ stays files f k ek)
        | inr lastk ↦ absurd (other i (omega arith) (sym (stays files f i ei) ∙ same ∙ get_or_push files f 0 k (omega arith)))
      ]
      | inr lasti ↦ elim (cases_lt k (length files)) [
        | inl ek ↦ absurd (other k (omega arith) (sym (stays files f k ek) ∙ sym same ∙ get_or_push files f 0 i (omega arith)))
        | inr lastk ↦ omega arith
      ]
    ]

more_injection : (rows : ℕ) (files : List ℕ) (f : ℕ) → IsInjection 8 rows files → f < 8 → ((k : ℕ) → k < rows → slice_index files k ≡ f → ⊥) → IsInjection 8 (rows + 1) (files ++ f ∷ [])
more_injection rows files f inj low other = record {
  size = length-append files (f ∷ []) ∙ ap (λ (n : ℕ). n + 1) inj.size;
  within = All-push (λ j. j < 8) files f inj.within low;
  apart = more_apart rows files f inj other;
}

-- what is taken stays so, and one more file is
taken_before : (taken : List Bool) (f g : ℕ) → f < length taken → slice_index_or taken g false ≡ true → slice_index_or (slice_set taken f true) g false ≡ true
taken_before taken f g low here = elim (cases_eq g f) [
  | inl same ↦ ap (λ (n : ℕ). slice_index_or (slice_set taken f true) n false) same ∙ get_or-set_same taken f true false low
  | inr other ↦ get_or-set_other taken f g true false other ∙ here
]

-- one more pawn is given a file that is free
pub one_more_given : (table : List (List ℕ)) (rows cost own f : ℕ) (taken : List Bool) → AreGiven table rows cost taken → rows < length table → f < 8 → slice_index_or taken f false ≡ false → own ≡ cost_at table rows f → own ≤ 64 → AreGiven table (rows + 1) (cost + own) (slice_set taken f true)
one_more_given table rows cost own f taken g low file free is small =
    let size : length g.files ≡ rows = g.injection.size in
    let other : (k : ℕ) → k < rows → slice_index g.files k ≡ f → ⊥ = λ k lt same. both_ways _ free (sym (ap (λ (n : ℕ). slice_index_or taken n false) same) ∙ g.are_taken k lt) in
    record {
      files = g.files ++ f ∷ [];
      injection = more_injection rows g.files f g.injection file other;
      cost_is =
          let more = more_cost table g.files f (omega arith) in
          let here : cost_at table (length g.files) f ≡ cost_at table rows f = ap (λ (n : ℕ). cost_at table n f) size in
          omega (arith, more, here, is, g.cost_is);
      are_taken = λ k lt.
          elim (cases_lt k rows) [
            | inl before ↦ ap (λ (n : ℕ). slice_index_or (slice_set taken f true) n false) (stays g.files f k (omega arith)) ∙ taken_before taken f (slice_index g.files k) (omega (arith, g.whole)) (g.are_taken k before)
            | inr last ↦ ap (λ (n : ℕ). slice_index_or (slice_set taken f true) n false) (get_or_push g.files f 0 k (omega arith)) ∙ get_or-set_same taken f true false (omega (arith, g.whole))
          ];
      whole = length-set taken f true ∙ g.whole;
      small = omega (arith, g.small);
    }
