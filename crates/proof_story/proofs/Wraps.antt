-- Lines that are cut into rows, letter by letter.
use Rattle.std.proofs.Common.{◌≡◌, ℕ, suc, ◌+◌, ◌<◌, ◌≤◌, ◌==◌, true, false, not, inl, inr, List, [], ◌∷◌, ◌++◌, length, drop, get_or, sym, ap, ◌∙◌, arith}
use Rattle.std.specs.Prelude.{codes}
use Rattle.std.proofs.Math.Seq.{drop-cons}
use Rattle.std.proofs.lemmas.Bool.{cases_Bool, cond-true, cond-false}
use Rattle.std.proofs.lemmas.List.{append_assoc}
use Rattle.proof_story.specs.Rows.{column_after, cut_from, is_cut, is_gap, word_length}

-- a gap ends a word
pub word-here : (line : List ℕ) (i : ℕ) → i < length line → is_gap (get_or line i 0) ≡ true → word_length (drop i line) ≡ 0
word-here line i lt gap =
    ap word_length (drop-cons line i 0 lt) ∙ cond-false (not (is_gap (get_or line i 0))) (1 + word_length (drop (suc i) line)) 0 (ap not gap)

-- another letter is part of it
pub word-on : (line : List ℕ) (i : ℕ) → i < length line → is_gap (get_or line i 0) ≡ false → word_length (drop i line) ≡ 1 + word_length (drop (i + 1) line)
word-on line i lt part =
    let next : suc i ≡ i + 1 = omega arith in
    ap word_length (drop-cons line i 0 lt) ∙ cond-true (not (is_gap (get_or line i 0))) (1 + word_length (drop (suc i) line)) 0 (ap not part) ∙ ap (λ (k : ℕ). 1 + word_length (drop k line)) next

-- a row ends before a blank
pub cut-here : (column letter : ℕ) (rest o n : List ℕ) → is_cut column letter rest ≡ true → n ≡ o ++ codes "\n    " → n ++ cut_from 4 rest ≡ o ++ cut_from column (letter ∷ rest)
cut-here column letter rest o n cut e =
    ap (λ (l : List ℕ). l ++ cut_from 4 rest) e
    ∙ append_assoc o (codes "\n    ") (cut_from 4 rest)
    ∙ ap (λ (l : List ℕ). o ++ l) (sym (cond-true (is_cut column letter rest) (codes "\n    " ++ cut_from 4 rest) (letter ∷ cut_from (column_after column letter) rest) cut))

-- a letter stands in the row
pub cut-on : (column letter : ℕ) (rest o n : List ℕ) → is_cut column letter rest ≡ false → n ≡ o ++ letter ∷ [] → n ++ cut_from (column_after column letter) rest ≡ o ++ cut_from column (letter ∷ rest)
cut-on column letter rest o n stays e =
    ap (λ (l : List ℕ). l ++ cut_from (column_after column letter) rest) e
    ∙ append_assoc o (letter ∷ []) (cut_from (column_after column letter) rest)
    ∙ ap (λ (l : List ℕ). o ++ l) (sym (cond-false (is_cut column letter rest) (codes "\n    " ++ cut_from 4 rest) (letter ∷ cut_from (column_after column letter) rest) stays))

-- a letter makes a row one longer at most
pub after-few : (column letter most : ℕ) → column + 1 ≤ most → column_after column letter ≤ most
after-few column letter most few = elim (cases_Bool (letter == 10)) [
  | inl ends ↦ rw (cond-true (letter == 10) 0 (column + 1) ends) (omega arith)
  | inr goes ↦ rw (cond-false (letter == 10) 0 (column + 1) goes) few
]
