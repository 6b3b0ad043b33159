-- Numbers of figures, and letters of files, that are written one after another.
use Rattle.std.proofs.Common.{◌≡◌, ℕ, suc, ◌+◌, ◌*◌, ◌<◌, ◌≤◌, List, [], ◌∷◌, ◌++◌, length, take, get_or, map, sym, ap, ◌∙◌, arith, append-nil, append_assoc, length-append, take-suc}
use Rattle.std.proofs.lemmas.List.{map-append}
use Rattle.std.specs.Fmt.{decimal}
use Rattle.sketch_text.specs.Marks.{figures_text}

one_more : (xs : List ℕ) (i x : ℕ) → i < length xs → x ≡ get_or xs i 0 → take (i + 1) xs ≡ take i xs ++ x ∷ []
one_more xs i x inside here =
    let next : i + 1 ≡ suc i = omega arith in
    ap (λ (k : ℕ). take k xs) next ∙ take-suc xs i 0 inside ∙ ap (λ (k : ℕ). take i xs ++ k ∷ []) (sym here)

-- so many letters were written
pub record LettersWritten (files : List ℕ) (i : ℕ) (old now : List ℕ) : Type 0 where
  pub text_is : now ≡ old ++ map (λ x. 97 + x) (take i files)
  pub short : length now ≤ length old + i

pub letters_written : (files : List ℕ) (old : List ℕ) → LettersWritten files 0 old old
letters_written files old = record { text_is = sym (append-nil old); short = omega arith }

pub letter_written : (files : List ℕ) (i x : ℕ) (old now next : List ℕ) → i < length files → x ≡ get_or files i 0 → next ≡ now ++ (97 + x) ∷ [] → LettersWritten files i old now → LettersWritten files (i + 1) old next
letter_written files i x old now next inside here is s =
    let short = s.short in
    let longer = ap (λ (l : List ℕ). length l) is ∙ length-append now ((97 + x) ∷ []) in
    record {
      text_is = is ∙ ap (λ (l : List ℕ). l ++ (97 + x) ∷ []) s.text_is ∙ append_assoc old (map (λ y. 97 + y) (take i files)) ((97 + x) ∷ [])
          ∙ ap (λ (l : List ℕ). old ++ l) (sym (map-append (λ (y : ℕ). 97 + y) (take i files) (x ∷ [])) ∙ ap (λ (l : List ℕ). map (λ y. 97 + y) l) (sym (one_more files i x inside here)));
      short = omega arith;
    }

-- so many figures were written
pub record FiguresWritten (figures : List ℕ) (i : ℕ) (old now : List ℕ) : Type 0 where
  pub text_is : now ≡ old ++ figures_text (take i figures)
  pub short : length now ≤ length old + 3 * i

pub figures_written : (figures : List ℕ) (old : List ℕ) → FiguresWritten figures 0 old old
unfolding figures_text
figures_written figures old = record { text_is = sym (append-nil old); short = omega arith }

figures_append : (xs : List ℕ) (x : ℕ) → figures_text (xs ++ x ∷ []) ≡ figures_text xs ++ 32 ∷ decimal x
unfolding figures_text
figures_append [] x = ap (λ (l : List ℕ). 32 ∷ l) (append-nil (decimal x))
figures_append (y ∷ xs) x = ap (λ (l : List ℕ). 32 ∷ (decimal y ++ l)) (figures_append xs x) ∙ sym (append_assoc (32 ∷ decimal y) (figures_text xs) (32 ∷ decimal x))

pub figure_written : (figures : List ℕ) (i x : ℕ) (old now next : List ℕ) → i < length figures → x ≡ get_or figures i 0 → next ≡ (now ++ 32 ∷ []) ++ decimal x → length next ≤ length (now ++ 32 ∷ []) + 2 → FiguresWritten figures i old now → FiguresWritten figures (i + 1) old next
figure_written figures i x old now next inside here is few s =
    let short = s.short in
    let longer = length-append now (32 ∷ []) in
    record {
      text_is = is ∙ append_assoc now (32 ∷ []) (decimal x) ∙ ap (λ (l : List ℕ). l ++ 32 ∷ decimal x) s.text_is ∙ append_assoc old (figures_text (take i figures)) (32 ∷ decimal x)
          ∙ ap (λ (l : List ℕ). old ++ l) (sym (figures_append (take i figures) x) ∙ ap figures_text (sym (one_more figures i x inside here)));
      short = omega arith;
    }
