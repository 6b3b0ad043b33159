-- Words without blanks, put one after another with spaces between them, and parted again.
use Rattle.std.proofs.Common.{◌≡◌, ◌<◌, ◌==◌, ℕ, false, not, List, [], ◌∷◌, ◌++◌, length, refl, ap, ◌∙◌, arith, append_assoc}
use Rattle.std.proofs.lemmas.Bool.{ne_eqb, cond-true}
use Rattle.std.proofs.lemmas.List.Splits.{slice_split-cons_no, slice_split-cons_yes}
use Rattle.std.specs.List.{slice_split, onto_first, join_with_byte}
use Rattle.std.specs.Prelude.{filter}
use Rattle.game_text.specs.Words.{words, is_blank}
use Rattle.san_text.specs.Pieces.{added_all}

-- no byte is a blank
abbrev pub HasNoBlank : List ℕ → Type 0
HasNoBlank [] = Unit {0}
HasNoBlank (b ∷ text) = (is_blank b ≡ false) × HasNoBlank text

pub no_blank_more : (xs ys : List ℕ) → HasNoBlank xs → HasNoBlank ys → HasNoBlank (xs ++ ys)
no_blank_more [] ys h k = k
no_blank_more (x ∷ xs) ys h k = (h.0, no_blank_more xs ys h.1 k)

-- a byte above that of a space is no blank
pub above_space : (b : ℕ) → 32 < b → is_blank b ≡ false
above_space b high = rw (ne_eqb b 32 (λ e. omega arith), ne_eqb b 10 (λ e. omega arith), ne_eqb b 13 (λ e. omega arith)) refl

-- the text is a word
abbrev pub IsWord : List ℕ → Type 0
IsWord [] = ⊥
IsWord (b ∷ text) = HasNoBlank (b ∷ text)

-- each text is a word
abbrev pub AreWords : List (List ℕ) → Type 0
AreWords [] = Unit {0}
AreWords (text ∷ texts) = IsWord text × AreWords texts

pub word_from : (text : List ℕ) → 0 < length text → HasNoBlank text → IsWord text
word_from [] some clean = absurd (omega arith)
word_from (b ∷ text) some clean = clean

pub are_words_more : (xs ys : List (List ℕ)) → AreWords xs → AreWords ys → AreWords (xs ++ ys)
are_words_more [] ys h k = k
are_words_more (x ∷ xs) ys h k = (h.0, are_words_more xs ys h.1 k)

one_part : (text : List ℕ) → HasNoBlank text → slice_split is_blank text ≡ text ∷ []
one_part [] h = refl
one_part (b ∷ text) h = slice_split-cons_no is_blank b text h.0 ∙ ap (onto_first b) (one_part text h.1)

first_part : (text rest : List ℕ) → HasNoBlank text → slice_split is_blank (text ++ 32 ∷ rest) ≡ text ∷ slice_split is_blank rest
first_part [] rest h = slice_split-cons_yes is_blank 32 rest refl
first_part (b ∷ text) rest h = slice_split-cons_no is_blank b (text ++ 32 ∷ rest) h.0 ∙ ap (onto_first b) (first_part text rest h.1)

-- what stands between the blanks, where that isn't empty
abbrev kept : List (List ℕ) → List (List ℕ)
kept parts = filter (λ piece. not (length piece == 0)) parts

kept_word : (text : List ℕ) (parts : List (List ℕ)) → IsWord text → kept (text ∷ parts) ≡ text ∷ kept parts
kept_word [] parts h = absurd h
kept_word (b ∷ text) parts h = cond-true (not (length (b ∷ text) == 0)) ((b ∷ text) ∷ kept parts) (kept parts) (ap not (ne_eqb (length (b ∷ text)) 0 (λ e. omega arith)))

clean : (text : List ℕ) → IsWord text → HasNoBlank text
clean [] h = absurd h
clean (b ∷ text) h = h

-- words that are put together with spaces between them are parted again
pub words_back : (texts : List (List ℕ)) → AreWords texts → words (join_with_byte 32 texts) ≡ texts
words_back [] h = refl
words_back (text ∷ []) h = ap kept (one_part text (clean text h.0)) ∙ kept_word text [] h.0
words_back (text ∷ next ∷ texts) h =
    ap kept (first_part text (join_with_byte 32 (next ∷ texts)) (clean text h.0))
    ∙ kept_word text (slice_split is_blank (join_with_byte 32 (next ∷ texts))) h.0
    ∙ ap (λ (l : List (List ℕ)). text ∷ l) (words_back (next ∷ texts) h.1)

-- words added one by one are put together
added_after : (text : List ℕ) (texts : List (List ℕ)) → 0 < length text → added_all text texts ≡ join_with_byte 32 (text ∷ texts)
added_after text [] some = refl
added_after [] (next ∷ texts) some = absurd (omega arith)
added_after (b ∷ text) (next ∷ texts) some =
    added_after (b ∷ text ++ 32 ∷ next) texts (omega arith) ∙ joined (b ∷ text) next texts
  where
    joined : (text next : List ℕ) (texts : List (List ℕ)) → join_with_byte 32 ((text ++ 32 ∷ next) ∷ texts) ≡ text ++ 32 ∷ join_with_byte 32 (next ∷ texts)
    joined text next [] = refl
    joined text next (more ∷ texts) = append_assoc text (32 ∷ next) (32 ∷ join_with_byte 32 (more ∷ texts))

filled : (text : List ℕ) → IsWord text → 0 < length text
filled [] h = absurd h
filled (b ∷ text) h = omega arith

pub added_joined : (texts : List (List ℕ)) → AreWords texts → added_all [] texts ≡ join_with_byte 32 texts
added_joined [] h = refl
added_joined (text ∷ texts) h = added_after text texts (filled text h.0)
