-- Words and their texts.
use Rattle.std.proofs.Common.{◌≡◌, ℕ, ◌+◌, ◌≤◌, ◌==◌, Bool, true, not, List, [], ◌∷◌, ◌++◌, length, Option, Some, None, Bor, refl, ap, ◌∙◌, arith}
use Rattle.std.specs.Prelude.{MatchOption}
use Rattle.std.proofs.lemmas.Bool.{and_parts, not-true}
use Rattle.std.proofs.lemmas.List.Splits.{slice_split-cons_no, length-slice_split}
use Rattle.std.specs.List.{join_with_byte, list_all, onto_first}
use Rattle.fen_text.specs.Parts.{Free}
use Rattle.fen_text.proofs.PartLemmas.{free_append}
use Rattle.price_text.specs.Words.{words}

pub words_at : (word rest : List ℕ) → Free 32 word → words (word ++ 32 ∷ rest) ≡ word ∷ words rest
words_at [] rest free = refl
words_at (b ∷ word) rest free =
    let parts = and_parts (not (b == 32)) _ free in
    slice_split-cons_no (λ (x : ℕ). x == 32) b (word ++ 32 ∷ rest) (not-true (b == 32) parts.0) ∙ ap (onto_first b) (words_at word rest parts.1)

pub words_alone : (word : List ℕ) → Free 32 word → words word ≡ word ∷ []
words_alone [] free = refl
words_alone (b ∷ word) free =
    let parts = and_parts (not (b == 32)) _ free in
    slice_split-cons_no (λ (x : ℕ). x == 32) b word (not-true (b == 32) parts.0) ∙ ap (onto_first b) (words_alone word parts.1)

-- what is left behind a word
abbrev pub left : Option (Bor (List ℕ)) → List (List ℕ)
left None = []
left (Some r) = words r.now

pub cut_word : (text word : List ℕ) (after : Option (Bor (List ℕ))) → Free 32 word → MatchOption after (text ≡ word) (λ r. text ≡ word ++ 32 ∷ r.now) → words text ≡ word ∷ left after
cut_word text word None free e = ap words e ∙ words_alone word free
cut_word text word (Some r) free e = ap words e ∙ words_at word r.now free

pub some_words : (text : List ℕ) → 1 ≤ length (words text)
some_words text = omega (arith, length-slice_split (λ (x : ℕ). x == 32) text)

-- no word has the byte
abbrev pub are_free : ℕ → List (List ℕ) → Bool
are_free c ws = list_all (λ w. list_all (λ b. not (b == c)) w) ws

words_back : (w : List ℕ) (ws : List (List ℕ)) → are_free 32 (w ∷ ws) ≡ true → words (join_with_byte 32 (w ∷ ws)) ≡ w ∷ ws
words_back w [] free = words_alone w (and_parts _ _ free).0
words_back w (v ∷ ws) free =
    let parts = and_parts _ _ free in
    words_at w (join_with_byte 32 (v ∷ ws)) parts.0 ∙ ap (λ (l : List (List ℕ)). w ∷ l) (words_back v ws parts.1)

pub joined_free : (ws : List (List ℕ)) → are_free 10 ws ≡ true → Free 10 (join_with_byte 32 ws)
joined_free [] free = refl
joined_free (w ∷ []) free = (and_parts _ _ free).0
joined_free (w ∷ v ∷ ws) free =
    let parts = and_parts _ _ free in
    free_append 10 w (32 ∷ join_with_byte 32 (v ∷ ws)) parts.0 (joined_free (v ∷ ws) parts.1)

pub all_back_words : (ws : List (List ℕ)) → are_free 32 ws ≡ true → 1 ≤ length ws → words (join_with_byte 32 ws) ≡ ws
all_back_words [] free some = absurd (omega arith)
all_back_words (w ∷ ws) free some = words_back w ws free
