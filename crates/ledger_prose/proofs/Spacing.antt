-- Sentences one behind the other.
use Rattle.std.proofs.Common.{◌≡◌, ℕ, ◌+◌, ◌<◌, ◌≤◌, Bool, true, false, List, [], ◌∷◌, ◌++◌, length, get_or, take, refl, ap, sym, ◌∙◌, append_assoc, append-nil}
use Rattle.std.specs.Prelude.{codes}
use Rattle.std.specs.List.{flat_map}
use Rattle.std.proofs.lemmas.Bool.{cond-false, cond-true}
use Rattle.std.proofs.lemmas.List.{flat_map_more, take_all}
use Rattle.std.proofs.lemmas.List.Concat.{flat_map-append}
use Rattle.query_base.specs.Asked.{Asked}
use Rattle.prose_words.proofs.Squares.{thence}
use Rattle.proof_story.proofs.Parts.{item-more}
use Rattle.ledger_prose.specs.Sentences.{Sentence, one_if}
use Rattle.ledger_prose.specs.Words.{spaced_words, words_of}

-- the text of one item more
pub joined-step : {A : Type 0} (f : A → List ℕ) (xs : List A) (i : ℕ) (x : A) (front old new : List ℕ) → i < length xs → x ≡ get_or xs i x → old ≡ front ++ flat_map f (take i xs) → new ≡ old ++ f x → new ≡ front ++ flat_map f (take (i + 1) xs)
joined-step {A} f xs i x front old new inside is so_far more =
    more ∙ ap (λ (t : List ℕ). t ++ f x) so_far ∙ flat_map_more f front (take i xs) x ∙ ap (λ (l : List A). front ++ flat_map f l) (sym (item-more xs i x inside is))

pub spaced-append : (q : Asked) (xs ys : List Sentence) → spaced_words q (xs ++ ys) ≡ spaced_words q xs ++ spaced_words q ys
unfolding spaced_words
spaced-append q xs ys = flat_map-append (λ (x : Sentence). 32 ∷ words_of q x) xs ys

pub spaced-none : (q : Asked) → spaced_words q [] ≡ []
unfolding spaced_words
spaced-none q = refl

-- the texts of the sentences of each item are that of all of them
each-item : {A : Type 0} (q : Asked) (f : A → List Sentence) (xs : List A) → flat_map (λ (x : A). spaced_words q (f x)) xs ≡ spaced_words q (flat_map f xs)
each-item {A} q f [] = sym (spaced-none q)
each-item {A} q f (x ∷ xs) = ap (λ (t : List ℕ). spaced_words q (f x) ++ t) (each-item q f xs) ∙ sym (spaced-append q (f x) (flat_map f xs))

-- no item is left
pub joined-whole : {A : Type 0} (q : Asked) (f : A → List Sentence) (xs : List A) (i : ℕ) (front new : List ℕ) → length xs ≤ i → new ≡ front ++ flat_map (λ (x : A). spaced_words q (f x)) (take i xs) → new ≡ front ++ spaced_words q (flat_map f xs)
joined-whole {A} q f xs i front new past e =
    e ∙ ap (λ (l : List A). front ++ flat_map (λ (x : A). spaced_words q (f x)) l) (take_all i xs past) ∙ ap (λ (t : List ℕ). front ++ t) (each-item q f xs)

-- a sentence that is due, or none
pub due-said : (q : Asked) (due : Bool) (s : Sentence) (old : List ℕ) → due ≡ true → old ++ (codes " " ++ words_of q s) ≡ old ++ spaced_words q (one_if due s)
unfolding spaced_words
due-said q due s old is =
    ap (λ (l : List ℕ). old ++ l) (sym (append-nil (codes " " ++ words_of q s))) ∙ ap (λ (xs : List Sentence). old ++ flat_map (λ (x : Sentence). 32 ∷ words_of q x) xs) (sym (cond-true due (s ∷ []) [] is))

pub none-said : (q : Asked) (due : Bool) (s : Sentence) (old : List ℕ) → due ≡ false → old ≡ old ++ spaced_words q (one_if due s)
unfolding spaced_words
none-said q due s old less = sym (append-nil old) ∙ ap (λ (xs : List Sentence). old ++ flat_map (λ (x : Sentence). 32 ∷ words_of q x) xs) (sym (cond-false due (s ∷ []) [] less))

-- more sentences behind these
spaced-more : (q : Asked) (done xs : List Sentence) (front old new : List ℕ) → old ≡ front ++ spaced_words q done → new ≡ old ++ spaced_words q xs → new ≡ front ++ spaced_words q (done ++ xs)
spaced-more q done xs front old new first last =
    last ∙ ap (λ (t : List ℕ). t ++ spaced_words q xs) first ∙ append_assoc front (spaced_words q done) (spaced_words q xs) ∙ ap (λ (t : List ℕ). front ++ t) (sym (spaced-append q done xs))

-- the text of four parts
pub four-told : (q : Asked) (a b c d : List Sentence) (front t u v : List ℕ) → t ≡ front ++ spaced_words q a → u ≡ t ++ spaced_words q b → v ≡ u ++ spaced_words q c → v ++ spaced_words q d ≡ front ++ spaced_words q (((a ++ b) ++ c) ++ d)
four-told q a b c d front t u v one two three =
    let second = spaced-more q a b front t u one two in
    let third = spaced-more q (a ++ b) c front u v second three in
    spaced-more q ((a ++ b) ++ c) d front v (v ++ spaced_words q d) third refl

-- texts of two, of four and of five pieces
pub two-pieces : (o p a b : List ℕ) → p ≡ o ++ a → p ++ b ≡ o ++ (a ++ b)
two-pieces o p a b e = thence o p (p ++ b) a b e refl

pub four-pieces : (o p q r a b c d : List ℕ) → p ≡ o ++ a → q ≡ p ++ b → r ≡ q ++ c → r ++ d ≡ o ++ (((a ++ b) ++ c) ++ d)
four-pieces o p q r a b c d e f g = thence o r (r ++ d) ((a ++ b) ++ c) d (thence o q r (a ++ b) c (thence o p q a b e f) g) refl

pub five-pieces : (o p q r s a b c d e : List ℕ) → p ≡ o ++ a → q ≡ p ++ b → r ≡ q ++ c → s ≡ r ++ d → s ++ e ≡ o ++ ((((a ++ b) ++ c) ++ d) ++ e)
five-pieces o p q r s a b c d e f g h i = thence o s (s ++ e) (((a ++ b) ++ c) ++ d) e (i ∙ four-pieces o p q r a b c d f g h) refl
