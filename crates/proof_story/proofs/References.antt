-- What references mean: since each leads back, as many as there are paragraphs are enough.
use Rattle.std.proofs.Common.{◌≡◌, ℕ, zero, suc, ◌-◌, ◌<◌, ◌≤◌, inl, inr, List, [], ◌∷◌, length, refl, sym, ap, ◌∙◌, arith}
use Rattle.std.specs.Prelude.{Option, Some, None, slice_get}
use Rattle.std.proofs.lemmas.Bool.{cases_lt}
use Rattle.std.proofs.lemmas.Option.{slice_get_past}
use Rattle.board_base.specs.declared.unmoves.Unmove.{Unmove}
use Rattle.proof_story.specs.Reading.{IsReadable, RefersBack}
use Rattle.proof_story.specs.Story.{below, chosen, next, next_within, or_else, own_words, reference, referred, told_from, walk, words_at, words_within}
use Rattle.proof_story.specs.declared.stories.Paragraph.{Paragraph}

-- a paragraph beyond the last refers to none
all-back : (story : List Paragraph) → IsReadable story → (k : ℕ) → RefersBack story k
all-back story r k j e = elim (cases_lt k (length story)) [
  | inl inside ↦ r.back k inside j e
  | inr past ↦
      let none : reference story k ≡ None = ap (λ (o : Option Paragraph). elim o [ None ↦ None | Some p ↦ referred p.said ]) (slice_get_past story k past) in
      absurd (cc (none, e))
]

next-behind : (story : List Paragraph) (n m i : ℕ) (u : Unmove) (o : Option ℕ) → RefersBack story i → reference story i ≡ o → i < suc n → i < suc m → ((j : ℕ) → j < n → j < m → next_within n story j u ≡ next_within m story j u)
    → ◌≡◌ {A = Option ℕ} (elim o [ None ↦ None | Some j ↦ next_within n story j u ]) (elim o [ None ↦ None | Some j ↦ next_within m story j u ])
next-behind story n m i u None back e low high each = refl
next-behind story n m i u (Some j) back e low high each = let before : j < i = back j e in each j (omega arith) (omega arith)

-- more references than there are paragraphs up to this one change nothing
next-enough : (story : List Paragraph) → ((k : ℕ) → RefersBack story k) → (n m i : ℕ) (u : Unmove) → i < n → i < m → next_within n story i u ≡ next_within m story i u
next-enough story back zero m i u low high = absurd (omega arith)
next-enough story back (suc n) zero i u low high = absurd (omega arith)
next-enough story back (suc n) (suc m) i u low high =
    ap (or_else (chosen story u (below story i))) (next-behind story n m i u (reference story i) (back i) refl low high (λ j a b. next-enough story back n m j u a b))

words-behind : (story : List Paragraph) (n m i : ℕ) (o : Option ℕ) → RefersBack story i → reference story i ≡ o → i < suc n → i < suc m → ((j : ℕ) → j < n → j < m → words_within n story j ≡ words_within m story j)
    → ◌≡◌ {A = Option (List ℕ)} (elim o [ None ↦ own_words story i | Some j ↦ words_within n story j ]) (elim o [ None ↦ own_words story i | Some j ↦ words_within m story j ])
words-behind story n m i None back e low high each = refl
words-behind story n m i (Some j) back e low high each = let before : j < i = back j e in each j (omega arith) (omega arith)

words-enough : (story : List Paragraph) → ((k : ℕ) → RefersBack story k) → (n m i : ℕ) → i < n → i < m → words_within n story i ≡ words_within m story i
words-enough story back zero m i low high = absurd (omega arith)
words-enough story back (suc n) zero i low high = absurd (omega arith)
words-enough story back (suc n) (suc m) i low high =
    words-behind story n m i (reference story i) (back i) refl low high (λ j a b. words-enough story back n m j a b)

-- a retraction that no paragraph below tells leads where it leads in the other
next-same : (story : List Paragraph) (i j : ℕ) (u : Unmove) → IsReadable story → i < length story → reference story i ≡ Some j → chosen story u (below story i) ≡ None → next story i u ≡ next story j u
next-same story i j u r inside e none =
    let n : ℕ = length story - 1 in
    let whole : length story ≡ suc n = omega arith in
    let before : j < i = all-back story r i j e in
    let behind : Option ℕ → Option ℕ = λ o. elim o [ None ↦ None | Some k ↦ next_within n story k u ] in
    ap (λ (m : ℕ). next_within m story i u) whole
    ∙ ap (λ (o : Option ℕ). or_else o (behind (reference story i))) none
    ∙ ap behind e
    ∙ next-enough story (all-back story r) n (length story) j u (omega arith) (omega arith)

pub same-words : (story : List Paragraph) (i j : ℕ) → IsReadable story → i < length story → reference story i ≡ Some j → told_from story i [] ≡ told_from story j []
same-words story i j r inside e =
    let n : ℕ = length story - 1 in
    let whole : length story ≡ suc n = omega arith in
    let before : j < i = all-back story r i j e in
    let behind : Option ℕ → Option (List ℕ) = λ o. elim o [ None ↦ own_words story i | Some k ↦ words_within n story k ] in
    ap (λ (m : ℕ). words_within m story i) whole
    ∙ ap behind e
    ∙ words-enough story (all-back story r) n (length story) j (omega arith) (omega arith)

pub same-moves : (story : List Paragraph) (i j : ℕ) (u : Unmove) (rest : List Unmove) → IsReadable story → i < length story → reference story i ≡ Some j → chosen story u (below story i) ≡ None → told_from story i (u ∷ rest) ≡ told_from story j (u ∷ rest)
same-moves story i j u rest r inside e none =
    let further : Option ℕ → Option ℕ = λ o. elim o [ None ↦ None | Some k ↦ walk story k rest ] in
    ap (λ (o : Option ℕ). elim (further o) [ None ↦ None | Some k ↦ words_at story k ]) (next-same story i j u r inside e none)
