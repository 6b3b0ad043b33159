-- References that are followed, and retractions that lead to a paragraph.
use Rattle.std.proofs.Common.{◌≡◌, ℕ, zero, suc, ◌+◌, ◌-◌, ◌<◌, ◌≤◌, Bool, false, ◌||◌, List, [], ◌∷◌, length, take, drop, get_or, refl, sym, ap, ◌∙◌, arith}
use Rattle.std.specs.Prelude.{Option, Some, None, slice_get}
use Rattle.std.specs.List.{list_any}
use Rattle.std.proofs.Math.Seq.{drop-cons}
use Rattle.std.proofs.lemmas.List.Folds.{list_any_more}
use Rattle.std.proofs.lemmas.List.{drop_all}
use Rattle.std.proofs.lemmas.Option.{get_or_from_slice_get, slice_get_past, slice_get_within}
use Rattle.board_base.specs.declared.unmoves.Unmove.{Unmove}
use Rattle.proof_story.specs.Story.{below, chosen, next, next_within, or_else, own_words, reference, walk, words_within}
use Rattle.proof_story.specs.declared.stories.Paragraph.{Paragraph}

-- one element more doesn't pass either
pub any-more : {X : Type 0} (p : X → Bool) (xs : List X) (i : ℕ) (d : X) → i < length xs → list_any p (take i xs) ≡ false → p (get_or xs i d) ≡ false → list_any p (take (i + 1) xs) ≡ false
any-more {X} p xs i d lt before miss = list_any_more p xs i d lt ∙ ap (λ (b : Bool). b || p (get_or xs i d)) before ∙ miss

-- fuel for one reference more
one_more : (n k : ℕ) → k < n → n - k ≡ suc (n - (k + 1))
one_more n k lt = omega arith

-- what is chosen below a paragraph is what comes next
pub next-chosen : (story : List Paragraph) (k at : ℕ) (u : Unmove) (o : Option ℕ) (found : ℕ) → k < length story → chosen story u (below story at) ≡ Some found → next_within (length story - k) story at u ≡ o → Some found ≡ o
next-chosen story k at u o found lt e so_far =
    sym (ap (λ (n : ℕ). next_within n story at u) (one_more (length story) k lt) ∙ ap (λ (c : Option ℕ). or_else c (elim (reference story at) [ None ↦ None | Some j ↦ next_within (length story - (k + 1)) story j u ])) e) ∙ so_far

-- where nothing is, the reference is followed
pub next-referred : (story : List Paragraph) (k at j : ℕ) (u : Unmove) (o : Option ℕ) → k < length story → chosen story u (below story at) ≡ None → reference story at ≡ Some j → next_within (length story - k) story at u ≡ o → next_within (length story - (k + 1)) story j u ≡ o
next-referred story k at j u o lt e r so_far =
    let rest : Option ℕ → Option ℕ = λ c. elim c [ None ↦ None | Some i ↦ next_within (length story - (k + 1)) story i u ] in
    sym (ap (λ (n : ℕ). next_within n story at u) (one_more (length story) k lt) ∙ ap (λ (c : Option ℕ). or_else c (rest (reference story at))) e ∙ ap rest r) ∙ so_far

-- where there is none, nothing comes next
pub next-nowhere : (story : List Paragraph) (k at : ℕ) (u : Unmove) (o : Option ℕ) → k < length story → chosen story u (below story at) ≡ None → reference story at ≡ None → next_within (length story - k) story at u ≡ o → None ≡ o
next-nowhere story k at u o lt e r so_far =
    let rest : Option ℕ → Option ℕ = λ c. elim c [ None ↦ None | Some i ↦ next_within (length story - (k + 1)) story i u ] in
    sym (ap (λ (n : ℕ). next_within n story at u) (one_more (length story) k lt) ∙ ap (λ (c : Option ℕ). or_else c (rest (reference story at))) e ∙ ap rest r) ∙ so_far

-- so many references were followed
pub next-spent : (story : List Paragraph) (k at : ℕ) (u : Unmove) (o : Option ℕ) → length story ≤ k → next_within (length story - k) story at u ≡ o → None ≡ o
next-spent story k at u o past so_far =
    let none : 0 ≡ length story - k = omega arith in
    ap (λ (n : ℕ). next_within n story at u) none ∙ so_far

-- what is said in words
pub words-here : (story : List Paragraph) (k at : ℕ) (o : Option (List ℕ)) → k < length story → reference story at ≡ None → words_within (length story - k) story at ≡ o → own_words story at ≡ o
words-here story k at o lt r so_far =
    let after : Option ℕ → Option (List ℕ) = λ c. elim c [ None ↦ own_words story at | Some j ↦ words_within (length story - (k + 1)) story j ] in
    sym (ap (λ (n : ℕ). words_within n story at) (one_more (length story) k lt) ∙ ap after r) ∙ so_far

-- a reference is followed
pub words-referred : (story : List Paragraph) (k at j : ℕ) (o : Option (List ℕ)) → k < length story → reference story at ≡ Some j → words_within (length story - k) story at ≡ o → words_within (length story - (k + 1)) story j ≡ o
words-referred story k at j o lt r so_far =
    let after : Option ℕ → Option (List ℕ) = λ c. elim c [ None ↦ own_words story at | Some i ↦ words_within (length story - (k + 1)) story i ] in
    sym (ap (λ (n : ℕ). words_within n story at) (one_more (length story) k lt) ∙ ap after r) ∙ so_far

-- the retraction at a place of a path is the first of those from there on
path-from : (path : List Unmove) (k : ℕ) (u : Unmove) → slice_get path k ≡ Some u → drop k path ≡ u ∷ drop (k + 1) path
path-from path k u e =
    let lt : k < length path = slice_get_within path k u e in
    let one : suc k ≡ k + 1 = omega arith in
    drop-cons path k u lt ∙ ap (λ (v : Unmove). v ∷ drop (suc k) path) (get_or_from_slice_get path k u u e) ∙ ap (λ (n : ℕ). u ∷ drop n path) one

-- a retraction more
pub walk-on : (story : List Paragraph) (path : List Unmove) (k at j : ℕ) (u : Unmove) (o : Option ℕ) → slice_get path k ≡ Some u → next story at u ≡ Some j → walk story at (drop k path) ≡ o → walk story j (drop (k + 1) path) ≡ o
walk-on story path k at j u o e n so_far =
    let after : Option ℕ → Option ℕ = λ c. elim c [ None ↦ None | Some i ↦ walk story i (drop (k + 1) path) ] in
    sym (ap (λ (l : List Unmove). walk story at l) (path-from path k u e) ∙ ap after n) ∙ so_far

-- no paragraph tells where it leads
pub walk-stops : (story : List Paragraph) (path : List Unmove) (k at : ℕ) (u : Unmove) (o : Option ℕ) → slice_get path k ≡ Some u → next story at u ≡ None → walk story at (drop k path) ≡ o → None ≡ o
walk-stops story path k at u o e n so_far =
    let after : Option ℕ → Option ℕ = λ c. elim c [ None ↦ None | Some i ↦ walk story i (drop (k + 1) path) ] in
    sym (ap (λ (l : List Unmove). walk story at l) (path-from path k u e) ∙ ap after n) ∙ so_far

-- the whole path was gone
pub walk-ended : (story : List Paragraph) (path : List Unmove) (k at : ℕ) (o : Option ℕ) → length path ≤ k → walk story at (drop k path) ≡ o → Some at ≡ o
walk-ended story path k at o past so_far = sym (ap (λ (l : List Unmove). walk story at l) (drop_all k path past)) ∙ so_far
