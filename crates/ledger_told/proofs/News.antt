-- Lines that aren't known already.
use Rattle.std.proofs.Common.{◌≡◌, ℕ, ◌+◌, ◌<◌, ◌≤◌, List, [], ◌∷◌, ◌++◌, length, get_or, take, refl, sym, ap, subst, ◌∙◌, inl, inr, append-nil}
use Rattle.std.specs.Prelude.{◌⊎◌}
use Rattle.std.specs.List.{All, Contains}
use Rattle.std.proofs.lemmas.List.{take_all}
use Rattle.std.proofs.lemmas.List.Elements.{All-cons, All-head, All-nil, All-same, All-tail, Contains-get_or, Contains-push_cases}
use Rattle.general_lemmas.proofs.Splits.{up_to}
use Rattle.ledger_lines.specs.declared.lines.Line.{Line}
use Rattle.ledger_told.specs.Held.{AreNews}

-- a line that isn't among the first, nor is the next one
pub among-more : (xs : List Line) (i : ℕ) (x y : Line) → i < length xs → y ≡ get_or xs i y → (y ≡ x → ⊥) → (Contains (take i xs) x → ⊥) → Contains (take (i + 1) xs) x → ⊥
among-more xs i x y inside there other none among =
    elim (Contains-push_cases (take i xs) y x (subst (λ (l : List Line). Contains l x) (up_to xs i y inside there) among)) [
      | inl before ↦ none before
      | inr same ↦ other same
    ]

-- nor among all
pub among-none : (xs : List Line) (i : ℕ) (x : Line) → length xs ≤ i → (Contains (take i xs) x → ⊥) → Contains xs x → ⊥
among-none xs i x past none among = none (subst (λ (l : List Line). Contains l x) (sym (take_all i xs past)) among)

-- it is the one at this place
pub among-here : (xs : List Line) (i : ℕ) (x y : Line) → i < length xs → y ≡ get_or xs i y → y ≡ x → Contains xs x
among-here xs i x y inside there same = subst (Contains xs) (sym there ∙ same) (Contains-get_or xs i y inside)

-- the line is known and nothing is added, or it isn't and is
abbrev pub IsAdded : List Line → Line → List Line → List Line → Type 0
IsAdded known x old new = (Contains known x × (new ≡ old)) ⊎ ((Contains known x → ⊥) × (new ≡ old ++ x ∷ []))

-- the first of the lines stays what it was when more are told behind
behind-first : (known : List Line) (y : Line) (news others more new tail : List Line) → (Contains known y × (news ≡ others)) ⊎ ((Contains known y → ⊥) × (news ≡ y ∷ others)) → more ≡ others ++ tail → new ≡ news ++ tail → (Contains known y × (new ≡ more)) ⊎ ((Contains known y → ⊥) × (new ≡ y ∷ more))
behind-first known y news others more new tail step grown longer = elim step [
  | inl old ↦ inl (old.0, longer ∙ ap (λ (l : List Line). l ++ tail) old.1 ∙ sym grown)
  | inr fresh ↦ inr (fresh.0, longer ∙ ap (λ (l : List Line). l ++ tail) fresh.1 ∙ ap (λ (l : List Line). y ∷ l) (sym grown))
]

-- the news among lines with one more behind them
news-last : (known xs : List Line) (x : Line) (news new : List Line) → AreNews known xs news → IsAdded known x news new → AreNews known (xs ++ x ∷ []) new
news-last known [] x news new none added = elim added [
  | inl old ↦ ([], refl, inl (old.0, old.1 ∙ none))
  | inr fresh ↦ ([], refl, inr (fresh.0, fresh.1 ∙ ap (λ (l : List Line). l ++ x ∷ []) none))
]
news-last known (y ∷ ys) x news new (others, are, step) added = elim added [
  | inl old ↦ (others, news-last known ys x others others are (inl (old.0, refl)), behind-first known y news others others new [] step (sym (append-nil others)) (old.1 ∙ sym (append-nil news)))
  | inr fresh ↦ (others ++ x ∷ [], news-last known ys x others (others ++ x ∷ []) are (inr (fresh.0, refl)), behind-first known y news others (others ++ x ∷ []) new (x ∷ []) step refl fresh.1)
]

-- one line more is looked at
pub news-more : (known lines : List Line) (i : ℕ) (x : Line) (news new : List Line) → i < length lines → x ≡ get_or lines i x → AreNews known (take i lines) news → IsAdded known x news new → AreNews known (take (i + 1) lines) new
news-more known lines i x news new inside there are added =
    subst (λ (l : List Line). AreNews known l new) (sym (up_to lines i x inside there)) (news-last known (take i lines) x news new are added)

-- all are
pub news-all : (known lines : List Line) (i : ℕ) (news : List Line) → length lines ≤ i → AreNews known (take i lines) news → AreNews known lines news
news-all known lines i news past are = subst (λ (l : List Line). AreNews known l news) (take_all i lines past) are

-- what holds of all lines holds of the news
pub news-all-are : (P : Line → Type 0) (known lines news : List Line) → AreNews known lines news → All P lines → All P news
news-all-are P known [] news none all = All-same P news [] none (All-nil P)
news-all-are P known (x ∷ xs) news (others, are, step) all =
    let rest : All P others = news-all-are P known xs others are (All-tail P x xs all) in
    elim step [
      | inl old ↦ All-same P news others old.1 rest
      | inr fresh ↦ All-same P news (x ∷ others) fresh.1 (All-cons P x others (All-head P x xs all) rest)
    ]
