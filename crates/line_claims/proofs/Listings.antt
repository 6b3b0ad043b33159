-- Steps that are listed, one after another.
use Rattle.std.proofs.Common.{◌≡◌, ℕ, ◌+◌, ◌<◌, ◌≤◌, List, [], ◌∷◌, ◌++◌, length, take, drop, get_or, inl, inr, refl, sym, ap, ◌∙◌, subst, subst₂, arith, append_assoc, take-append-drop}
use Rattle.std.proofs.lemmas.List.{drop_more, length-take-le}
use Rattle.std.proofs.lemmas.List.Sums.{fold_push}
use Rattle.std.specs.List.{Contains}
use Rattle.board_base.specs.declared.unmoves.Unmove.{Unmove}
use Rattle.general_lemmas.proofs.Lists.{by_last}
use Rattle.general_lemmas.proofs.Splits.{up_to}
use Rattle.query_base.specs.Asked.{Asked}
use Rattle.unmove_gen.specs.Listed.{unmoves}
use Rattle.unmove_gen.specs.Predecessor.{predecessor, left_by}
use Rattle.line_claims.specs.Listing.{AreListed, IsFirstUnlisted}
use Rattle.line_claims.proofs.LastItems.{same_end, same_front}

pub left-none : (q : Asked) → q ≡ left_by q []
left-none q = refl

pub left-push : (q : Asked) (us : List Unmove) (u : Unmove) → left_by q (us ++ u ∷ []) ≡ predecessor (left_by q us) u
left-push q us u = fold_push predecessor q us u

pub listed-none : (q : Asked) → AreListed q []
listed-none q = λ before after u e. elim (by_last after) [
  | inl none ↦ absurd (omega (arith, ap length e, ends before u after))
  | inr last ↦ absurd (omega (arith, ap length e, ends before u after))
]
  where
    ends : (before : List Unmove) (u : Unmove) (after : List Unmove) → 1 ≤ length (before ++ u ∷ after)
    ends [] u after = omega arith
    ends (x ∷ before) u after = omega arith

listed-push : (q : Asked) (us : List Unmove) (u : Unmove) → AreListed q us → Contains (unmoves (left_by q us)) u → AreListed q (us ++ u ∷ [])
listed-push q us u all here = λ before after v e. elim (by_last after) [
  | inl none ↦
      let whole : us ++ u ∷ [] ≡ before ++ v ∷ [] = e ∙ ap (λ (l : List Unmove). before ++ v ∷ l) none in
      subst₂ (λ (l : List Unmove) (w : Unmove). Contains (unmoves (left_by q l)) w) (same_front us before u v whole) (same_end us before u v whole) here
  | inr last ↦
      let whole : us ++ u ∷ [] ≡ (before ++ v ∷ last.0) ++ last.1 ∷ [] = e ∙ ap (λ (l : List Unmove). before ++ v ∷ l) last.2 ∙ sym (append_assoc before (v ∷ last.0) (last.1 ∷ [])) in
      all before last.0 v (same_front us (before ++ v ∷ last.0) u last.1 whole)
]

pub left-more : (q p r : Asked) (us : List Unmove) (i : ℕ) (u : Unmove) → i < length us → u ≡ get_or us i u → p ≡ left_by q (take i us) → r ≡ predecessor p u → r ≡ left_by q (take (i + 1) us)
left-more q p r us i u inside is before gone =
    gone ∙ ap (λ (a : Asked). predecessor a u) before ∙ sym (left-push q (take i us) u) ∙ ap (left_by q) (sym (up_to us i u inside is))

pub listed-more : (q p : Asked) (us : List Unmove) (i : ℕ) (u : Unmove) → i < length us → u ≡ get_or us i u → p ≡ left_by q (take i us) → Contains (unmoves p) u → AreListed q (take i us) → AreListed q (take (i + 1) us)
listed-more q p us i u inside is before here all =
    subst (AreListed q) (sym (up_to us i u inside is)) (listed-push q (take i us) u all (subst (λ (a : Asked). Contains (unmoves a) u) before here))

pub first-unlisted : (q p : Asked) (us : List Unmove) (i : ℕ) (u : Unmove) (number : ℕ) → i < length us → u ≡ get_or us i u → p ≡ left_by q (take i us) → number ≡ i + 1 → (Contains (unmoves p) u → ⊥) → AreListed q (take i us) → IsFirstUnlisted q us number
first-unlisted q p us i u number inside is before place missing all = record {
  before = take i us;
  after = drop (i + 1) us;
  step = u;
  whole = sym (take-append-drop i us) ∙ ap (λ (l : List Unmove). take i us ++ l) (drop_more us i u inside) ∙ ap (λ (w : Unmove). take i us ++ w ∷ drop (i + 1) us) (sym is);
  place = let long : length (take i us) ≡ i = length-take-le i us (omega arith) in omega arith;
  listed = all;
  unlisted = λ here. missing (subst (λ (a : Asked). Contains (unmoves a) u) (sym before) here);
}

-- the first of the steps, and those after it
pub listed-first : (q : Asked) (us rest : List Unmove) (u : Unmove) → AreListed q us → us ≡ u ∷ rest → Contains (unmoves q) u
listed-first q us rest u all e = all [] rest u e

pub listed-rest : (q p : Asked) (us rest : List Unmove) (u : Unmove) → AreListed q us → us ≡ u ∷ rest → p ≡ predecessor q u → AreListed p rest
listed-rest q p us rest u all e gone = subst (λ (a : Asked). AreListed a rest) (sym gone) (λ before after v there. all (u ∷ before) after v (e ∙ ap (λ (l : List Unmove). u ∷ l) there))
