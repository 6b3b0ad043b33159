-- Which unmoves games end with.
use Rattle.std.proofs.Common.{◌≡◌, ℕ, zero, suc, ◌+◌, ◌<◌, ◌≤◌, ◌⊎◌, Bool, true, false, cond, List, [], ◌∷◌, ◌++◌, length, take, refl, ap, sym, subst, inl, inr, arith}
use Rattle.std.proofs.lemmas.Bool.{cases_lt}
use Rattle.std.proofs.lemmas.List.Elements.{All-cons, All-contains, All-head, All-nil, All-same, All-tail, All-weaker}
use Rattle.std.specs.Prelude.{◌↔◌, Some, slice_get}
use Rattle.std.proofs.lemmas.Option.{same_Some}
use Rattle.std.specs.List.{All, Contains}
use Rattle.general_lemmas.proofs.Lists.{contains-first, contains-later}
use Rattle.general_lemmas.proofs.Splits.{up_to}
use Rattle.board_base.specs.declared.moves.Move.{Move}
use Rattle.board_base.specs.declared.unmoves.Unmove.{Unmove}
use Rattle.query_base.specs.Asked.{Asked}
use Rattle.query_base.proofs.Settled.{array_settled}
use Rattle.claim_findings.specs.Findings.{is_refuted}
use Rattle.claim_findings.specs.Games.{IsEndIn}
use Rattle.diagram_study.specs.Possible.{AreEnds, HasFewLeft, IsEnd}
use Rattle.diagram_study.specs.Retractions.{AreLeft, EndsAmong}
use Rattle.claim_findings.proofs.Steps.{at_place}

-- one unmove more with which one of the games ends
pub ends_more : (games : List (List Move)) (q : Asked) (us ends : List Unmove) (u : Unmove) → AreEnds games q us ends → IsEndIn games q u → AreEnds games q (us ++ u ∷ []) (ends ++ u ∷ [])
ends_more games q [] ends u are end = ([], refl, inr (end, ap (λ (l : List Unmove). l ++ u ∷ []) are))
ends_more games q (v ∷ us) ends u are end = (
  are.0 ++ u ∷ [],
  ends_more games q us are.0 u are.1 end,
  elim are.2 [
    | inl same ↦ inl (same.0, ap (λ (l : List Unmove). l ++ u ∷ []) same.1)
    | inr there ↦ inr (there.0, ap (λ (l : List Unmove). l ++ u ∷ []) there.1)
  ],
)

-- and one with which none does
pub ends_past : (games : List (List Move)) (q : Asked) (us ends : List Unmove) (u : Unmove) → AreEnds games q us ends → (IsEndIn games q u → ⊥) → AreEnds games q (us ++ u ∷ []) ends
ends_past games q [] ends u are none = ([], refl, inl (none, are))
ends_past games q (v ∷ us) ends u are none = (are.0, ends_past games q us are.0 u are.1 none, are.2)

-- what holds of all unmoves holds of the ends
pub ends_keep : (P : Unmove → Type 0) (games : List (List Move)) (q : Asked) (us ends : List Unmove) → AreEnds games q us ends → All P us → All P ends
ends_keep P games q [] ends are all = All-same P ends [] are (All-nil P)
ends_keep P games q (v ∷ us) ends are all =
    let others : All P are.0 = ends_keep P games q us are.0 are.1 (All-tail P v us all) in
    elim are.2 [
      | inl same ↦ All-same P ends are.0 same.1 others
      | inr there ↦ All-same P ends (v ∷ are.0) there.1 (All-cons P v are.0 (All-head P v us all) others)
    ]

-- one of the games ends with each of them
pub all_end_in : (games : List (List Move)) (q : Asked) (us ends : List Unmove) → AreEnds games q us ends → All (IsEndIn games q) ends
all_end_in games q [] ends are = All-same (IsEndIn games q) ends [] are (All-nil (IsEndIn games q))
all_end_in games q (v ∷ us) ends are =
    let others : All (IsEndIn games q) are.0 = all_end_in games q us are.0 are.1 in
    elim are.2 [
      | inl same ↦ All-same (IsEndIn games q) ends are.0 same.1 others
      | inr there ↦ All-same (IsEndIn games q) ends (v ∷ are.0) there.1 (All-cons (IsEndIn games q) v are.0 there.0 others)
    ]

pub end_of : (games : List (List Move)) (q : Asked) (u : Unmove) → IsEndIn games q u → IsEnd q u
end_of games q u end = (end.0, end.2, end.3)

pub all_end : (games : List (List Move)) (q : Asked) (us ends : List Unmove) → AreEnds games q us ends → All (IsEnd q) ends
all_end games q us ends are = All-weaker (IsEndIn games q) (IsEnd q) (end_of games q) ends (all_end_in games q us ends are)

pub ends_few : (games : List (List Move)) (q : Asked) (us ends : List Unmove) → AreEnds games q us ends → length ends ≤ length us
ends_few games q [] ends are = omega (arith, ap length are)
ends_few games q (v ∷ us) ends are =
    let others : length are.0 ≤ length us = ends_few games q us are.0 are.1 in
    elim are.2 [
      | inl same ↦ omega (arith, ap length same.1, others)
      | inr there ↦ omega (arith, ap length there.1, others)
    ]

-- where there are as many, some game ends with each unmove
all_of_them : (games : List (List Move)) (q : Asked) (us ends : List Unmove) → AreEnds games q us ends → length ends ≡ length us → All (IsEnd q) us
all_of_them games q [] ends are same = All-nil (IsEnd q)
all_of_them games q (v ∷ us) ends are same =
    let few : length are.0 ≤ length us = ends_few games q us are.0 are.1 in
    elim are.2 [
      | inl less ↦ absurd (omega (arith, ap length less.1, few, same))
      | inr there ↦ All-cons (IsEnd q) v us (end_of games q v there.0) (all_of_them games q us are.0 are.1 (omega (arith, ap length there.1, same)))
    ]

-- and no game ends otherwise
pub whole_truth : (games : List (List Move)) (q : Asked) (left ends : List Unmove) → AreEnds games q left ends → EndsAmong q left → length ends ≡ length left → (u : Unmove) → Contains left u ↔ IsEnd q u
whole_truth games q left ends are among same u =
    (λ there. All-contains (IsEnd q) left u (all_of_them games q left ends are same) there, λ end. subst (Contains left) end.2 (among end.0 u.mv end.1))

kept : (b : Bool) (v : Unmove) (us others : List Unmove) → All (Contains us) others → All (Contains (v ∷ us)) (cond b others (v ∷ others))
kept true v us others all = All-weaker (Contains us) (Contains (v ∷ us)) (λ u there. contains-later v us u there) others all
kept false v us others all =
    All-cons (Contains (v ∷ us)) v others (contains-first v us) (All-weaker (Contains us) (Contains (v ∷ us)) (λ u there. contains-later v us u there) others all)

-- what is left is listed
pub left_listed : (q : Asked) (depth nodes : ℕ) (us left : List Unmove) → AreLeft q depth nodes us left → All (Contains us) left
left_listed q depth nodes [] left are = All-same (Contains []) left [] are (All-nil (Contains []))
left_listed q depth nodes (v ∷ us) left are =
    All-same (Contains (v ∷ us)) left _ are.4 (kept (is_refuted are.0) v us are.1 (left_listed q depth nodes us are.1 are.3))

-- few are left, or not
pub few_or_not : (q : Asked) (left : List Unmove) → HasFewLeft q left ⊎ (HasFewLeft q left → ⊥)
few_or_not q left = elim (cases_lt 0 (length left)) [
  | inr none ↦ inr (λ h. absurd (let some = h.some in omega (arith, none, some)))
  | inl some ↦ elim (cases_lt 8 (length left)) [
    | inl many ↦ inr (λ h. absurd (let few = h.few in omega (arith, many, few)))
    | inr few ↦ elim (array_settled q) [
      | inl here ↦ inr (λ h. h.elsewhere here)
      | inr elsewhere ↦ inl (record { some = omega (arith, some); few = omega (arith, few); elsewhere = elsewhere })
    ]
  ]
]

-- what holds of all holds of the one at a place
pub holds_at : (P : Unmove → Type 0) (us : List Unmove) (i : ℕ) (u : Unmove) → All P us → slice_get us i ≡ Some u → P u
holds_at P [] i u all there = absurd cc
holds_at P (v ∷ us) zero u all there = subst P (same_Some _ _ there) (All-head P v us all)
holds_at P (v ∷ us) (suc i) u all there = holds_at P us i u (All-tail P v us all) there

-- the unmove at a place is an end
pub ends_found : (games : List (List Move)) (q : Asked) (left ends longer : List Unmove) (i : ℕ) (u : Unmove) → i < length left → slice_get left i ≡ Some u → AreEnds games q (take i left) ends → IsEndIn games q u → longer ≡ ends ++ u ∷ [] → AreEnds games q (take (i + 1) left) longer
ends_found games q left ends longer i u inside there are end grown =
    subst (λ (us : List Unmove). AreEnds games q us longer) (sym (up_to left i u inside (at_place left i u there)))
    (subst (AreEnds games q (take i left ++ u ∷ [])) (sym grown) (ends_more games q (take i left) ends u are end))

-- or it is passed over
pub ends_passed : (games : List (List Move)) (q : Asked) (left ends : List Unmove) (i : ℕ) (u : Unmove) → i < length left → slice_get left i ≡ Some u → AreEnds games q (take i left) ends → (IsEndIn games q u → ⊥) → AreEnds games q (take (i + 1) left) ends
ends_passed games q left ends i u inside there are none =
    subst (λ (us : List Unmove). AreEnds games q us ends) (sym (up_to left i u inside (at_place left i u there))) (ends_past games q (take i left) ends u are none)
