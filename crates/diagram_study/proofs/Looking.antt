-- The unmoves that were looked at so far, and the heights of the trees before them.
use Rattle.std.proofs.Common.{◌≡◌, ℕ, ◌≤◌, max, true, List, [], ◌∷◌, ◌++◌, map, refl, ap, sym, subst, ◌∙◌, inl, inr, arith, append_assoc}
use Rattle.std.specs.Prelude.{Option}
use Rattle.std.specs.List.{All, Contains}
use Rattle.std.proofs.lemmas.List.{map-append}
use Rattle.std.proofs.lemmas.List.Elements.{All-head, All-nil, All-push, All-same, All-tail, All-weaker, Contains-append_left, Contains-append_right}
use Rattle.general_lemmas.proofs.Lists.{contains-first}
use Rattle.board_base.specs.Legal.{is_move}
use Rattle.board_base.specs.declared.moves.Move.{Move}
use Rattle.board_base.specs.declared.unmoves.Unmove.{Unmove}
use Rattle.query_base.specs.Asked.{Asked}
use Rattle.query_base.specs.declared.claims.Claim.TheVariants.{Illegal}
use Rattle.unmove_gen.specs.Listed.{unmoves}
use Rattle.unmove_gen.specs.Predecessor.{predecessor}
use Rattle.claim_findings.specs.Outcome.{Outcome}
use Rattle.claim_findings.specs.Outcome.TheVariants.{Refuted}
use Rattle.claim_findings.specs.Findings.{IsOutcome}
use Rattle.diagram_study.specs.Looks.{AreHeights, AreLooked, IsHeight, IsKeptIn, IsLooked}
use Rattle.diagram_study.specs.declared.retractions.Looked.{Looked}

pub looked_none : (q : Asked) (depth nodes : ℕ) (still left : List Unmove) (looked : List Looked) → still ≡ unmoves q → looked ≡ [] → AreLooked q depth nodes still left looked
looked_none q depth nodes still left looked all none = record {
  split = ap (λ (ls : List Looked). map (λ l. l.unmove) ls ++ still) none ∙ all;
  found = All-same (IsLooked q depth nodes) looked [] none (All-nil (IsLooked q depth nodes));
  kept = All-same (IsKeptIn left) looked [] none (All-nil (IsKeptIn left));
}

-- one unmove more, which is left where it wasn't refuted
pub looked_more : (q : Asked) (depth nodes : ℕ) (old still left longer : List Unmove) (looked new : List Looked) (l : Looked) → AreLooked q depth nodes old left looked → old ≡ l.unmove ∷ still → IsOutcome (predecessor q l.unmove) Illegal depth nodes l.outcome → new ≡ looked ++ l ∷ [] → ((v : Unmove) → Contains left v → Contains longer v) → IsKeptIn longer l → AreLooked q depth nodes still longer new
looked_more q depth nodes old still left longer looked new l so_far front found grown wider kept = record {
  split =
      ap (λ (ls : List Looked). map (λ k. k.unmove) ls ++ still) grown
      ∙ ap (λ (us : List Unmove). us ++ still) (map-append (λ (k : Looked). k.unmove) looked (l ∷ []))
      ∙ append_assoc (map (λ k. k.unmove) looked) (l.unmove ∷ []) still
      ∙ ap (λ (us : List Unmove). map (λ k. k.unmove) looked ++ us) (sym front)
      ∙ so_far.split;
  found = All-same (IsLooked q depth nodes) new _ grown (All-push (IsLooked q depth nodes) looked l so_far.found found);
  kept = All-same (IsKeptIn longer) new _ grown (All-push (IsKeptIn longer) looked l (All-weaker (IsKeptIn left) (IsKeptIn longer) (λ k there e. wider k.unmove (there e)) looked so_far.kept) kept);
}

-- all of them
pub looked_all : (q : Asked) (depth nodes : ℕ) (still left : List Unmove) (looked : List Looked) → AreLooked q depth nodes still left looked → still ≡ [] → AreLooked q depth nodes [] left looked
looked_all q depth nodes still left looked are none = subst (λ (us : List Unmove). AreLooked q depth nodes us left looked) none are

-- what was left still is, and so is what came last
pub widened : (left longer : List Unmove) (u : Unmove) → longer ≡ left ++ u ∷ [] → (v : Unmove) → Contains left v → Contains longer v
widened left longer u grown v there = subst (λ (us : List Unmove). Contains us v) (sym grown) (Contains-append_left left (u ∷ []) v there)

pub kept_now : (left longer : List Unmove) (u : Unmove) → longer ≡ left ++ u ∷ [] → Contains longer u
kept_now left longer u grown = subst (λ (us : List Unmove). Contains us u) (sym grown) (Contains-append_right left (u ∷ []) u (contains-first u []))

-- the heights of more of them
pub heights_more : (but : Option Move) (ls more : List Looked) (l : Looked) (h own : ℕ) → AreHeights but ls h → IsHeight but l own → more ≡ ls ++ l ∷ [] → AreHeights but more (max h own)
heights_more but ls more l h own so_far here grown = subst (λ (k : List Looked). AreHeights but k (max h own)) (sym grown) (behind ls h so_far)
  where
    behind : (ls : List Looked) (h : ℕ) → AreHeights but ls h → AreHeights but (ls ++ l ∷ []) (max h own)
    behind [] h none = (own, 0, here, refl, omega (arith, none))
    behind (k ∷ ks) h (first, others, is, rest, e) = (first, max others own, is, behind ks others rest, omega (arith, e))

-- none of them is greater than the depth of the searches
pub heights_low : (q : Asked) (depth nodes : ℕ) (but : Option Move) (ls : List Looked) (h : ℕ) → AreHeights but ls h → All (IsLooked q depth nodes) ls → h ≤ depth
heights_low q depth nodes but [] h none found = omega (arith, none)
heights_low q depth nodes but (l ∷ ls) h (own, others, is, rest, e) found =
    let low = heights_low q depth nodes but ls others rest (All-tail (IsLooked q depth nodes) l ls found) in
    let here = own_low l own is (All-head (IsLooked q depth nodes) l ls found) in
    omega (arith, e, low, here)
  where
    own_low : (l : Looked) (own : ℕ) → IsHeight but l own → IsLooked q depth nodes l → own ≤ depth
    own_low l own (inl away) found = omega (arith, away.1)
    own_low l own (inr refuted) found =
        let proved : IsOutcome (predecessor q l.unmove) Illegal depth nodes (Refuted own) = subst (λ (o : Outcome). IsOutcome (predecessor q l.unmove) Illegal depth nodes o) refuted.1 found in
        proved.proof.low

pub heights_past : (but : Option Move) (ls more : List Looked) (l : Looked) (h : ℕ) → AreHeights but ls h → is_move but l.unmove.mv ≡ true → more ≡ ls ++ l ∷ [] → AreHeights but more h
heights_past but ls more l h so_far same grown =
    let none : max h 0 ≡ h = omega arith in
    subst (AreHeights but more) none (heights_more but ls more l h 0 so_far (inl (same, refl)) grown)
