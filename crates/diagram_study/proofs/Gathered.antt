-- What is found of the claims about a position by all the games.
use Rattle.std.proofs.Common.{◌≡◌, ℕ, Bool, cond, List, [], ◌∷◌, map, refl, ap, sym, subst, ◌∙◌}
use Rattle.std.specs.Prelude.{fold}
use Rattle.std.specs.List.{All, filter}
use Rattle.std.proofs.lemmas.List.Elements.{All-weaker}
use Rattle.board_base.specs.Rights.{Rights, no_rights, with_castling}
use Rattle.board_base.specs.declared.moves.Move.{Move}
use Rattle.query_base.specs.Asked.{Asked}
use Rattle.query_base.specs.declared.claims.Claim.TheVariants.{Illegal}
use Rattle.codex_verdict.specs.declared.kinds.Right.{Right}
use Rattle.codex_verdict.specs.declared.kinds.Right.TheVariants.{Castling, EnPassant}
use Rattle.diagram_study.specs.Decisions.{IsPairAgreed, IsRightAgreed}
use Rattle.claim_findings.specs.Decisions.{IsAgreed}
use Rattle.claim_findings.specs.Findings.{is_proved}
use Rattle.diagram_study.specs.Gathering.{AreGathered, AreSought}
use Rattle.diagram_study.specs.Pairs.{HasStuckPairText, IsPairFound, are_both_in, castle_pairs, pair_of}
use Rattle.diagram_study.specs.Rights.{AreDue, HasStuckText, IsRightFound, open_castlings, with_right}
use Rattle.claim_findings.specs.declared.findings.Finding.{Finding}
use Rattle.diagram_study.specs.declared.gathering.Gathered.{Gathered}
use Rattle.diagram_study.specs.declared.rights.RightFound.{RightFound}
use Rattle.diagram_study.proofs.Castlings.{pair_agreed}
use Rattle.claim_findings.proofs.Together.{PartsMakeLines}

-- which castlings are kept hangs on what is proved alone
same_step : (right : Right) (a b : Finding) (set : Rights) → is_proved a ≡ is_proved b → with_right right a set ≡ with_right right b set
same_step (Castling x) a b set same = ap (λ (p : Bool). cond p set (with_castling set x)) same
same_step (EnPassant m) a b set same = refl

same_fold : (fs gs : List RightFound) (set : Rights) → map (λ f. f.right) fs ≡ map (λ f. f.right) gs → map (λ f. is_proved f.finding) fs ≡ map (λ f. is_proved f.finding) gs → fold (λ s f. with_right f.right f.finding s) set fs ≡ fold (λ s f. with_right f.right f.finding s) set gs
same_fold [] [] set rights proved = refl
same_fold [] (g ∷ gs) set rights proved = cc
same_fold (f ∷ fs) [] set rights proved = cc
same_fold (f ∷ fs) (g ∷ gs) set rights proved =
    let right : f.right ≡ g.right = cc in
    let is : is_proved f.finding ≡ is_proved g.finding = cc in
    let others : map (λ h. h.right) fs ≡ map (λ h. h.right) gs = cc in
    let rest : map (λ h. is_proved h.finding) fs ≡ map (λ h. is_proved h.finding) gs = cc in
    let step : with_right f.right f.finding set ≡ with_right g.right g.finding set = same_step f.right f.finding g.finding set is ∙ ap (λ (r : Right). with_right r g.finding set) right in
    same_fold fs gs (with_right f.right f.finding set) others rest ∙ ap (λ (s : Rights). fold (λ t h. with_right h.right h.finding t) s gs) step

same_kept : (fs gs : List RightFound) → map (λ f. f.right) fs ≡ map (λ f. f.right) gs → map (λ f. is_proved f.finding) fs ≡ map (λ f. is_proved f.finding) gs → open_castlings fs ≡ open_castlings gs
unfolding open_castlings
same_kept fs gs rights proved = same_fold fs gs no_rights rights proved

right_agreed : (q : Asked) (most nodes : ℕ) (games : List (List Move)) (f : RightFound) → IsRightAgreed q most nodes games f → IsRightFound q most nodes games f
right_agreed q most nodes games f is = record { found = is.agreed.decided.found; agrees = is.agreed.agrees; stuck = is.agreed.decided.stuck }

pub all_gathered : PartsMakeLines → (q : Asked) (most nodes : ℕ) (games : List (List Move)) (s g : Gathered) → AreSought q most nodes games s → IsAgreed q Illegal most nodes games g.illegal → is_proved g.illegal.finding ≡ is_proved s.illegal.finding → map (λ f. f.right) g.rights.items ≡ map (λ f. f.right) s.rights.items → map (λ f. is_proved f.finding) g.rights.items ≡ map (λ f. is_proved f.finding) s.rights.items
    → All (IsRightAgreed q most nodes games) g.rights.items → map pair_of g.pairs.items ≡ map pair_of s.pairs.items → All (IsPairAgreed q most nodes games) g.pairs.items → AreGathered q most nodes games g
all_gathered law q most nodes games s g sought illegal same rights proved each pairs both = record {
  illegal = illegal;
  unproved = same ∙ sought.unproved;
  rights = record {
    due = subst (AreDue q) (sym rights) sought.due;
    each = All-weaker (IsRightAgreed q most nodes games) (IsRightFound q most nodes games) (right_agreed q most nodes games) g.rights.items each;
  };
  texts = All-weaker (IsRightAgreed q most nodes games) HasStuckText (λ f is. is.agreed.decided.texts) g.rights.items each;
  pairs = record {
    pairs = pairs ∙ sought.are_pairs ∙ ap (λ (k : Rights). filter (are_both_in k) castle_pairs) (sym (same_kept g.rights.items s.rights.items rights proved));
    each = All-weaker (IsPairAgreed q most nodes games) (IsPairFound q most nodes games) (pair_agreed law q most nodes games) g.pairs.items both;
  };
  pair_texts = All-weaker (IsPairAgreed q most nodes games) HasStuckPairText (λ f is. is.agreed.decided.texts) g.pairs.items both;
}
