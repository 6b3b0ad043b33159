-- What is found of parts together.
use Rattle.std.proofs.Common.{◌≡◌, ℕ, max, List, [], ◌∷◌, refl, ap, sym, subst, ◌∙◌, arith}
use Rattle.std.specs.Prelude.{IsTrue, None}
use Rattle.std.specs.List.{All}
use Rattle.std.proofs.lemmas.List.Elements.{All-cons, All-head, All-nil, All-tail}
use Rattle.query_base.specs.Asked.{Asked}
use Rattle.query_base.specs.Reach.{Holds}
use Rattle.query_base.specs.declared.claims.Claim.{Claim}
use Rattle.line_claims.specs.Due.{parts_due}
use Rattle.line_claims.specs.Holding.{HoldsLine}
use Rattle.line_claims.specs.declared.claims.LineClaim.{LineClaim}
use Rattle.claim_findings.specs.Findings.{IsFound, is_proved}
use Rattle.claim_findings.specs.Joined.{AreEachFound, IsLineFound, joined, together}
use Rattle.claim_findings.specs.declared.findings.Finding.{Finding}
use Rattle.claim_findings.specs.declared.findings.Finding.TheVariants.{Proved, Countered, Open, Spent}

-- what was found of a claim that is proved holds of every game
pub proved_holds : (q : Asked) (claim : Claim) (most nodes : ℕ) (finding : Finding) → IsFound q claim most nodes finding → IsTrue (is_proved finding) → Holds claim q
proved_holds q claim most nodes (Proved depth) found proved = found.proved.holds
proved_holds q claim most nodes Countered found proved = cc
proved_holds q claim most nodes Open found proved = cc
proved_holds q claim most nodes Spent found proved = cc

joined_first : (a b : Finding) → IsTrue (is_proved (joined a b)) → IsTrue (is_proved a)
joined_first (Proved depth) b proved = refl
joined_first Countered b proved = proved
joined_first Open b proved = proved
joined_first Spent b proved = proved

joined_other : (a b : Finding) → IsTrue (is_proved (joined a b)) → IsTrue (is_proved b)
joined_other (Proved depth) (Proved other) proved = refl
joined_other (Proved depth) Countered proved = proved
joined_other (Proved depth) Open proved = proved
joined_other (Proved depth) Spent proved = proved
joined_other Countered b proved = cc
joined_other Open b proved = cc
joined_other Spent b proved = cc

max_assoc : (a b c : ℕ) → max (max a b) c ≡ max a (max b c)
max_assoc a b c = omega arith

joined_assoc : (a b c : Finding) → joined (joined a b) c ≡ joined a (joined b c)
joined_assoc (Proved d) (Proved e) (Proved f) = ap Proved (max_assoc d e f)
joined_assoc (Proved d) (Proved e) Countered = refl
joined_assoc (Proved d) (Proved e) Open = refl
joined_assoc (Proved d) (Proved e) Spent = refl
joined_assoc (Proved d) Countered c = refl
joined_assoc (Proved d) Open c = refl
joined_assoc (Proved d) Spent c = refl
joined_assoc Countered b c = refl
joined_assoc Open b c = refl
joined_assoc Spent b c = refl

max_none : (d : ℕ) → max d 0 ≡ d
max_none d = omega arith

joined_none : (a : Finding) → joined a (Proved 0) ≡ a
joined_none (Proved depth) = ap Proved (max_none depth)
joined_none Countered = refl
joined_none Open = refl
joined_none Spent = refl

-- what is found of the parts still to come completes what was found of those before them
abbrev pub Completes : ℕ → ℕ → List (Claim × Asked) → List (Claim × Asked) → Finding → Type 0
Completes most nodes all still so_far =
    (findings : List Finding) → AreEachFound most nodes still findings → (own : List Finding) × AreEachFound most nodes all own × (joined so_far (together findings) ≡ together own)

pub complete_more : (most nodes : ℕ) (all old still : List (Claim × Asked)) (part : Claim × Asked) (so_far new finding : Finding) → Completes most nodes all old so_far → old ≡ part ∷ still → IsFound part.1 part.0 most nodes finding → new ≡ joined so_far finding → Completes most nodes all still new
complete_more most nodes all old still part so_far new finding before front found is = λ findings each.
    let whole = before (finding ∷ findings) (subst (λ (l : List (Claim × Asked)). AreEachFound most nodes l (finding ∷ findings)) (sym front) (found, each)) in
    (whole.0, whole.1, ap (λ (f : Finding). joined f (together findings)) is ∙ joined_assoc so_far finding (together findings) ∙ whole.2)

each_holds : (most nodes : ℕ) (parts : List (Claim × Asked)) (own : List Finding) → AreEachFound most nodes parts own → IsTrue (is_proved (together own)) → All (λ part. Holds part.0 part.1) parts
each_holds most nodes [] [] each proved = All-nil (λ (part : Claim × Asked). Holds part.0 part.1)
each_holds most nodes (part ∷ parts) (f ∷ own) each proved =
    All-cons (λ (p : Claim × Asked). Holds p.0 p.1) part parts (proved_holds part.1 part.0 most nodes f each.0 (joined_first f (together own) proved))
    (each_holds most nodes parts own each.1 (joined_other f (together own) proved))
each_holds most nodes [] (f ∷ own) each proved = absurd each
each_holds most nodes (part ∷ parts) [] each proved = absurd each

-- the next part, and those behind it, are about queries that bar no move
pub part_plain : (old still : List (Claim × Asked)) (part : Claim × Asked) → old ≡ part ∷ still → All (λ p. p.1.barred ≡ None) old → part.1.barred ≡ None
part_plain old still part front all = All-head (λ (p : Claim × Asked). p.1.barred ≡ None) part still (subst (All (λ (p : Claim × Asked). p.1.barred ≡ None)) front all)

pub rest_plain : (old still : List (Claim × Asked)) (part : Claim × Asked) → old ≡ part ∷ still → All (λ p. p.1.barred ≡ None) old → All (λ p. p.1.barred ≡ None) still
rest_plain old still part front all = All-tail (λ (p : Claim × Asked). p.1.barred ≡ None) part still (subst (All (λ (p : Claim × Asked). p.1.barred ≡ None)) front all)

-- a claim of several steps holds where each part due does
abbrev pub PartsMakeLines : Type 0
PartsMakeLines = (claim : LineClaim) (q : Asked) → All (λ part. Holds part.0 part.1) (parts_due claim q) → HoldsLine claim q

pub line_found : PartsMakeLines → (q : Asked) (claim : LineClaim) (most nodes : ℕ) (still : List (Claim × Asked)) (finding : Finding) → Completes most nodes (parts_due claim q) still finding → still ≡ [] → IsLineFound q claim most nodes finding
line_found law q claim most nodes still finding complete none =
    let whole = complete [] (subst (λ (l : List (Claim × Asked)). AreEachFound most nodes l []) (sym none) tt) in
    let is : finding ≡ together whole.0 = sym (joined_none finding) ∙ whole.2 in
    record {
      own = whole.0;
      each = whole.1;
      finding_is = is;
      holds = λ proved. law claim q (each_holds most nodes (parts_due claim q) whole.0 whole.1 (subst (λ (f : Finding). IsTrue (is_proved f)) is proved));
    }
