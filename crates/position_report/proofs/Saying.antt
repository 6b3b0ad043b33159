-- What is said of a position is so.
use Rattle.std.proofs.Common.{◌≡◌, ℕ, Bool, true, false, cond, List, [], ◌∷◌, ◌++◌, length, refl, sym, subst, inl, inr}
use Rattle.std.specs.Prelude.{IfSome, IsTrue, Option, Some, None}
use Rattle.std.specs.List.{All, flat_map}
use Rattle.std.proofs.lemmas.Bool.{cases_lt}
use Rattle.std.proofs.lemmas.List.Elements.{All-append, All-cons, All-head, All-nil, All-same, All-tail}
use Rattle.board_base.specs.declared.castles.Castle.{Castle}
use Rattle.board_base.specs.declared.moves.Move.{Move}
use Rattle.board_base.specs.declared.unmoves.Unmove.{Unmove}
use Rattle.query_base.specs.Asked.{Asked}
use Rattle.query_base.specs.Reach.{Holds}
use Rattle.query_base.specs.declared.claims.Claim.{Claim}
use Rattle.query_base.specs.declared.claims.Claim.TheVariants.{Illegal, Last, Lost, Ep}
use Rattle.line_claims.specs.Holding.{HoldsLine}
use Rattle.line_claims.specs.declared.claims.LineClaim.{LineClaim}
use Rattle.line_claims.specs.declared.claims.LineClaim.TheVariants as line
use Rattle.codex_verdict.specs.Rights.{claim_of}
use Rattle.diagram_study.specs.ClaimFindings.{IsFound, is_proved}
use Rattle.diagram_study.specs.Finding.{Finding}
use Rattle.diagram_study.specs.Finding.TheVariants as finding
use Rattle.diagram_study.specs.Findings.{AreFindings, HasLength, IsFoundOf, IsLength, finding_of, other_side}
use Rattle.diagram_study.specs.Studies.{without_demands}
use Rattle.diagram_study.specs.declared.findings.Findings.{Findings}
use Rattle.diagram_study.specs.declared.findings.Findings.TheVariants.{Impossible, Unproved}
use Rattle.diagram_study.specs.Forced.{AreStepsFound, IsStepsFound}
use Rattle.diagram_study.specs.Pairs.{IsPairFound}
use Rattle.diagram_study.specs.Possible.{AreEnds, HasEnds, HasFewLeft}
use Rattle.diagram_study.specs.Rights.{IsRightFound}
use Rattle.diagram_study.specs.declared.findings.Found.{Found}
use Rattle.diagram_study.specs.declared.forced.StepsFound.{StepsFound}
use Rattle.diagram_study.specs.declared.pairs.PairFound.{PairFound}
use Rattle.diagram_study.specs.declared.rights.RightFound.{RightFound}
use Rattle.verdict_prose.specs.LastMoves.{IsEnd, WereLast}
use Rattle.verdict_prose.specs.Verdicts.{IsSo}
use Rattle.verdict_prose.specs.declared.verdicts.Verdict.{Verdict}
use Rattle.verdict_prose.specs.declared.verdicts.Verdict.TheVariants.{AtLeast, Countered, GivenPassing, GivenShown, NotBoth, PlainCountered, PlainShown, Shown}
use Rattle.position_report.specs.LastMoves.{proved_steps, steps_in}
use Rattle.position_report.specs.Reports.{IsPlainFound, PlainIsFound}
use Rattle.position_report.specs.Sayings.{has_last, impossible_of, is_asked, other_of, pair_verdicts, plain_of, proved_of, right_verdicts, settled_of, shown_of}

-- a claim that is found proved holds
pub proved-holds : (q : Asked) (claim : Claim) (most nodes : ℕ) (f : Finding) → IsFound q claim most nodes f → IsTrue (is_proved f) → Holds claim q
proved-holds q claim most nodes (finding.Proved depth) found proved = found.proved.holds
proved-holds q claim most nodes finding.Countered found proved = absurd (cc)
proved-holds q claim most nodes finding.Open found proved = absurd (cc)
proved-holds q claim most nodes finding.Spent found proved = absurd (cc)

passing-so : (q : Asked) (m : Move) (given : Bool) → given ≡ has_last q → Holds (Ep m) q → IsSo q (cond given (GivenPassing m) (Shown (Ep m)))
passing-so q m true is holds = (holds, sym is)
passing-so q m false is holds = holds

-- what is said of a claim that is proved
proved-so : (q : Asked) (claim : Claim) → Holds claim q → IsSo q (proved_of (has_last q) claim)
proved-so q Illegal holds = holds
proved-so q (Last m) holds = holds
proved-so q (Lost x) holds = holds
proved-so q (Ep m) holds = passing-so q m (has_last q) refl holds

-- what is said of a claim that is settled
pub settled-so : (q : Asked) (claim : Claim) (most nodes : ℕ) (f : Finding) → IsFound q claim most nodes f → All (IsSo q) (settled_of (has_last q) f claim)
settled-so q claim most nodes (finding.Proved depth) found = All-cons (IsSo q) (proved_of (has_last q) claim) [] (proved-so q claim found.proved.holds) (All-nil (IsSo q))
settled-so q claim most nodes finding.Countered found = All-cons (IsSo q) (Countered claim) [] found (All-nil (IsSo q))
settled-so q claim most nodes finding.Open found = All-nil (IsSo q)
settled-so q claim most nodes finding.Spent found = All-nil (IsSo q)

-- what is said of the other side
pub other-so : (q : Asked) (most nodes : ℕ) (f : Finding) → IsFound (other_side q) Illegal most nodes f → IsSo q (other_of f)
other-so q most nodes (finding.Proved depth) found = found.proved.holds
other-so q most nodes finding.Countered found = found
other-so q most nodes finding.Open found = tt
other-so q most nodes finding.Spent found = tt

-- what is said of it without its demands
plain-so : (q : Asked) (most nodes : ℕ) (f : Finding) → IsFound (without_demands q) Illegal most nodes f → All (IsSo q) (plain_of f)
plain-so q most nodes (finding.Proved depth) found = All-cons (IsSo q) PlainShown [] found.proved.holds (All-nil (IsSo q))
plain-so q most nodes finding.Countered found = All-cons (IsSo q) PlainCountered [] found (All-nil (IsSo q))
plain-so q most nodes finding.Open found = All-nil (IsSo q)
plain-so q most nodes finding.Spent found = All-nil (IsSo q)

-- what was found of the claim that a position is illegal
pub found-illegal : (q : Asked) (most nodes : ℕ) (by : List (List Move)) (f : Findings) → IsFoundOf q most nodes by f → IsFound q Illegal most nodes (finding_of f)
found-illegal q most nodes by (Impossible f against) found = found.0
found-illegal q most nodes by (Unproved f) found = found.illegal.decided.found

plain-illegal-found : (q : Asked) (most nodes : ℕ) (plain : Finding) (game : List ℕ) → PlainIsFound q most nodes plain game → IsFound (without_demands q) Illegal most nodes plain
plain-illegal-found q most nodes plain game is =
    subst (λ (f : Finding). IsFound (without_demands q) Illegal most nodes f) (sym is.finding_is) (found-illegal (without_demands q) most nodes is.by is.findings is.found)

-- all that is said of a position that is illegal
pub impossible-so : (q : Asked) (most nodes : ℕ) (against : Finding) (plain : Option Finding) (game : List ℕ) → Holds Illegal q → IsFound (other_side q) Illegal most nodes against → IsPlainFound q most nodes plain game → All (IsSo q) (impossible_of against plain)
impossible-so q most nodes against None game holds found none =
    All-cons (IsSo q) (Shown Illegal) (other_of against ∷ []) holds (All-cons (IsSo q) (other_of against) [] (other-so q most nodes against found) (All-nil (IsSo q)))
impossible-so q most nodes against (Some plain) game holds found (demands, here) =
    All-cons (IsSo q) GivenShown (plain_of plain) holds (plain-so q most nodes plain (plain-illegal-found q most nodes plain game here))

asked-so : (q : Asked) (b : Bool) (xs : List Verdict) → All (IsSo q) xs → All (IsSo q) (cond b xs [])
asked-so q true xs so = so
asked-so q false xs so = All-nil (IsSo q)

right-so : (q : Asked) (most nodes : ℕ) (by : List (List Move)) (castlings : Bool) (f : RightFound) → IsRightFound q most nodes by f → All (IsSo q) (right_verdicts castlings (has_last q) f)
right-so q most nodes by castlings f found =
    asked-so q (is_asked castlings f.right) (settled_of (has_last q) f.finding (claim_of f.right)) (settled-so q (claim_of f.right) most nodes f.finding found.found)

pair-if : (q : Asked) (b : Bool) (x y : Castle) → (IsTrue b → HoldsLine (line.NotBoth x y) q) → All (IsSo q) (cond b (NotBoth x y ∷ []) [])
pair-if q true x y holds = All-cons (IsSo q) (NotBoth x y) [] (holds refl) (All-nil (IsSo q))
pair-if q false x y holds = All-nil (IsSo q)

pair-so : (q : Asked) (most nodes : ℕ) (by : List (List Move)) (f : PairFound) → IsPairFound q most nodes by f → All (IsSo q) (pair_verdicts f)
pair-so q most nodes by f found = pair-if q (is_proved f.finding) f.first f.second found.holds

each-so : {X : Type 0} (q : Asked) (P : X → Type 0) (f : X → List Verdict) → ((x : X) → P x → All (IsSo q) (f x)) → (xs : List X) → All P xs → All (IsSo q) (flat_map f xs)
each-so {X} q P f one [] all = All-nil (IsSo q)
each-so {X} q P f one (x ∷ xs) all =
    All-append (IsSo q) (f x) (flat_map f xs) (one x (All-head P x xs all)) (each-so q P f one xs (All-tail P x xs all))

-- all that is said of a position that isn't proved to be illegal
pub shown-so : (q : Asked) (most nodes : ℕ) (by : List (List Move)) (f : Found) → AreFindings q most nodes by f → All (IsSo q) (shown_of q f)
unfolding shown_of
shown-so q most nodes by f found =
    let given : Bool = has_last q in
    let own : List Verdict = settled_of given f.illegal.finding Illegal in
    let castlings : List Verdict = flat_map (right_verdicts true given) f.rights.items in
    let pairs : List Verdict = flat_map pair_verdicts f.pairs.items in
    let captures : List Verdict = flat_map (right_verdicts false given) f.rights.items in
    let first : All (IsSo q) (own ++ castlings) =
    All-append (IsSo q) own castlings (settled-so q Illegal most nodes f.illegal.finding found.illegal.decided.found) (each-so q (IsRightFound q most nodes by) (right_verdicts true given) (right-so q most nodes by true) f.rights.items found.rights.each) in
    let second : All (IsSo q) ((own ++ castlings) ++ pairs) =
    All-append (IsSo q) (own ++ castlings) pairs first (each-so q (IsPairFound q most nodes by) pair_verdicts (pair-so q most nodes by) f.pairs.items found.pairs.each) in
    All-append (IsSo q) ((own ++ castlings) ++ pairs) captures second (each-so q (IsRightFound q most nodes by) (right_verdicts false given) (right-so q most nodes by false) f.rights.items found.rights.each)

in-line : (q : Asked) (claim : LineClaim) (steps : List Unmove) → steps_in claim ≡ Some steps → HoldsLine claim q → WereLast q steps
in-line q (line.Line own) steps e holds =
    let same : own ≡ steps = cc in
    subst (WereLast q) same holds
in-line q (line.NotBoth x y) steps e holds = absurd (cc)

proved-line : (q : Asked) (claim : LineClaim) (b : Bool) (steps : List Unmove) → cond b (steps_in claim) None ≡ Some steps → (IsTrue b → HoldsLine claim q) → WereLast q steps
proved-line q claim true steps e holds = in-line q claim steps e (holds refl)
proved-line q claim false steps e holds = absurd (cc)

found-line : (q : Asked) (most nodes : ℕ) (f g : StepsFound) (own steps : List Unmove) → IsStepsFound q most nodes own g → Some f ≡ Some g → proved_steps (Some f) ≡ Some steps → WereLast q steps
found-line q most nodes f g own steps is same e =
    let one : g ≡ f = cc in
    let there : IsStepsFound q most nodes own f = subst (IsStepsFound q most nodes own) one is in
    proved-line q f.claim (is_proved f.finding) steps e there.found.holds

-- the last moves that are proved
pub steps-so : (q : Asked) (most nodes : ℕ) (found : Option StepsFound) → AreStepsFound q most nodes found → (steps : List Unmove) → proved_steps found ≡ Some steps → WereLast q steps
steps-so q most nodes None are steps e = absurd (cc)
steps-so q most nodes (Some f) are steps e = elim (cases_lt (length are.steps) 2) [
  | inl few ↦ let none : Some f ≡ None = are.few few in absurd (cc)
  | inr many ↦ let found = are.several many in found-line q most nodes f found.0 are.steps steps found.1 found.2 e
]

-- how long each game is
pub length-so : (q : Asked) (length : Option ℕ) → HasLength q length → IfSome length (λ n. IsSo q (AtLeast n))
length-so q None has = tt
length-so q (Some n) has =
    let is : IsLength q has.0 = has.1 in
    subst (λ (m : ℕ). IsSo q (AtLeast m)) (sym has.2) is.games

-- games end with what is found of the ends
ends-in : (q : Asked) (by : List (List Move)) (left ends : List Unmove) → AreEnds by q left ends → All (IsEnd q) ends
ends-in q by [] ends are = All-same (IsEnd q) ends [] are (All-nil (IsEnd q))
ends-in q by (u ∷ us) ends are = elim are.2 [
  | inl other ↦ All-same (IsEnd q) ends are.0 other.1 (ends-in q by us are.0 are.1)
  | inr this ↦ All-same (IsEnd q) ends (u ∷ are.0) this.1 (All-cons (IsEnd q) u are.0 (this.0.0, this.0.2, this.0.3) (ends-in q by us are.0 are.1))
]

pub ends-so : (q : Asked) (by : List (List Move)) (left : List Unmove) (found : Option (List Unmove)) → HasEnds q by left found → HasFewLeft q left → IfSome found (All (IsEnd q))
ends-so q by left found has few =
    let there = has.few few in
    subst (λ (o : Option (List Unmove)). IfSome o (All (IsEnd q))) (sym there.2) (ends-in q by left there.0 there.1.are)
