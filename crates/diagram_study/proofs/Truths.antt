-- Each line of a study says what is so.
use Rattle.std.proofs.Common.{◌≡◌, ℕ, ◌≤◌, ◌⊎◌, inl, inr, Bool, true, false, cond, List, [], ◌∷◌, ◌++◌, length, refl, ap, sym, subst, ◌∙◌, append_assoc, append-nil}
use Rattle.std.specs.Prelude.{◌&&◌, IsTrue, Option, Some, None}
use Rattle.std.specs.List.{All, flat_map}
use Rattle.std.proofs.lemmas.Bool.{both_ways, cases_lt}
use Rattle.general_lemmas.proofs.Settling.{test}
use Rattle.std.proofs.lemmas.List.Elements.{All-append, All-cons, All-head, All-nil, All-tail}
use Rattle.board_base.specs.declared.castles.Castle.{Castle}
use Rattle.board_base.specs.declared.moves.Move.{Move}
use Rattle.board_base.specs.declared.unmoves.Unmove.{Unmove}
use Rattle.cert_text.specs.ClaimLines.{claim_words}
use Rattle.query_base.specs.Asked.{Asked}
use Rattle.query_base.specs.Reach.{Holds}
use Rattle.query_base.specs.declared.claims.Claim.{Claim}
use Rattle.query_base.specs.declared.claims.Claim.TheVariants.{Illegal, Last}
use Rattle.codex_verdict.specs.Rights.{claim_of}
use Rattle.codex_verdict.specs.declared.kinds.Right.{Right}
use Rattle.codex_verdict.specs.declared.kinds.Right.TheVariants.{Castling, EnPassant}
use Rattle.line_claims.specs.declared.claims.LineClaim.{LineClaim}
use Rattle.line_claims.specs.declared.claims.LineClaim.TheVariants.{NotBoth}
use Rattle.ledger_told.specs.Line.{Line as LedgerLine}
use Rattle.ledger_told.specs.Held.{with_held}
use Rattle.ledger_told.specs.Told.{IsLineTrue, lines_text, whole_text}
use Rattle.ledger_told.proofs.Known.{all-true}
use Rattle.diagram_study.specs.Facts.{AreClaimWords, Fact, GoesBy, IsSo, IsTrueOf, SaysOf, SaysTrue, at_least, found, if_held, known, left, line_of, other, possible, steps, stuck}
use Rattle.claim_findings.specs.Findings.{IsContradicted, IsFound, is_proved}
use Rattle.diagram_study.specs.Findings.{AreFindings, HasLength, IsFoundOf, other_side}
use Rattle.diagram_study.specs.Forced.{AreStepsFound}
use Rattle.diagram_study.specs.Held.{IsHeldFound}
use Rattle.claim_findings.specs.Games.{AgreesWith}
use Rattle.diagram_study.specs.Possible.{HasEnds}
use Rattle.diagram_study.specs.Pairs.{IsPairFound}
use Rattle.diagram_study.specs.Retractions.{IsLastFound}
use Rattle.diagram_study.specs.Rights.{IsRightFound}
use Rattle.diagram_study.specs.Studies.{IsStudy, TellsAgain, TellsPosition, makes_demands, without_demands}
use Rattle.diagram_study.specs.Texts.{capture_line, capture_lines, castling_line, castling_lines, ends_text, findings_text, found_text, held_text, if_line, if_lines, last_text, left_line, length_text, pair_lines, plain_line, steps_text}
use Rattle.claim_findings.specs.Lines.{decided_lines, decided_steps, found_line, steps_line, steps_words, stuck_line}
use Rattle.claim_findings.specs.declared.findings.Finding.{Finding}
use Rattle.claim_findings.specs.declared.findings.Finding.TheVariants.{Proved, Countered, Open, Spent}
use Rattle.diagram_study.specs.declared.findings.Findings.{Findings}
use Rattle.diagram_study.specs.declared.findings.Findings.TheVariants.{Impossible, Unproved}
use Rattle.diagram_study.specs.declared.findings.Found.{Found}
use Rattle.diagram_study.specs.declared.forced.StepsFound.{StepsFound}
use Rattle.diagram_study.specs.declared.held.HeldFound.{HeldFound}
use Rattle.diagram_study.specs.declared.pairs.PairFound.{PairFound}
use Rattle.diagram_study.specs.declared.retractions.MoveFound.{MoveFound}
use Rattle.diagram_study.specs.declared.rights.RightFound.{RightFound}
use Rattle.diagram_study.proofs.LastMoves.{all_end, all_end_in, few_or_not}
use Rattle.claim_findings.proofs.Together.{proved_holds}

-- what was found of a claim is so
found_so : (q : Asked) (claim : Claim) (most nodes : ℕ) (finding : Finding) → IsFound q claim most nodes finding → IsSo finding (Holds claim q) (IsContradicted claim q)
found_so q claim most nodes (Proved depth) here = here.proved.holds
found_so q claim most nodes Countered here = here
found_so q claim most nodes Open here = tt
found_so q claim most nodes Spent here = tt

-- what is said is so, where it is wherever the claim is proved or countered
said_so : (finding : Finding) (A B : Type 0) → (IsTrue (is_proved finding) → A) → (finding ≡ Countered → B) → IsSo finding A B
said_so (Proved depth) A B holds countered = holds refl
said_so Countered A B holds countered = countered refl
said_so Open A B holds countered = tt
said_so Spent A B holds countered = tt

-- a claim that is proved is no other
unless_proved : (finding : Finding) (B : Type 0) → is_proved finding ≡ true → finding ≡ Countered → B
unless_proved (Proved depth) B proved countered = cc
unless_proved Countered B proved countered = cc
unless_proved Open B proved countered = cc
unless_proved Spent B proved countered = cc

-- what is proved is contradicted by none of the games
proved_agrees : (q : Asked) (claim : Claim) (most nodes : ℕ) (by : List (List Move)) (finding : Finding) → IsFound q claim most nodes finding → is_proved finding ≡ true → AgreesWith by claim q finding
proved_agrees q claim most nodes by finding here proved = (λ e. absurd (both_ways _ (ap is_proved e) proved), λ one. absurd (proved_holds q claim most nodes finding here proved one.0 one.2))

-- the text is the lines of facts that are true of the query, and go by the games
record Says (q : Asked) (by : List (List Move)) (text : List ℕ) : Type 0 where
  facts : List Fact
  all : All (IsTrueOf q) facts
  agreed : All (GoesBy by q) facts
  is : text ≡ flat_map line_of facts

says_none : (q : Asked) (by : List (List Move)) (text : List ℕ) → text ≡ [] → Says q by text
says_none q by text none = record { facts = []; all = All-nil (IsTrueOf q); agreed = All-nil (GoesBy by q); is = none }

says_one : (q : Asked) (by : List (List Move)) (text : List ℕ) (f : Fact) → IsTrueOf q f → GoesBy by q f → text ≡ line_of f → Says q by text
says_one q by text f true_ goes is =
    record { facts = f ∷ []; all = All-cons (IsTrueOf q) f [] true_ (All-nil (IsTrueOf q)); agreed = All-cons (GoesBy by q) f [] goes (All-nil (GoesBy by q)); is = is ∙ sym (append-nil (line_of f)) }

lines_both : (fs gs : List Fact) → flat_map line_of (fs ++ gs) ≡ flat_map line_of fs ++ flat_map line_of gs
lines_both [] gs = refl
lines_both (f ∷ fs) gs = ap (λ (t : List ℕ). line_of f ++ t) (lines_both fs gs) ∙ sym (append_assoc (line_of f) (flat_map line_of fs) (flat_map line_of gs))

says_both : (q : Asked) (by : List (List Move)) (a b : List ℕ) → Says q by a → Says q by b → Says q by (a ++ b)
says_both q by a b s t = record {
  facts = s.facts ++ t.facts;
  all = All-append (IsTrueOf q) s.facts t.facts s.all t.all;
  agreed = All-append (GoesBy by q) s.facts t.facts s.agreed t.agreed;
  is = ap (λ (x : List ℕ). x ++ b) s.is ∙ ap (λ (x : List ℕ). flat_map line_of s.facts ++ x) t.is ∙ sym (lines_both s.facts t.facts);
}

-- the line behind an open claim
says_stuck : (q : Asked) (by : List (List Move)) (words : List ℕ) (front : Option (List Unmove)) → AreClaimWords words → Says q by (stuck_line words front)
says_stuck q by words None of_claim = says_none q by [] refl
says_stuck q by words (Some front) of_claim = says_one q by _ (stuck words front) of_claim tt refl

says_claim : (q : Asked) (claim : Claim) (most nodes : ℕ) (by : List (List Move)) (finding : Finding) (front : Option (List Unmove)) → IsFound q claim most nodes finding → AgreesWith by claim q finding → Says q by (decided_lines finding front claim)
says_claim q claim most nodes by finding front is agrees = says_both q by _ _ (says_one q by _ (found finding claim) (found_so q claim most nodes finding is) agrees refl) (says_stuck q by (claim_words claim) front (inl (claim, refl)))

-- the lines of rights
castling_says : (q : Asked) (most nodes : ℕ) (by : List (List Move)) (f : RightFound) (right : Right) → right ≡ f.right → IsRightFound q most nodes by f → Says q by (castling_line f.finding f.stuck right)
castling_says q most nodes by f (Castling x) is h =
    says_claim q (claim_of (Castling x)) most nodes by f.finding f.stuck (subst (λ (r : Right). IsFound q (claim_of r) most nodes f.finding) (sym is) h.found) (subst (λ (r : Right). AgreesWith by (claim_of r) q f.finding) (sym is) h.agrees)
castling_says q most nodes by f (EnPassant m) is h = says_none q by [] refl

capture_says : (q : Asked) (most nodes : ℕ) (by : List (List Move)) (f : RightFound) (right : Right) → right ≡ f.right → IsRightFound q most nodes by f → Says q by (capture_line f.finding f.stuck right)
capture_says q most nodes by f (Castling x) is h = says_none q by [] refl
capture_says q most nodes by f (EnPassant m) is h =
    says_claim q (claim_of (EnPassant m)) most nodes by f.finding f.stuck (subst (λ (r : Right). IsFound q (claim_of r) most nodes f.finding) (sym is) h.found) (subst (λ (r : Right). AgreesWith by (claim_of r) q f.finding) (sym is) h.agrees)

castlings_say : (q : Asked) (most nodes : ℕ) (by : List (List Move)) (fs : List RightFound) → All (IsRightFound q most nodes by) fs → Says q by (castling_lines fs)
unfolding castling_lines
castlings_say q most nodes by [] all = says_none q by [] refl
castlings_say q most nodes by (f ∷ fs) all =
    says_both q by _ _ (castling_says q most nodes by f f.right refl (All-head (IsRightFound q most nodes by) f fs all)) (castlings_say q most nodes by fs (All-tail (IsRightFound q most nodes by) f fs all))

captures_say : (q : Asked) (most nodes : ℕ) (by : List (List Move)) (fs : List RightFound) → All (IsRightFound q most nodes by) fs → Says q by (capture_lines fs)
unfolding capture_lines
captures_say q most nodes by [] all = says_none q by [] refl
captures_say q most nodes by (f ∷ fs) all =
    says_both q by _ _ (capture_says q most nodes by f f.right refl (All-head (IsRightFound q most nodes by) f fs all)) (captures_say q most nodes by fs (All-tail (IsRightFound q most nodes by) f fs all))

-- a line that is told or isn't
says_if : (q : Asked) (by : List (List Move)) (b : Bool) (line text : List ℕ) → text ≡ cond b line [] → (b ≡ true → Says q by line) → Says q by text
says_if q by true line text is own = subst (Says q by) (sym is) (own refl)
says_if q by false line text is own = says_none q by text is

pair_says : (q : Asked) (most nodes : ℕ) (by : List (List Move)) (f : PairFound) → IsPairFound q most nodes by f → Says q by (decided_steps f.finding f.stuck (NotBoth f.first f.second))
pair_says q most nodes by f is =
    let claim : LineClaim = NotBoth f.first f.second in
    says_both q by _ _ (says_one q by _ (steps f.finding claim) (said_so f.finding _ _ is.holds is.countered) tt refl) (says_stuck q by (steps_words claim) f.stuck (inr (claim, refl)))

pairs_say : (q : Asked) (most nodes : ℕ) (by : List (List Move)) (fs : List PairFound) → All (IsPairFound q most nodes by) fs → Says q by (pair_lines fs)
unfolding pair_lines
pairs_say q most nodes by [] all = says_none q by [] refl
pairs_say q most nodes by (f ∷ fs) all =
    says_both q by _ _ (pair_says q most nodes by f (All-head (IsPairFound q most nodes by) f fs all)) (pairs_say q most nodes by fs (All-tail (IsPairFound q most nodes by) f fs all))

last_says : (q : Asked) (most nodes : ℕ) (by : List (List Move)) (us : List Unmove) (last : Option MoveFound) → IsLastFound q most nodes us last → Says q by (last_text last)
last_says q most nodes by us None is = says_none q by [] refl
last_says q most nodes by us (Some f) is =
    let here = is.found.found in
    says_if q by (is_proved f.finding) (found_line f.finding (Last f.mv)) (last_text (Some f)) refl (λ proved. says_one q by _ (found f.finding (Last f.mv)) (found_so q (Last f.mv) most nodes f.finding here) (proved_agrees q (Last f.mv) most nodes by f.finding here proved) refl)

line_says : (q : Asked) (most nodes : ℕ) (by : List (List Move)) (line : Option StepsFound) → AreStepsFound q most nodes line → Says q by (steps_text line)
line_says q most nodes by line are = elim (cases_lt (length are.steps) 2) [
  | inl few ↦ subst (λ (o : Option StepsFound). Says q by (steps_text o)) (sym (are.few few)) (says_none q by [] refl)
  | inr more ↦
      let t = are.several more in
      let f : StepsFound = t.0 in
      subst (λ (o : Option StepsFound). Says q by (steps_text o)) (sym t.2)
      (says_if q by (is_proved f.finding) (steps_line f.finding f.claim) (steps_text (Some f)) refl (λ proved. says_one q by _ (steps f.finding f.claim) (said_so f.finding _ _ t.1.found.holds (unless_proved f.finding _ proved)) tt refl))
]

games_say : (q : Asked) (by : List (List Move)) (n : Option ℕ) → HasLength q n → Says q by (length_text n)
games_say q by None has = says_none q by [] refl
games_say q by (Some n) has = says_one q by _ (at_least n) (λ g reaches. subst (λ (k : ℕ). k ≤ length g) (sym has.2) (has.1.games g reaches)) tt refl

possible_says : (q : Asked) (by : List (List Move)) (us : List Unmove) (ends : Option (List Unmove)) → HasEnds q by us ends → Says q by (ends_text ends (length us))
possible_says q by us ends has = elim (few_or_not q us) [
  | inl few ↦
      let t = has.few few in
      subst (λ (o : Option (List Unmove)). Says q by (ends_text o (length us))) (sym t.2) (says_one q by _ (possible t.0 (length us)) (all_end by q us t.0 t.1.are) (all_end_in by q us t.0 t.1.are) refl)
  | inr many ↦ subst (λ (o : Option (List Unmove)). Says q by (ends_text o (length us))) (sym (has.none many)) (says_none q by [] refl)
]

-- the lines of the ledger
known_say : (q : Asked) (by : List (List Move)) (xs : List LedgerLine) → All (IsLineTrue q) xs → Says q by (lines_text xs)
unfolding lines_text
known_say q by [] all = says_none q by [] refl
known_say q by (x ∷ xs) all =
    says_both q by (whole_text x) (lines_text xs) (says_one q by (whole_text x) (known x) (All-head (IsLineTrue q) x xs all) tt refl) (known_say q by xs (All-tail (IsLineTrue q) x xs all))

-- those that are so if a castling is held
if_say : (q : Asked) (by : List (List Move)) (x : Castle) (lines : List LedgerLine) → All (IsLineTrue (with_held q x)) lines → Says q by (if_lines x lines)
unfolding if_lines
if_say q by x [] all = says_none q by [] refl
if_say q by x (line ∷ lines) all =
    says_both q by (if_line x line) (if_lines x lines) (says_one q by (if_line x line) (if_held x line) (All-head (IsLineTrue (with_held q x)) line lines all) tt refl) (if_say q by x lines (All-tail (IsLineTrue (with_held q x)) line lines all))

held_say : (q : Asked) (by : List (List Move)) (ledger : List LedgerLine) (hs : List HeldFound) → All (IsHeldFound q ledger) hs → Says q by (held_text hs)
unfolding held_text
held_say q by ledger [] all = says_none q by [] refl
held_say q by ledger (h ∷ hs) all =
    let here : IsHeldFound q ledger h = All-head (IsHeldFound q ledger) h hs all in
    says_both q by (if_lines h.castle h.lines.items) (held_text hs) (if_say q by h.castle h.lines.items here.true_) (held_say q by ledger hs (All-tail (IsHeldFound q ledger) h hs all))

found_says : (q : Asked) (most nodes : ℕ) (by : List (List Move)) (f : Found) → AreFindings q most nodes by f → Says q by (found_text f)
found_says q most nodes by f are =
    says_both q by _ (length_text f.length) (says_both q by _ (held_text f.held.items) (says_both q by _ (lines_text f.ledger.items) (says_both q by _ (ends_text f.ends (length f.left)) (says_both q by _ (left_line f.left f.all) (says_both q by _ (steps_text f.steps) (says_both q by _ (last_text f.last) (says_both q by _ (capture_lines f.rights.items) (says_both q by _ (pair_lines f.pairs.items) (says_both q by (decided_lines f.illegal.finding f.illegal.stuck Illegal) (castling_lines f.rights.items)
    (says_claim q Illegal most nodes by f.illegal.finding f.illegal.stuck are.illegal.decided.found are.illegal.agrees)
    (castlings_say q most nodes by f.rights.items are.rights.each))
    (pairs_say q most nodes by f.pairs.items are.pairs.each))
    (captures_say q most nodes by f.rights.items are.rights.each))
    (last_says q most nodes by f.left f.last are.last))
    (line_says q most nodes by f.steps are.steps))
    (says_one q by _ (left f.left f.all) tt tt refl))
    (possible_says q by f.left f.ends are.ends))
    (known_say q by f.ledger.items (all-true q f.ledger.items are.ledger)))
    (held_say q by f.ledger.items f.held.items are.held.each))
    (games_say q by f.length are.games)

findings_say : (q : Asked) (most nodes : ℕ) (by : List (List Move)) (findings : Findings) → IsFoundOf q most nodes by findings → Says q by (findings_text findings)
findings_say q most nodes by (Impossible finding against) are =
    says_both q by _ _ (says_one q by _ (found finding Illegal) (found_so q Illegal most nodes finding are.0) (proved_agrees q Illegal most nodes by finding are.0 are.1) refl) (says_one q by _ (other against) (found_so (other_side q) Illegal most nodes against are.2) tt refl)
findings_say q most nodes by (Unproved f) are = found_says q most nodes by f are

position_says : (q : Asked) (most nodes : ℕ) (finding : Finding) (text : List ℕ) → (told : TellsPosition q most nodes finding text) → Says q told.by text
position_says q most nodes finding text told = subst (Says q told.by) (sym told.text_is) (findings_say q most nodes told.by told.findings told.found)

-- the text of a position says what is so of it
position_is_so : (q : Asked) (most nodes : ℕ) (finding : Finding) (text : List ℕ) → TellsPosition q most nodes finding text → SaysOf q text
position_is_so q most nodes finding text told =
    let says = position_says q most nodes finding text told in
    record { facts = says.facts; true_ = says.all; games = told.by; agreed = says.agreed; text_is = says.is }

again_is : (q : Asked) (most nodes : ℕ) (finding : Finding) (text : List ℕ) → TellsAgain q most nodes finding text → (text ≡ []) ⊎ ((more : List ℕ) × SaysOf (without_demands q) more × (text ≡ plain_line ++ more))
again_is q most nodes finding text told = elim (test (is_proved finding && makes_demands q)) [
  | inl demanded ↦ let t = told.0 demanded in inr (t.1, position_is_so (without_demands q) most nodes t.0 t.1 t.2, t.3)
  | inr none ↦ inl (told.1 none)
]

pub study_says : (q : Asked) (most nodes : ℕ) (text : List ℕ) → IsStudy q most nodes text → SaysTrue q text
study_says q most nodes text s =
    record { own = s.own; said = position_is_so q most nodes s.finding s.own s.told; behind = s.plain; plain = again_is q most nodes s.finding s.plain s.again; text_is = s.text_is }
