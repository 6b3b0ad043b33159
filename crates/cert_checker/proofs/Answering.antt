-- What is answered from a stage on is the answer to the lines.
use Rattle.std.proofs.Common.{◌≡◌, ℕ, ◌+◌, Bool, true, false, cond, List, [], ◌∷◌, ◌++◌, length, refl, sym, ap, ◌∙◌, subst, arith, add-zero, append_assoc, length-append}
use Rattle.std.proofs.lemmas.List.{append-nil}
use Rattle.std.specs.Prelude.{Option, Some, None}
use Rattle.query_base.specs.Asked.{Asked}
use Rattle.query_base.specs.Targets.{target}
use Rattle.query_base.specs.declared.claims.Claim.{Claim}
use Rattle.cert_text.specs.Lines.{said}
use Rattle.cert_text.specs.NodeLines.{root_body}
use Rattle.cert_text.specs.Certificate.{Lines, Certificate, AreLinesOf, root_at}
use Rattle.cert_text.specs.Heads.{Leads, head_step}
use Rattle.cert_text.specs.declared.heads.Head.{Head}
use Rattle.cert_text.specs.declared.heads.Head.TheVariants.{FormatDue, ClaimDue, DemandDue, ClockOrFenDue, FenDue, RootDue}
use Rattle.cert_text.specs.Due.{Due, put_due, step, on_step, is_done, refused}
use Rattle.cert_text.specs.declared.node_lines.BodyLine.{BodyLine}
use Rattle.cert_text.proofs.Bad.{bad_below_root, bad_end, bad_line, bad_root, planted_text, root_put}
use Rattle.cert_text.proofs.Due.{IsDue}
use Rattle.cert_text.proofs.HeadSteps.{leads_head, leads_more}
use Rattle.cert_text.proofs.HeadTexts.{head_count}
use Rattle.cert_checker.specs.Walk.{Walked, fault_at, next_line, Walks, WalksTo}
use Rattle.cert_checker.specs.Answers.{Answer, Answers, bad_text}
use Rattle.cert_checker.specs.Frames.{Walking, go_on, ended, OnBody, OnLine, WalksOn}
use Rattle.cert_checker.specs.Stages.{Stage, heading, in_head, nodes, bad, headed, Begun, OnHead, Rooted, Stepped, answer_at, answer_by, Rest, BadTextFirst}
use Rattle.cert_checker.proofs.Proofs.{walk_proves}
use Rattle.cert_checker.proofs.TreeLines.{Carries, GoesOn, tree_walk}

-- after bad text nothing else is answered
pub rest_bad : (lines : Lines) (k n : ℕ) (a : Answer) → Rest (bad k) n lines a → a ≡ bad_text k
rest_bad [] k n a e = e
rest_bad (line ∷ lines) k n a (next, e, rest) = rest_bad lines k (n + 1) a (subst (λ (s : Stage). Rest s (n + 1) lines a) e rest)

rests_bad : (lines : Lines) (k n : ℕ) (s : Stage) (a : Answer) → s ≡ bad k → Rest s n lines a → a ≡ bad_text k
rests_bad lines k n s a e rest = rest_bad lines k n a (subst (λ (t : Stage). Rest t n lines a) e rest)

rest_end : (b : Bool) (claim : Claim) (q : Asked) (w : Walking) (n : ℕ) (a : Answer) → a ≡ cond b (answer_by claim q n (go_on w ended)) (bad_text n) → BadTextFirst (cond b None (Some n)) claim q w n [] a
rest_end true claim q w n a e = (go_on w ended, refl, e ∙ ap (λ (k : ℕ). answer_by claim q k (go_on w ended)) (sym (add-zero n)))
rest_end false claim q w n a e = e

rest_further : (o : Option ℕ) (claim : Claim) (q : Asked) (w after : Walking) (n : ℕ) (line : List ℕ) (lines : Lines) (a : Answer) → OnLine w n line after → BadTextFirst o claim q after (n + 1) lines a → BadTextFirst o claim q w n (line ∷ lines) a
rest_further (Some k) claim q w after n line lines a on e = e
rest_further None claim q w after n line lines a on (last, walks, e) =
    let place : n + 1 + length lines ≡ n + length (line ∷ lines) = omega arith in
    (last, (after, on, walks), e ∙ ap (λ (k : ℕ). answer_by claim q k last) place)

rest_step : (o : Option Due) (claim : Claim) (q : Asked) (w : Walking) (n : ℕ) (line : List ℕ) (lines : Lines) (next : Stage) (a : Answer) → Stepped o claim q w n line next → Rest next (n + 1) lines a → ((after : Walking) (due : Due) → Rest (nodes claim q after due) (n + 1) lines a → BadTextFirst (refused due (n + 1) lines) claim q after (n + 1) lines a) → BadTextFirst (on_step n o (λ due. refused due (n + 1) lines)) claim q w n (line ∷ lines) a
rest_step None claim q w n line lines next a e rest later = rests_bad lines n (n + 1) next a e rest
rest_step (Some due) claim q w n line lines next a (after, on, e) rest later =
    rest_further (refused due (n + 1) lines) claim q w after n line lines a on (later after due (subst (λ (s : Stage). Rest s (n + 1) lines a) e rest))

-- below the root's line
pub rest_nodes : (lines : Lines) (claim : Claim) (q : Asked) (w : Walking) (due : Due) (n : ℕ) (a : Answer) → Rest (nodes claim q w due) n lines a → BadTextFirst (refused due n lines) claim q w n lines a
rest_nodes [] claim q w due n a e = rest_end (is_done due) claim q w n a e
rest_nodes (line ∷ lines) claim q w due n a (next, stepped, rest) =
    rest_step (step due line) claim q w n line lines next a stepped rest (λ after more. rest_nodes lines claim q after more (n + 1) a)

-- what the walk of a certificate comes to is the answer to its text
answer_walk : (k : Walked) (lines : Lines) (cert : Certificate) (m : ℕ) (last : Walking) (a : Answer) → AreLinesOf lines cert → WalksTo cert k → Carries k (GoesOn [] []) last → a ≡ answer_by cert.claim cert.query m last → Answers lines a
answer_walk (fault_at n f) lines cert m last a text walks e is =
    subst (Answers lines) (sym (is ∙ ap (answer_by cert.claim cert.query m) e)) (cert, text, walks)
answer_walk (next_line n) lines cert m last a text walks e is =
    subst (Answers lines) (sym (is ∙ ap (answer_by cert.claim cert.query m) e)) (cert, text, refl, refl, (walk_proves lines cert text).0 (n, walks))

answer_nodes : (o : Option ℕ) (front : Lines) (root : List ℕ) (claim : Claim) (q : Asked) (body : BodyLine) (n : ℕ) (lines : Lines) (d : Due) (w : Walking) (a : Answer) → n ≡ length front + 1 → Leads FormatDue front (RootDue claim q) → said root_body root ≡ Some body → put_due 0 body [] ≡ Some d → IsDue d → refused d (n + 1) lines ≡ o → OnBody body (target q claim) [] n w → BadTextFirst o claim q w (n + 1) lines a → Answers (front ++ root ∷ lines) a
answer_nodes (Some k) front root claim q body n lines d w a at leads root-is put is here on e =
    subst (Answers (front ++ root ∷ lines)) (sym e) (bad_below_root front root claim q body (n + 1) lines k d (omega arith) leads root-is put is here)
answer_nodes None front root claim q body n lines d w a at leads root-is put is here on (last, walks, e) =
    let t = planted_text front root claim q body (n + 1) lines d leads root-is put is here in
    let cert : Certificate = record { claim = claim; query = q; root = t.0 } in
    let text : AreLinesOf (front ++ root ∷ lines) cert = t.3 in
    let place : n ≡ root_at q = at ∙ head_count front claim q (leads_head front claim q leads) in
    let k = tree_walk t.0 (target q claim) [] n lines [] w last text.few t.2 (subst (λ (b : BodyLine). OnBody b (target q claim) [] n w) (sym t.1) on) (subst (λ (l : Lines). WalksOn w (n + 1) l last) (sym (append-nil lines)) walks) in
    answer_walk k.0 (front ++ root ∷ lines) cert (n + 1 + length lines) last a text (subst (λ (i : ℕ). Walks t.0 (target q claim) [] i k.0) place k.1) k.2 e

from_root : (o : Option BodyLine) (front : Lines) (root : List ℕ) (claim : Claim) (q : Asked) (n : ℕ) (lines : Lines) (next : Stage) (a : Answer) → n ≡ length front + 1 → Leads FormatDue front (RootDue claim q) → said root_body root ≡ o → Rooted o claim q n next → Rest next (n + 1) lines a → Answers (front ++ root ∷ lines) a
from_root None front root claim q n lines next a at leads none e rest =
    subst (Answers (front ++ root ∷ lines)) (sym (rests_bad lines n (n + 1) next a e rest)) (bad_root front root lines claim q n at leads none)
from_root (Some body) front root claim q n lines next a at leads root-is begun rest =
    let put = root_put root body root-is in
    let on = subst (λ (o : Option Due). Begun o body claim q n next) put.1 begun in
    answer_nodes (refused put.0 (n + 1) lines) front root claim q body n lines put.0 on.0 a at leads root-is put.1 put.2 refl on.1 (rest_nodes lines claim q on.0 put.0 (n + 1) a (subst (λ (s : Stage). Rest s (n + 1) lines a) on.2 rest))

-- what the lines after a head's are answered
abbrev Later : Lines → ℕ → Answer → Type 0
Later lines n a = (front : Lines) (due : Head) → n ≡ length front + 1 → Leads FormatDue front due → Rest (in_head due) n lines a → Answers (front ++ lines) a

from_line : (o : Option Head) (front : Lines) (line : List ℕ) (due : Head) (n : ℕ) (lines : Lines) (next : Stage) (a : Answer) → n ≡ length front + 1 → Leads FormatDue front due → ((claim : Claim) (q : Asked) → due ≡ RootDue claim q → ⊥) → head_step due line ≡ o → next ≡ headed o n → Rest next (n + 1) lines a → Later lines (n + 1) a → Answers (front ++ line ∷ lines) a
from_line None front line due n lines next a at leads other none e rest later =
    subst (Answers (front ++ line ∷ lines)) (sym (rests_bad lines n (n + 1) next a e rest)) (bad_line front line lines due n at leads other none)
from_line (Some k) front line due n lines next a at leads other is e rest later =
    subst (λ (l : Lines). Answers l a) (append_assoc front (line ∷ []) lines)
    (later (front ++ line ∷ []) k (omega (arith, length-append front (line ∷ []))) (leads_more front line FormatDue due k leads is) (subst (λ (s : Stage). Rest s (n + 1) lines a) e rest))

from_due : (due : Head) (front : Lines) (line : List ℕ) (n : ℕ) (lines : Lines) (next : Stage) (a : Answer) → n ≡ length front + 1 → Leads FormatDue front due → OnHead due n line next → Rest next (n + 1) lines a → Later lines (n + 1) a → Answers (front ++ line ∷ lines) a
from_due FormatDue front line n lines next a at leads e rest later = from_line (head_step FormatDue line) front line FormatDue n lines next a at leads (λ claim q is. cc) refl e rest later
from_due (ClaimDue f) front line n lines next a at leads e rest later = from_line (head_step (ClaimDue f) line) front line (ClaimDue f) n lines next a at leads (λ claim q is. cc) refl e rest later
from_due (DemandDue c) front line n lines next a at leads e rest later = from_line (head_step (DemandDue c) line) front line (DemandDue c) n lines next a at leads (λ claim q is. cc) refl e rest later
from_due (ClockOrFenDue c o) front line n lines next a at leads e rest later = from_line (head_step (ClockOrFenDue c o) line) front line (ClockOrFenDue c o) n lines next a at leads (λ claim q is. cc) refl e rest later
from_due (FenDue c o k) front line n lines next a at leads e rest later = from_line (head_step (FenDue c o k) line) front line (FenDue c o k) n lines next a at leads (λ claim q is. cc) refl e rest later
from_due (RootDue claim q) front line n lines next a at leads on rest later = from_root (said root_body line) front line claim q n lines next a at leads refl on rest

end_answer : (due : Head) (n : ℕ) → answer_at (in_head due) n ≡ bad_text n
end_answer due n = refl

-- what is answered from a line of the head on
from_head : (lines : Lines) (n : ℕ) (a : Answer) → Later lines n a
from_head [] n a front due at leads e =
    subst (λ (l : Lines). Answers l a) (sym (append-nil front)) (subst (Answers front) (sym (e ∙ end_answer due n)) (bad_end front due n at leads))
from_head (line ∷ lines) n a front due at leads (next, on, rest) = from_due due front line n lines next a at leads on rest (from_head lines (n + 1) a)

-- what is answered from the start on
pub rest_answers : (lines : Lines) (a : Answer) → Rest heading 1 lines a → Answers lines a
rest_answers lines a rest = from_head lines 1 a [] FormatDue refl refl rest
