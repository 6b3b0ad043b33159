-- Lines have one answer.
use Rattle.std.proofs.Common.{◌≡◌, ℕ, [], sym, ap, ◌∙◌, subst}
use Rattle.query_base.specs.declared.claims.Claim.{Claim}
use Rattle.cert_text.specs.Certificate.{Lines, Certificate, AreLinesOf, root_at}
use Rattle.cert_text.proofs.OneCertificate.{certificate_one}
use Rattle.cert_text.proofs.OneFault.{bad-no_text, line_one}
use Rattle.cert_checker.specs.Walk.{Walked, fault_at, next_line, WalksTo}
use Rattle.cert_checker.specs.Answers.{Answer, bad_text, fault, accepted, Answers}
use Rattle.cert_checker.proofs.Proofs.{walk_proves}
use Rattle.cert_checker.proofs.OneWalk.{one_walk}

one_end : (lines : Lines) (a b : Certificate) (v w : Walked) → AreLinesOf lines a → AreLinesOf lines b → WalksTo a v → WalksTo b w → v ≡ w
one_end lines a b v w x y walks walks' =
    one_walk b.root _ [] (root_at b.query) v w (subst (λ (c : Certificate). WalksTo c v) (certificate_one lines a b x y) walks) walks'

-- lines have one answer
pub one_answer : (lines : Lines) (a b : Answer) → Answers lines a → Answers lines b → a ≡ b
one_answer lines (bad_text m) (bad_text n) x y = ap bad_text (line_one AreLinesOf lines m n x y)
one_answer lines (bad_text m) (fault n f) x y = absurd (bad-no_text AreLinesOf lines m y.0 x y.1)
one_answer lines (bad_text m) (accepted claim q) x y = absurd (bad-no_text AreLinesOf lines m y.0 x y.1)
one_answer lines (fault m f) (bad_text n) x y = absurd (bad-no_text AreLinesOf lines n x.0 y x.1)
one_answer lines (fault m f) (fault n g) x y =
    let same : fault_at m f ≡ fault_at n g = one_end lines x.0 y.0 (fault_at m f) (fault_at n g) x.1 y.1 x.2 y.2 in
    let lines-same : m ≡ n = cc in
    let faults : f ≡ g = cc in
    ap (λ (k : ℕ). fault k f) lines-same ∙ ap (fault n) faults
one_answer lines (fault m f) (accepted claim q) x y =
    let clean = (walk_proves lines y.0 y.1).1 y.4 in
    let same : fault_at m f ≡ next_line clean.0 = one_end lines x.0 y.0 (fault_at m f) (next_line clean.0) x.1 y.1 x.2 clean.1 in
    cc
one_answer lines (accepted claim q) (bad_text n) x y = absurd (bad-no_text AreLinesOf lines n x.0 y x.1)
one_answer lines (accepted claim q) (fault n g) x y =
    let clean = (walk_proves lines x.0 x.1).1 x.4 in
    let same : next_line clean.0 ≡ fault_at n g = one_end lines x.0 y.0 (next_line clean.0) (fault_at n g) x.1 y.1 clean.1 y.2 in
    cc
one_answer lines (accepted claim q) (accepted claim' q') x y =
    let same = certificate_one lines x.0 y.0 x.1 y.1 in
    ap (λ (c : Claim). accepted c q) (sym x.2 ∙ ap (λ (c : Certificate). c.claim) same ∙ y.2)
    ∙ ap (accepted claim') (sym x.3 ∙ ap (λ (c : Certificate). c.query) same ∙ y.3)
