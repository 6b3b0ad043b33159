-- A query that is read bars no move.
use Rattle.std.proofs.Common.{◌≡◌, ℕ, Bool, List, subst, Option, Some, None, inl, inr}
use Rattle.board_base.specs.Board.{no_odds}
use Rattle.query_base.specs.Asked.{Asked}
use Rattle.query_base.specs.declared.claims.Claim.{Claim}
use Rattle.fen_text.specs.ClockLines.{clock_line}
use Rattle.fen_text.specs.OddsLines.{odds_line}
use Rattle.cert_text.specs.Lines.{said}
use Rattle.cert_text.specs.Certificate.{Lines, Certificate, AreLinesOf, format_of, query_of}
use Rattle.cert_text.specs.ClaimLines.{claim_of}
use Rattle.cert_text.specs.Heads.{after_claim, clock_step, fen_step, head_step, odds_step}
use Rattle.cert_text.specs.declared.heads.Format.{Format}
use Rattle.cert_text.specs.declared.heads.Format.TheVariants.{One, Two}
use Rattle.cert_text.specs.declared.heads.Head.{Head}
use Rattle.cert_text.specs.declared.heads.Head.TheVariants.{FormatDue, ClaimDue, DemandDue, ClockOrFenDue, FenDue, RootDue}
use Rattle.cert_text.proofs.FenLines.{query_read}
use Rattle.cert_text.proofs.HeadSteps.{one_of}
use Rattle.cert_text.proofs.HeadTexts.{head_plain}
use Rattle.cert_checker.specs.Staging.{BarsNothing}
use Rattle.board_base.proofs.TextLemmas.{mapped_some}

-- a certificate that has a text is about such a query
pub query_unbarred : (lines : Lines) (cert : Certificate) → AreLinesOf lines cert → cert.query.barred ≡ None
query_unbarred lines cert text = head_plain text.head cert.claim cert.query text.heading

after-plain : (f : Format) (claim : Claim) → BarsNothing (after_claim f claim)
after-plain One claim = tt
after-plain Two claim = tt

clock_unbarred : (claim : Claim) (odds : List Bool) (next : Head) (line : List ℕ) → clock_step claim odds line ≡ Some next → BarsNothing next
clock_unbarred claim odds next line e =
    let m = mapped_some (λ (n : ℕ). FenDue claim odds (Some n)) (said clock_line line) next e in subst BarsNothing m.2 tt

fen_unbarred : (claim : Claim) (odds : List Bool) (clock : Option ℕ) (next : Head) (line : List ℕ) → fen_step claim odds clock line ≡ Some next → BarsNothing next
fen_unbarred claim odds clock next line e =
    let m = mapped_some (λ (q : Asked). RootDue claim (record q { odds = odds; clock = clock })) (said query_of line) next e in
    subst BarsNothing m.2 (query_read line m.0 m.1).plain

-- so does the head that is read
pub head_unbarred : (due next : Head) (line : List ℕ) → head_step due line ≡ Some next → BarsNothing next
head_unbarred FormatDue next line e =
    let m = mapped_some (λ (f : Format). ClaimDue f) (said format_of line) next e in subst BarsNothing m.2 tt
head_unbarred (ClaimDue f) next line e =
    let m = mapped_some (after_claim f) (said claim_of line) next e in subst BarsNothing m.2 (after-plain f m.0)
head_unbarred (DemandDue claim) next line e = elim (one_of (odds_step claim line) (clock_step claim no_odds line) next e) [
  | inl odds ↦ let m = mapped_some (λ (o : List Bool). ClockOrFenDue claim o) (said odds_line line) next odds in subst BarsNothing m.2 tt
  | inr clock ↦ clock_unbarred claim no_odds next line clock
]
head_unbarred (ClockOrFenDue claim odds) next line e = elim (one_of (clock_step claim odds line) (fen_step claim odds None line) next e) [
  | inl clock ↦ clock_unbarred claim odds next line clock
  | inr fen ↦ fen_unbarred claim odds None next line fen
]
head_unbarred (FenDue claim odds clock) next line e = fen_unbarred claim odds clock next line e
head_unbarred (RootDue claim q) next line e = cc
