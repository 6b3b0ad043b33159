-- What the loop over a source's reads keeps.
use Rattle.std.proofs.Common.{◌≡◌, ℕ, ◌-◌, ◌≤◌, List, [], ◌++◌, append-nil, length, length-append, sym, ◌∙◌, subst, arith}
use Rattle.std.proofs.KnownBytes.{Consumes-trans}
use Rattle.std.specs.Prelude.{Option, Some, Result, Ok, Err, IfOk, IfSome}
use Rattle.std.proofs.lemmas.Option.{same_Some}
use Rattle.std.specs.Io.KnownBytes.{Consumes, IsAtEnd}
use Rattle.query_base.specs.Asked.{Asked}
use Rattle.query_base.specs.Reach.{Holds}
use Rattle.query_base.specs.declared.claims.Claim.{Claim}
use Rattle.cert_text.specs.Lines.{cut}
use Rattle.cert_text.specs.Certificate.{Lines}
use Rattle.cert_checker.specs.Answers.{Answer, Answers, accepted}
use Rattle.cert_checker.specs.Remains.{AnswersAll, Checking, StandsFor, streamed}
use Rattle.cert_checker.specs.declared.refusals.Accepted.{Accepted}
use Rattle.cert_checker.specs.declared.refusals.StreamRefused.{StreamRefused}
use Rattle.cert_checker.proofs.Contradicted.{proved_holds}

-- the checker stands for the bytes that were read
pub record FedSoFar (before now : Option (List ℕ)) (faults_before faults_now : ℕ) (k : Checking) (limit : ℕ) : Type 0 where
  pub bytes : List ℕ
  pub in_range : length bytes ≤ limit
  pub read : Consumes before now bytes
  pub stands : StandsFor k bytes
  pub no_fault : faults_now ≡ faults_before

-- one more piece was fed
pub fed_more : (a b c : Option (List ℕ)) (f g h : ℕ) (k l : Checking) (limit : ℕ) (piece : List ℕ) → FedSoFar a b f g k limit → Consumes b c piece → k.fed ≤ limit → length piece ≤ limit - k.fed → h ≡ g → ((bytes : List ℕ) → StandsFor k bytes → StandsFor l (bytes ++ piece)) → FedSoFar a c f h l limit
fed_more a b c f g h k l limit piece s more low room same stands =
    let fed = s.stands.fed in
    record {
      bytes = s.bytes ++ piece;
      in_range = omega (arith, fed, length-append s.bytes piece);
      read = Consumes-trans a b c s.bytes piece s.read more;
      stands = stands s.bytes s.stands;
      no_fault = same ∙ s.no_fault;
    }

-- nothing is left
pub fed_all : (a b c : Option (List ℕ)) (f g : ℕ) (k : Checking) (limit : ℕ) (r : Result Accepted StreamRefused) (x : Answer) → FedSoFar a b f g k limit → Consumes b c [] → IsAtEnd c → streamed r ≡ Some x → ((bytes : List ℕ) → StandsFor k bytes → Answers (cut bytes) x) → IfSome (streamed r) (AnswersAll limit a c)
fed_all a b c f g k limit r x s none at-end is answers =
    subst (λ (o : Option Answer). IfSome o (AnswersAll limit a c)) (sym is) (record {
      bytes = s.bytes;
      read = subst (Consumes a c) (append-nil s.bytes) (Consumes-trans a b c s.bytes [] s.read none);
      ended = at-end;
      fits = s.in_range;
      answers = answers s.bytes s.stands;
    })

-- no game contradicts what is accepted

accepted_holds : (lines : Lines) (claim : Claim) (q : Asked) → Answers lines (accepted claim q) → Holds claim q
accepted_holds lines claim q (cert, text, claim-is, query-is, proves) =
    subst (λ (p : Asked). Holds claim p) query-is (subst (λ (k : Claim). Holds k cert.query) claim-is (proved_holds cert proves))

pub streamed_holds : (r : Result Accepted StreamRefused) (a : Answer) (lines : Lines) → streamed r ≡ Some a → Answers lines a → IfOk r (λ x. Holds x.claim x.query)
streamed_holds (Ok x) a lines e answers = accepted_holds lines x.claim x.query (subst (Answers lines) (sym (same_Some _ _ e)) answers)
streamed_holds (Err f) a lines e answers = tt
