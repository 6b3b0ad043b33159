-- What the loop over a source's reads keeps.
use Rattle.std.proofs.Common.{◌≡◌, ℕ, ◌+◌, ◌≤◌, List, [], ◌++◌, length, take, ap, ◌∙◌, subst, arith, length-append}
use Rattle.std.specs.Prelude.{Option, None, Some, Result, Ok, Err, IfOk, IfSome, IsSomeAnd}
use Rattle.std.specs.Io.KnownBytes.{Consumes, IsAtEnd}
use Rattle.std.proofs.KnownBytes.{Consumes-trans}
use Rattle.std.proofs.lemmas.List.{append-nil}
use Rattle.query_base.specs.Asked.{Asked}
use Rattle.line_claims.specs.Holding.{HoldsLine}
use Rattle.line_claims.specs.declared.claims.LineClaim.{LineClaim}
use Rattle.dossier_text.specs.Proving.{IsDossier}
use Rattle.dossier_checker.specs.DossierAnswers.{AnswersDossier, DossierAnswer}
use Rattle.dossier_checker.specs.DossierReading.{AnswersDossierAll, dossier_answer}
use Rattle.dossier_checker.specs.StageAnswers.{StageStands}
use Rattle.dossier_checker.specs.declared.refusals.AcceptedLine.{AcceptedLine}
use Rattle.dossier_checker.specs.declared.refusals.DossierRefused.{DossierRefused}
use Rattle.dossier_checker.specs.declared.stages.Stage.{Stage}
use Rattle.dossier_checker.proofs.AcceptedDossiers.{accepted_proves}

-- the stage stands for the bytes that were read
pub record StagedSoFar (before now : Option (List ℕ)) (faults_before faults_now : ℕ) (stage : Stage) (fed limit : ℕ) : Type 0 where
  pub bytes : List ℕ
  pub size : fed ≡ length bytes
  pub in_range : length bytes ≤ limit
  pub read : Consumes before now bytes
  pub stands : StageStands stage bytes
  pub no_fault : faults_now ≡ faults_before

-- no game contradicts what is accepted
pub answered_holds : ((bytes : List ℕ) (claim : LineClaim) (q : Asked) → IsDossier bytes claim q → HoldsLine claim q) → (r : Result AcceptedLine DossierRefused) (bytes : List ℕ) → IsSomeAnd (dossier_answer r) (AnswersDossier bytes) → IfOk r (λ x. HoldsLine x.claim x.query)
answered_holds prove (Ok x) bytes answers = prove bytes x.claim x.query (accepted_proves bytes x.claim x.query answers)
answered_holds prove (Err f) bytes answers = tt

-- what was read to its end is answered
pub all_answered : (o : Option DossierAnswer) (before last : Option (List ℕ)) (bytes : List ℕ) (limit : ℕ) → IsSomeAnd o (AnswersDossier bytes) → Consumes before last bytes → IsAtEnd last → length bytes ≤ limit → IfSome o (AnswersDossierAll limit before last)
all_answered None before last bytes limit answers read end fits = tt
all_answered (Some a) before last bytes limit answers read end fits = record { bytes = bytes; read = read; ended = end; fits = fits; answers = answers }

-- and not as too long, or as failed
pub none_answered : (r : Result AcceptedLine DossierRefused) (bytes : List ℕ) → IsSomeAnd (dossier_answer r) (AnswersDossier bytes) → dossier_answer r ≡ None → ⊥
none_answered (Ok a) bytes answers e = cc
none_answered (Err f) bytes answers e = subst (λ (o : Option DossierAnswer). IsSomeAnd o (AnswersDossier bytes)) e answers

-- a read that gave nothing
pub nothing_more : (before now last : Option (List ℕ)) (bytes more : List ℕ) → Consumes before now bytes → Consumes now last more → more ≡ [] → Consumes before last bytes
nothing_more before now last bytes more read last-read none =
    subst (Consumes before last) (ap (λ (l : List ℕ). bytes ++ l) none ∙ append-nil bytes) (Consumes-trans before now last bytes more read last-read)

-- a read that gave n bytes
pub fed_further : (before now last : Option (List ℕ)) (f g h fed n limit : ℕ) (old new : Stage) (buf piece : List ℕ) → StagedSoFar before now f g old fed limit → Consumes now last (take n buf) → n ≡ length (take n buf) → piece ≡ take n buf → fed + n ≤ limit → h ≡ g → ((bytes : List ℕ) → StageStands old bytes → StageStands new (bytes ++ piece)) → StagedSoFar before last f h new (fed + n) limit
fed_further before now last f g h fed n limit old new buf piece so-far read size is fits same stands = record {
  bytes = so-far.bytes ++ take n buf;
  size = omega (arith, so-far.size, size, length-append so-far.bytes (take n buf));
  in_range = omega (arith, so-far.size, size, fits, length-append so-far.bytes (take n buf));
  read = Consumes-trans before now last so-far.bytes (take n buf) so-far.read read;
  stands = subst (λ (l : List ℕ). StageStands new (so-far.bytes ++ l)) is (stands so-far.bytes so-far.stands);
  no_fault = same ∙ so-far.no_fault;
}
