-- Which status `explain` answers, and what its text says.
use Rattle.std.proofs.Common.{◌≡◌, ℕ, inl, inr, List, refl, subst, sym}
use Rattle.command_answers.specs.AtLeasts.{ShowsLength}
use Rattle.command_answers.specs.Explains.{AnswersAsFormat, AnswersExplain, format_of}
use Rattle.command_answers.specs.Lines.{ProvesLine}
use Rattle.command_answers.specs.Statuses.{IsAnswer}
use Rattle.command_answers.specs.declared.explains.ProofFormat.{ProofFormat}
use Rattle.command_answers.specs.declared.explains.ProofFormat.TheVariants as format
use Rattle.command_answers.specs.declared.statuses.Status.{Status}
use Rattle.command_answers.specs.declared.statuses.Status.TheVariants.{Done, Refused}
use Rattle.command_answers.proofs.Formats.{certificate_format, dossier_format, length_format}
use Rattle.command_answers.proofs.WholeReading.{dossier_of}
use Rattle.retro_top.specs.Answers.{IsProof, ProvesSome, ProvesTrue}
use Rattle.retro_top.proofs.Headline.{CertificatesProve, OneAnswer, proves-done}
use Rattle.retro_top.proofs.Lengthy.{OneLength, ShownHold, shown-done}
use Rattle.retro_top.proofs.LineProofs.{AcceptedAreDossiers, DossiersProve, OneDossier, line-done}

-- the bytes prove what the format asks
abbrev ProvesAs : ProofFormat → List ℕ → Type 0
ProvesAs format.Certificate input = ProvesSome input
ProvesAs format.Dossier input = ProvesLine input
ProvesAs format.Length input = ShowsLength input

-- what proves something proves what its first line says that it is
as-named : (input : List ℕ) → IsProof input → ProvesAs (format_of input) input
as-named input (inl some) = subst (λ (f : ProofFormat). ProvesAs f input) (sym (certificate_format input some.0 some.1)) some
as-named input (inr (inl some)) = subst (λ (f : ProofFormat). ProvesAs f input) (sym (dossier_format input some.0 some.1 some.2)) some
as-named input (inr (inr some)) = subst (λ (f : ProofFormat). ProvesAs f input) (sym (length_format input some.0 some.1)) some

as-answered : (f : ProofFormat) (input : List ℕ) (ending : Status) (text : List ℕ) → AnswersAsFormat f input ending text → IsAnswer ending
as-answered format.Certificate input Done text answers = tt
as-answered format.Certificate input Refused text answers = tt
as-answered format.Certificate input _ text answers = absurd answers
as-answered format.Dossier input Done text answers = tt
as-answered format.Dossier input Refused text answers = tt
as-answered format.Dossier input _ text answers = absurd answers
as-answered format.Length input Done text answers = tt
as-answered format.Length input Refused text answers = tt
as-answered format.Length input _ text answers = absurd answers

pub explain-answered : (input : List ℕ) (ending : Status) (text : List ℕ) → AnswersExplain input ending text → IsAnswer ending
explain-answered input ending text answers = as-answered (format_of input) input ending text answers

-- what proves its claim is explained
as-done : OneAnswer → OneLength → OneDossier → AcceptedAreDossiers → (f : ProofFormat) (input : List ℕ) (ending : Status) (text : List ℕ) → AnswersAsFormat f input ending text → ProvesAs f input → ending ≡ Done
as-done law length dossier accepted format.Certificate input Done text answers good = refl
as-done law length dossier accepted format.Certificate input Refused text answers good = proves-done law input text Refused answers good
as-done law length dossier accepted format.Certificate input _ text answers good = absurd answers
as-done law length dossier accepted format.Dossier input Done text answers good = refl
as-done law length dossier accepted format.Dossier input Refused text answers good = line-done dossier accepted input Refused text answers good
as-done law length dossier accepted format.Dossier input _ text answers good = absurd answers
as-done law length dossier accepted format.Length input Done text answers good = refl
as-done law length dossier accepted format.Length input Refused text answers good = shown-done length input Refused text answers good
as-done law length dossier accepted format.Length input _ text answers good = absurd answers

pub explain-done : OneAnswer → OneLength → OneDossier → AcceptedAreDossiers → (input : List ℕ) (ending : Status) (text : List ℕ) → AnswersExplain input ending text → IsProof input → ending ≡ Done
explain-done law length dossier accepted input ending text answers good = as-done law length dossier accepted (format_of input) input ending text answers (as-named input good)

-- what is explained proves what it says
as-proof : (f : ProofFormat) (input text : List ℕ) → AnswersAsFormat f input Done text → IsProof input
as-proof format.Certificate input text answers = inl (answers.0, answers.1, answers.2)
as-proof format.Dossier input text answers = inr (inl (answers.0, answers.1, dossier_of input answers.0 answers.1 answers.2 answers.3))
as-proof format.Length input text answers = inr (inr (answers.0, answers.1, answers.2))

pub done-proof : (input text : List ℕ) → AnswersExplain input Done text → IsProof input
done-proof input text answers = as-proof (format_of input) input text answers

-- and what it says holds of every game
proof-holds : CertificatesProve → DossiersProve → ShownHold → (input : List ℕ) → IsProof input → ProvesTrue input
proof-holds certs dossiers lengths input (inl some) = inl (some.0, some.1, certs some.0 some.2)
proof-holds certs dossiers lengths input (inr (inl some)) = inr (inl (some.0, some.1, some.2, dossiers input some.0 some.1 some.2))
proof-holds certs dossiers lengths input (inr (inr some)) = inr (inr (some.0, some.1, lengths some.0 some.2))

pub done-holds : CertificatesProve → DossiersProve → ShownHold → (input text : List ℕ) → AnswersExplain input Done text → ProvesTrue input
done-holds certs dossiers lengths input text answers = proof-holds certs dossiers lengths input (done-proof input text answers)

-- what is refused proves nothing
pub refused-no_proof : OneAnswer → OneLength → OneDossier → AcceptedAreDossiers → (input text : List ℕ) → AnswersExplain input Refused text → IsProof input → ⊥
refused-no_proof law length dossier accepted input text answers good = let e : Refused ≡ Done = explain-done law length dossier accepted input Refused text answers good in cc
