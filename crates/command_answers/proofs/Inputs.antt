-- What `check`, `atleast` and `line` answer of all bytes that were left, and what they tell.
use Rattle.std.proofs.Common.{ℕ, List}
use Rattle.std.specs.Prelude.{Option}
use Rattle.cert_text.specs.Lines.{cut}
use Rattle.cert_text.specs.Certificate.{Lines}
use Rattle.cert_checker.specs.Answers.{Answer, Answers}
use Rattle.cert_checker.specs.Remains.{AnswersAll}
use Rattle.length_bound.specs.LengthAnswers.{AnswersBytes, LengthAnswer}
use Rattle.dossier_checker.specs.DossierAnswers.{DossierAnswer}
use Rattle.dossier_checker.specs.DossierReading.{AnswersDossierAll}
use Rattle.command_answers.specs.Inputs.{ReadsAll}
use Rattle.command_answers.specs.AtLeasts.{AnswersAtLeast, TellsBound}
use Rattle.command_answers.specs.Lines.{AnswersLine, TellsDossier}
use Rattle.command_answers.specs.Checks.{AnswersCheck, Tells}
use Rattle.command_answers.specs.declared.statuses.Status.{Status}

pub told : (limit : ℕ) (old new : Option (List ℕ)) (answer : Answer) (ending : Status) (text : List ℕ) → AnswersAll limit old new answer → ((lines : Lines) → Answers lines answer → Tells lines answer ending text) → ReadsAll limit old new (λ input. AnswersCheck input ending text)
told limit old new answer ending text all tells =
    (all.bytes, all.read, all.ended, all.fits, (answer, all.answers, tells (cut all.bytes) all.answers))

pub bound_told : (limit : ℕ) (old new : Option (List ℕ)) (answer : LengthAnswer) (ending : Status) (text : List ℕ) → AnswersBytes limit old new answer → TellsBound answer ending text → ReadsAll limit old new (λ input. AnswersAtLeast input ending text)
bound_told limit old new answer ending text all tells = (all.bytes, all.read, all.ended, all.fits, (answer, all.answers, tells))

pub dossier_told : (limit : ℕ) (old new : Option (List ℕ)) (answer : DossierAnswer) (ending : Status) (text : List ℕ) → AnswersDossierAll limit old new answer → TellsDossier answer ending text → ReadsAll limit old new (λ input. AnswersLine input ending text)
dossier_told limit old new answer ending text all tells = (all.bytes, all.read, all.ended, all.fits, (answer, all.answers, tells))
