-- Inner: no public clause cites this file.
-- What is still answered at a stage.
use Rattle.std.specs.Prelude.{ℕ, ◌≡◌, IsSome, List, ◌++◌, Some}
use Rattle.dossier_checker.specs.DossierAnswers.{DossierAnswer, AnswersDossier}
use Rattle.dossier_checker.specs.DossierReading.{refused_as}
use Rattle.dossier_checker.specs.Remaining.{PartsRemain}
use Rattle.dossier_checker.specs.declared.stages.Stage.{Stage}
use Rattle.dossier_checker.specs.declared.stages.Stage.TheVariants as at

-- what is still answered where these bytes follow and nothing after them
abbrev pub StageRemains : Stage → List ℕ → DossierAnswer → Type 0
StageRemains (at.Heading front) bytes answer = AnswersDossier (front.items ++ bytes) answer
StageRemains (at.Within parts) bytes answer = PartsRemain parts bytes answer
StageRemains (at.Refused r) bytes answer = refused_as r ≡ Some answer

-- a refusal answers something to the bytes
abbrev pub IsTold : Stage → Type 0
IsTold (at.Refused r) = IsSome (refused_as r)
IsTold _ = Unit {0}

-- Whatever follows these bytes, what is still answered is the answer to them and to what follows.
pub record StageStands (stage : Stage) (bytes : List ℕ) : Type 0 where
  pub told : IsTold stage
  pub answers : (others : List ℕ) (answer : DossierAnswer) → StageRemains stage others answer → AnswersDossier (bytes ++ others) answer
