use Rattle.std.proofs.Common.{[], ℕ, List, ◌++◌, refl, subst}
use Rattle.dossier_checker.specs.DossierAnswers.{AnswersDossier}
use Rattle.dossier_checker.specs.DossierReading.{dossier_answer, refused_as}
use Rattle.dossier_checker.specs.Remaining.{PartsRemain}
use Rattle.dossier_checker.specs.StageAnswers.{StageStands}
use Rattle.dossier_checker.specs.declared.stages.Stage.{Stage}
use Rattle.dossier_checker.specs.declared.stages.Stage.TheVariants as at
use Rattle.dossier_checker.proofs.StageFeeding.{stands_ended, told_answers, weaker}
use Rattle.dossier_checker.proofs.stages.finish.Goals as goal

pub returns-in-Ok : goal.returns-in-Ok
returns-in-Ok c = λ bytes stands.
    let before = subst (λ (s : Stage). StageStands s bytes) c.in-Heading.is stands in
    weaker (dossier_answer c.finish.result) (λ a. PartsRemain c.in-Ok.parts [] a) (AnswersDossier bytes) c.finish.ensures (λ a rest.
    stands_ended (at.Heading c.in-Heading.front) bytes a before (subst (λ (front : List ℕ). AnswersDossier (front ++ []) a) c.as_slice.ensures.value (c.in-Ok.ensures.rest [] a (λ few. refl) rest)))

pub returns-in-Err : goal.returns-in-Err
returns-in-Err c = λ bytes stands.
    let before = subst (λ (s : Stage). StageStands s bytes) c.in-Heading.is stands in
    told_answers (refused_as c.in-Err.refused) (AnswersDossier bytes) c.in-Err.ensures.told (λ a e.
    stands_ended (at.Heading c.in-Heading.front) bytes a before (subst (λ (front : List ℕ). AnswersDossier (front ++ []) a) c.as_slice.ensures.value (c.in-Err.ensures.rest [] a (λ few. refl) e)))

pub returns-in-Within : goal.returns-in-Within
returns-in-Within c = λ bytes stands.
    let before = subst (λ (s : Stage). StageStands s bytes) c.in-Within.is stands in
    weaker (dossier_answer c.finish-in-Within.result) (λ a. PartsRemain c.in-Within.parts [] a) (AnswersDossier bytes) c.finish-in-Within.ensures (λ a rest. stands_ended (at.Within c.in-Within.parts) bytes a before rest)

pub returns-in-Refused : goal.returns-in-Refused
returns-in-Refused c = λ bytes stands.
    let before = subst (λ (s : Stage). StageStands s bytes) c.in-Refused.is stands in
    told_answers (refused_as c.in-Refused.refused) (AnswersDossier bytes) before.told (λ a e. stands_ended (at.Refused c.in-Refused.refused) bytes a before e)
