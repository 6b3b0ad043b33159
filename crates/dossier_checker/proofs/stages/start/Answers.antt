use Rattle.std.proofs.Common.{ℕ, List, ◌++◌, subst}
use Rattle.dossier_checker.specs.DossierAnswers.{AnswersDossier}
use Rattle.dossier_checker.proofs.stages.start.Goals as goal

pub returns : goal.returns
returns c = record {
  told = tt;
  answers = λ others a rest. subst (λ (front : List ℕ). AnswersDossier (front ++ others) a) c.new.ensures rest;
}
