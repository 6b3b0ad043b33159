use Rattle.std.proofs.Common.{◌++◌, ℕ, List, refl, subst}
use Rattle.cert_text.specs.Lines.{cut}
use Rattle.cert_checker.specs.Stages.{Rest, Stage, heading}
use Rattle.cert_checker.proofs.Answering.{rest_answers}
use Rattle.cert_checker.proofs.checkers.Checker.new.Goals as goal

pub returns : goal.returns
returns c = record {
  fed = refl;
  answers = λ others a rest. rest_answers (cut others) a (subst (λ (g : List ℕ). Rest heading 1 (cut (g ++ others)) a) c.new-2.ensures (subst (λ (s : Stage). Rest s 1 (cut (c.new-2.result.items ++ others)) a) c.new.ensures rest));
}
