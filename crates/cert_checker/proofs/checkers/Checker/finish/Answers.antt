use Rattle.std.proofs.Common.{rules, [], ℕ, List, subst}
use Rattle.std.proofs.lemmas.List.{append-nil}
use Rattle.cert_text.specs.Lines.{cut}
use Rattle.cert_checker.specs.Answers.{Answers, answer_as}
use Rattle.cert_checker.specs.Remains.{Remains}
use Rattle.cert_checker.proofs.checkers.Checker.finish.Goals as goal

pub returns-clause-answer : goal.returns-clause-answer
returns-clause-answer c = λ bytes stands.
    let rest : Remains c.args.self.now [] (answer_as c.end.result) = search rules in
    subst (λ (l : List ℕ). Answers (cut l) (answer_as c.end.result)) (append-nil bytes) (stands.answers [] (answer_as c.end.result) rest)
