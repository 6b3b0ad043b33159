use Rattle.std.proofs.Common.{◌≡◌, ap, ◌∙◌, subst, refl}
use Rattle.std.specs.Prelude.{Option}
use Rattle.std.proofs.lemmas.Result.{err_from_is_err_and}
use Rattle.query_base.specs.Asked.{Asked}
use Rattle.query_base.specs.declared.claims.Claim.{Claim}
use Rattle.cert_checker.specs.Answers.{answer_as}
use Rattle.dossier_checker.specs.Remaining.{InPart, Parting, with_first}
use Rattle.dossier_checker.specs.contracts.parts.Parts.{the_view}
use Rattle.dossier_checker.proofs.Stepping.{next_part, refused_part, taken_first}
use Rattle.dossier_checker.proofs.parts.Parts.end_part.Goals as goal

pub returns-in_err-judge-clause-rest : goal.returns-in_err-judge-clause-rest
returns-in_err-judge-clause-rest c =
    let returned = err_from_is_err_and c.from_residual.result c.from_residual.ensures.1 in
    rw (returned.1, returned.2) (λ bytes a e.
    let k : Parting = the_view c.self.inside in
    let none : k.left ≡ 0 = ap (λ (p : Parting). p.left) c.self.view_is ∙ c.requires.ended in
    let due = ap (λ (first : Option (Claim × Asked)). with_first first c.self.inside.others) c.in-Some.is in
    subst (λ (p : Parting). InPart p.due p bytes a) c.self.view_is (refused_part k c.in-Some.due c.self.inside.others (answer_as c.finish.result) bytes a due none c.finish.ensures.rest (c.in_err-judge.ensures.refused a e)))

pub returns-clause-rest : goal.returns-clause-rest
returns-clause-rest c = λ bytes a rest.
    let k : Parting = the_view c.self.inside in
    let none : k.left ≡ 0 = ap (λ (p : Parting). p.left) c.self.view_is ∙ c.requires.ended in
    let empty = ap (λ (p : Parting). p.line) c.self.view_is ∙ c.requires.line in
    let due = ap (λ (first : Option (Claim × Asked)). with_first first c.self.inside.others) c.in-Some.is in
    let later = taken_first c.next-self-inside.result c.self.inside.others c.next-self-inside.new.self c.next-self-inside.ensures in
    subst (λ (p : Parting). InPart p.due p bytes a) c.self.view_is (next_part k c.in-Some.due c.self.inside.others (with_first c.next-self-inside.result c.next-self-inside.new.self) (answer_as c.finish.result) bytes a due later none empty c.finish.ensures.rest (c.in_ok-judge.ensures.due refl) rest)
