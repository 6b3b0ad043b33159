use Rattle.std.proofs.Common.{refl, sym, subst, ◌∙◌, arith}
use Rattle.std.specs.List.{Contains}
use Rattle.verdict_prose.proofs.laws.sentences_agree.Goals as goal

pub returns-clause-shown : goal.returns-clause-shown
returns-clause-shown c = λ q claim shown against. shown against.0 against.1

pub returns-clause-plain : goal.returns-clause-plain
returns-clause-plain c = λ q shown against. shown against.0 against.1

pub returns-clause-one_of : goal.returns-clause-one_of
returns-clause-one_of c = λ q left u was end. subst (Contains left) end.2 (was.among end.0 u.mv end.1)

pub returns-clause-line : goal.returns-clause-line
returns-clause-line c = λ q u v steps were end. sym ((were _ end.1).same end.0 _ v.mv u refl refl) ∙ end.2

pub returns-clause-none : goal.returns-clause-none
returns-clause-none c = λ q left all remain g m reaches.
    let here = remain.among g m reaches in
    omega (arith, here.1, remain.number)
