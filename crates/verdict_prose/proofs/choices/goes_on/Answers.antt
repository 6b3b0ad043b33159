use Rattle.std.proofs.Common.{sym, ap, ◌+◌, ◌∷◌, drop, ◌∙◌, List}
use Rattle.board_base.specs.declared.unmoves.Unmove.{Unmove}
use Rattle.verdict_prose.specs.Choices.{goes_on}
use Rattle.verdict_prose.proofs.OneAfterAnother.{goes_on-none, left-at}
use Rattle.verdict_prose.proofs.choices.goes_on.Goals as goal

pub returns-in-None : goal.returns-in-None
returns-in-None c = sym (goes_on-none c.args.u.now c.args.moves.now c.args.place (sym c.get.ensures ∙ c.in-None.is))

pub returns-in-Some : goal.returns-in-Some
returns-in-Some c =
    c.is_again.ensures ∙ sym (ap (λ (l : List Unmove). goes_on c.args.u.now l) (left-at c.args.moves.now c.args.place c.in-Some.v (sym c.get.ensures ∙ c.in-Some.is)))
