use Rattle.std.proofs.Common.{ap, ◌∙◌}
use Rattle.men_account.specs.Account.{is_any}
use Rattle.men_account.specs.Homes.{men_of}
use Rattle.cage_rules.specs.Refuted.{is_spent}
use Rattle.static_rules.proofs.Left.{left-men}
use Rattle.static_rules.proofs.living_homes.spent_of.Goals as goal

pub returns-clause-number : goal.returns-clause-number
returns-clause-number c = c.men_of.ensures.number ∙ ap (men_of c.args.side is_any) c.spent.ensures ∙ left-men c.args.side (is_spent c.args.board.now c.args.set) c.args.first.now
