use Rattle.std.proofs.Common.{ap, ◌∙◌, arith}
use Rattle.board_base.specs.declared.men.Colour.{Colour}
use Rattle.ledger_rule.specs.Touched.{dear_cost}
use Rattle.ledger_rule.proofs.Counted.{counts-least}
use Rattle.ledger_rule.proofs.counting.most_count.Goals as goal

pub returns-clause-refuted : goal.returns-clause-refuted
returns-clause-refuted c = λ n some few.
    let cost = c.in-Some.ensures.1 ∙ ap (λ (d : Colour). dear_cost c.args.query.now c.args.account.now d c.args.side c.args.squares) c.other.ensures in
    let both = counts-least c.args.query.now c.args.account.now c.args.side c.args.squares n c.in-Some.cost c.requires c.in-Some.ensures.0 cost in (
      λ less. both.0 (omega (arith, less, c.from.ensures, c.saturating_sub.ensures, c.min-room.ensures)),
      λ it. let above = both.1 it in omega (arith, above, few, c.from.ensures, c.saturating_sub.ensures, c.min-room.ensures),
    )
