use Rattle.std.proofs.Common.{◌≡◌, ap, sym, ◌∙◌}
use Rattle.board_base.specs.Board.{array_of, home_of}
use Rattle.board_base.specs.declared.men.Colour.{Colour}
use Rattle.ledger_facts.specs.Accounts.{cost_table_if}
use Rattle.ledger_rule.proofs.Touching.{nowhere, one-column}
use Rattle.ledger_rule.proofs.changing.by_home.Goals as goal

pub returns-in-Some : goal.returns-in-Some
returns-in-Some c = λ o p set side is of.
    let there : home_of side c.in-Some.j ≡ c.args.k = ap (λ (d : Colour). home_of d c.in-Some.j) (sym is.side) ∙ c.in-Some.ensures.1 in
    c.cost_with_column.ensures (cost_table_if c.args.supposition.now p set side (array_of o) c.args.board.now)
    (one-column o c.args.board.now p set side c.args.side.now c.args.table.now is c.requires.table c.args.supposition.now c.args.k c.in-Some.j c.column_if-column.result of there (c.column_if-column.ensures o p set side is))

pub returns-in-None : goal.returns-in-None
returns-in-None c = λ o p set side is of.
    c.unchanged.ensures (cost_table_if c.args.supposition.now p set side (array_of o) c.args.board.now)
    (nowhere o c.args.board.now p set side c.args.side.now c.args.table.now is c.requires.table c.args.supposition.now c.args.k of (λ j inside same. c.in-None.ensures j inside (ap (λ (d : Colour). home_of d j) is.side ∙ same)))
