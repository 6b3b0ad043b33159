use Rattle.std.proofs.Common.{◌≡◌, ◌<◌, ℕ, Bool, List, length, slice_index, ap, sym, ◌∙◌, arith}
use Rattle.board_base.specs.Board.{array_of}
use Rattle.board_base.specs.declared.men.Colour.{Colour}
use Rattle.ledger_facts.specs.Accounts.{cost_table_if, stand_row_if}
use Rattle.ledger_rule.proofs.Touching.{nobody, one-row, row-cells}
use Rattle.ledger_rule.proofs.changing.by_man.Goals as goal

pub returns-in-Some : goal.returns-in-Some
returns-in-Some c = λ o p set side is of.
    let s = c.args.side.now in
    let board = c.args.board.now in
    let x = c.args.supposition.now in
    let i = c.in-Some.i in
    let men = c.as_slice.ensures.value in
    let low : i < length (s.men.items) = omega (arith, c.in-Some.ensures.0, ap (λ (l : List ℕ). length l) men) in
    let there : slice_index (s.men.items) i ≡ c.args.t = ap (λ (l : List ℕ). slice_index l i) (sym men) ∙ c.in-Some.ensures.1 in
    let row : c.stand_row-row.result ≡ stand_row_if x p set side (array_of o) board c.args.t =
    c.stand_row-row.ensures.value o p is.ground ∙ ap (λ (l : List Bool). stand_row_if x p l s.ground.side (array_of o) board c.args.t) is.beside ∙ ap (λ (d : Colour). stand_row_if x p set d (array_of o) board c.args.t) is.side in
    c.cost_with_row.ensures (cost_table_if x p set side (array_of o) board)
    (one-row o board p set side s c.args.table.now is c.requires.table x c.args.t i c.stand_row-row.result of low there (λ j inside. row-cells x p set side (array_of o) board c.args.t j c.stand_row-row.result row inside))

pub returns-in-None : goal.returns-in-None
returns-in-None c = λ o p set side is of.
    let men = c.as_slice.ensures.value in
    c.unchanged.ensures (cost_table_if c.args.supposition.now p set side (array_of o) c.args.board.now)
    (nobody o c.args.board.now p set side c.args.side.now c.args.table.now is c.requires.table c.args.supposition.now c.args.t of (λ i low there. c.in-None.ensures i (omega (arith, low, ap (λ (l : List ℕ). length l) men)) (ap (λ (l : List ℕ). slice_index l i) men ∙ there)))
