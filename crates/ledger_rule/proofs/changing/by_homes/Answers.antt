use Rattle.std.proofs.Common.{◌≡◌, ◌<◌, ℕ, List, length, slice_index, refl, ap, sym, ◌∙◌, arith, cond, not}
use Rattle.board_base.specs.Board.{array_of, at, home_of, is_in}
use Rattle.board_base.specs.declared.men.Colour.{Colour}
use Rattle.balance_rule.specs.Costs.{never}
use Rattle.ledger_facts.specs.Accounts.{cost_table_if}
use Rattle.ledger_facts.specs.declared.suppositions.Supposition.TheVariants.{Began}
use Rattle.assignment.specs.Tables.{cost_at}
use Rattle.ledger_rule.proofs.Touching.{began-cell, nobody, one-row, plain-cell}
use Rattle.ledger_rule.proofs.changing.by_homes.Goals as goal

pub returns-in-Some : goal.returns-in-Some
returns-in-Some c = λ o p set side is.
    let s = c.args.side.now in
    let t = c.args.table.now in
    let board = c.args.board.now in
    let i = c.in-Some.i in
    let men = c.as_slice.ensures.value in
    let low : i < length (s.men.items) = omega (arith, c.in-Some.ensures.0, ap (λ (l : List ℕ). length l) men) in
    let there : slice_index (s.men.items) i ≡ c.args.t = ap (λ (l : List ℕ). slice_index l i) (sym men) ∙ c.in-Some.ensures.1 in
    c.cost_with_row.ensures (cost_table_if (Began c.args.t c.args.homes) p set side (array_of o) board)
    (one-row o board p set side s t is c.requires.table (Began c.args.t c.args.homes) c.args.t i c.began_row-row.result refl low there (λ j inside.
    began-cell c.args.t c.args.homes p set side (at (array_of o) (home_of side j)) (home_of side j) (at board c.args.t) (slice_index c.began_row-row.result j) (cost_at t.rows i j)
    (c.began_row-row.ensures j inside ∙ ap (λ (d : Colour). cond (not (is_in c.args.homes (home_of d j))) never (cost_at t.rows i j)) is.side)
    (plain-cell o board p set side s t is c.requires.table (Began c.args.t c.args.homes) i c.args.t j low there inside)))

pub returns-in-None : goal.returns-in-None
returns-in-None c = λ o p set side is.
    let men = c.as_slice.ensures.value in
    c.unchanged.ensures (cost_table_if (Began c.args.t c.args.homes) p set side (array_of o) c.args.board.now)
    (nobody o c.args.board.now p set side c.args.side.now c.args.table.now is c.requires.table (Began c.args.t c.args.homes) c.args.t refl (λ i low there. c.in-None.ensures i (omega (arith, low, ap (λ (l : List ℕ). length l) men)) (ap (λ (l : List ℕ). slice_index l i) men ∙ there)))
