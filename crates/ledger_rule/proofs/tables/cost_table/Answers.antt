use Rattle.std.proofs.Common.{◌≡◌, ◌-◌, ◌++◌, ◌∙◌, ℕ, List, length, refl, ap, sym, arith}
use Rattle.std.proofs.lemmas.List.{append-nil}
use Rattle.std.specs.Prelude.{replicate}
use Rattle.arrayvec.specs.ArrayVec.{ArrayVec}
use Rattle.board_base.specs.Board.{array_of}
use Rattle.ledger_facts.specs.Accounts.{gone_row_if}
use Rattle.ledger_rule.proofs.Rowed.{table-made}
use Rattle.ledger_rule.proofs.tables.cost_table.Goals as goal
use Rattle.ledger_rule.proofs.tables.cost_table.Goals.{then-len-begun, else-len-begun}

pub returns-clause-items : goal.returns-clause-items
returns-clause-items c = λ o p ground begun.
    let had = c.in_ok-rows.ensures.items o p ground in (
      had.0,
      elim c.if-len-begun.branch [
        | then-len-begun w ↦
            table-made c.args.supposition.now p c.args.ground.now.frozen c.args.ground.now.side (array_of o) c.args.board.now c.in_ok-rows.rows.items c.if-len-begun.rows.items w.gone_row_if.result c.args.begun begun had.1 (w.gone_row_if.ensures.value o p ground) (ap (λ (r : ArrayVec (List ℕ)). r.items) w.rows-is ∙ w.fill_up.ensures.items)
        | else-len-begun w ↦
            let rows : List (List ℕ) = c.in_ok-rows.rows.items in
            let row : List ℕ = gone_row_if c.args.supposition.now p c.args.ground.now.frozen c.args.ground.now.side (array_of o) in
            let none : c.args.begun - length rows ≡ 0 = omega (arith, c.len.ensures.value, w.if-len-begun.false) in
            table-made c.args.supposition.now p c.args.ground.now.frozen c.args.ground.now.side (array_of o) c.args.board.now rows c.if-len-begun.rows.items row c.args.begun begun had.1 refl
            (ap (λ (r : ArrayVec (List ℕ)). r.items) w.rows-is ∙ sym (ap (λ (n : ℕ). rows ++ replicate n row) none ∙ append-nil rows))
      ],
    )
