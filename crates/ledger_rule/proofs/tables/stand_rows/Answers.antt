use Rattle.std.proofs.Common.{◌≡◌, ◌<◌, ◌++◌, ◌∷◌, [], ℕ, List, length, length-append, ap, sym, subst, arith, rules, ◌+◌, ◌∙◌}
use Rattle.std.specs.Prelude.{Option}
use Rattle.board_base.specs.Board.{array_of, at, is_of, men_squares}
use Rattle.board_base.specs.declared.men.Man.{Man}
use Rattle.assignment.specs.Tables.{IsTable}
use Rattle.balance_rule.specs.Costs.{never}
use Rattle.general_lemmas.proofs.Rows.{AreMade-all, AreMade-none, AreMade-skips, AreMade-takes, AreMade-too-many}
use Rattle.ledger_facts.specs.Accounts.{stand_row_if}
use Rattle.balance_rule.proofs.Rowed.{table-none}
use Rattle.assignment.proofs.Tables.{IsTable-more}
use Rattle.ledger_rule.proofs.tables.stand_rows.Goals as goal
use Rattle.ledger_rule.proofs.tables.stand_rows.Goals.{then-is_of+else-len-begun, else-is_of}

pub loop-i-init : goal.loop-i-init
loop-i-init c = record {
  size = omega (arith, ap (λ (l : List (List ℕ)). length l) c.new-rows.ensures);
  table = table-none c.new-rows.result.items c.new-rows.ensures;
  made = λ o p ground. AreMade-none _ _ _ _ _ c.new-rows.ensures;
}

pub returns-then-len-begun-clause-items : goal.returns-then-len-begun-clause-items
unfolding men_squares
returns-then-len-begun-clause-items c =
    let test : is_of c.args.ground.now.side (at c.args.board.now c.loop-i.i) ≡ c.is_of.result =
    ap (λ (s : ℕ). is_of c.args.ground.now.side (at c.args.board.now s)) (sym c.known-s.ensures) ∙ ap (λ (m : Option Man). is_of c.args.ground.now.side m) (sym c.at.ensures.man) ∙ sym c.is_of.ensures in
    λ o p ground. AreMade-too-many _ _ _ _ _ _ (c.loop-i.invariant.made o p ground) c.loop-i-test.true (test ∙ c.if-is_of.true) (sym c.len.ensures.value ∙ c.if-len-begun.true)

pub loop-i-preserved : goal.loop-i-preserved
loop-i-preserved c =
    let test : is_of c.args.ground.now.side (at c.args.board.now c.loop-i.i) ≡ c.is_of.result =
    ap (λ (s : ℕ). is_of c.args.ground.now.side (at c.args.board.now s)) (sym c.known-s.ensures) ∙ ap (λ (m : Option Man). is_of c.args.ground.now.side m) (sym c.at.ensures.man) ∙ sym c.is_of.ensures in
    elim c.if-is_of.branch [
      | then-is_of+else-len-begun w ↦
          let other : length c.loop-i.rows.items ≡ c.args.begun → ⊥ = λ same. w.if-len-begun.false (w.len.ensures.value ∙ same) in
          let room : length c.loop-i.rows.items < c.args.begun = omega (arith, c.loop-i.invariant.size, other) in
          let more : c.if-is_of.rows.items ≡ c.loop-i.rows.items ++ w.stand_row.result ∷ [] = search rules in
          let size : length c.if-is_of.rows.items ≡ length c.loop-i.rows.items + 1 = ap (λ (l : List (List ℕ)). length l) more ∙ length-append c.loop-i.rows.items (w.stand_row.result ∷ []) in
          record {
            size = omega (arith, size, room);
            table = IsTable-more c.loop-i.rows.items c.if-is_of.rows.items w.stand_row.result 16 never c.loop-i.invariant.table (omega (arith, room, c.requires)) w.stand_row.ensures.small more;
            made = λ o p ground.
                let row = w.stand_row.ensures.value o p ground ∙ ap (stand_row_if c.args.supposition.now p c.args.ground.now.frozen c.args.ground.now.side (array_of o) c.args.board.now) c.known-s.ensures in
                AreMade-takes _ _ _ _ _ _ _ (c.loop-i.invariant.made o p ground) c.loop-i-test.true (test ∙ w.if-is_of.true) room (more ∙ ap (λ (r : List ℕ). c.loop-i.rows.items ++ r ∷ []) row);
          }
      | else-is_of w ↦
          let same : c.if-is_of.rows.items ≡ c.loop-i.rows.items = search rules in
          record {
            size = omega (arith, ap (λ (l : List (List ℕ)). length l) same, c.loop-i.invariant.size);
            table = subst (λ (t : List (List ℕ)). IsTable t 16 never) (sym same) c.loop-i.invariant.table;
            made = λ o p ground. AreMade-skips _ _ _ _ _ _ _ (c.loop-i.invariant.made o p ground) c.loop-i-test.true (test ∙ w.if-is_of.false) same;
          }
    ]

pub returns-clause-items : goal.returns-clause-items
unfolding men_squares
returns-clause-items c = λ o p ground. AreMade-all _ _ _ _ _ _ (c.loop-i.invariant.made o p ground) (omega arith)
