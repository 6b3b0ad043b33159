use Rattle.std.proofs.Common.{◌≡◌, ℕ, ◌<◌, List, [], ◌∷◌, ◌++◌, length, sym, ap, ◌∙◌, arith, rules}
use Rattle.std.specs.Prelude.{Option}
use Rattle.std.proofs.lemmas.Bool.{eqb-false}
use Rattle.board_base.specs.Board.{at, is_of, men_squares}
use Rattle.board_base.specs.declared.men.Man.{Man}
use Rattle.assignment.proofs.Tables.{IsTable-more}
use Rattle.general_lemmas.proofs.Rows.{AreMade-none, AreMade-takes, AreMade-skips, AreMade-too-many, AreMade-all}
use Rattle.length_bound.specs.SideBounds.{man_row, move_costs}
use Rattle.length_bound.proofs.rows.costs.Goals as goal
use Rattle.length_bound.proofs.rows.costs.Goals.{then-is_of+else-is_full, else-is_of}

pub loop-i-init : goal.loop-i-init
loop-i-init c = record {
  made = AreMade-none _ _ _ _ _ c.new-costs.ensures;
  table = search rules;
}

pub returns-then-is_full-clause-items : goal.returns-then-is_full-clause-items
unfolding men_squares
returns-then-is_full-clause-items c =
    let test : is_of c.args.side (at c.args.board.now c.loop-i.i) ≡ c.is_of.result =
    ap (λ (s : ℕ). is_of c.args.side (at c.args.board.now s)) (sym c.known-s.ensures) ∙ ap (λ (m : Option Man). is_of c.args.side m) (sym c.at-place.ensures.man) ∙ sym c.is_of.ensures in
    let full : length c.loop-i.costs.items ≡ 16 = search rules in
    AreMade-too-many _ _ _ _ _ _ c.loop-i.invariant.made c.loop-i-test.true (test ∙ c.if-is_of.true) full

pub loop-i-preserved : goal.loop-i-preserved
loop-i-preserved c =
    let test : is_of c.args.side (at c.args.board.now c.loop-i.i) ≡ c.is_of.result =
    ap (λ (s : ℕ). is_of c.args.side (at c.args.board.now s)) (sym c.known-s.ensures) ∙ ap (λ (m : Option Man). is_of c.args.side m) (sym c.at-place.ensures.man) ∙ sym c.is_of.ensures in
    let size = c.loop-i.invariant.made.size in
    elim c.if-is_of.branch [
      | then-is_of+else-is_full w ↦
          let other : length c.loop-i.costs.items ≡ 16 → ⊥ = eqb-false (length c.loop-i.costs.items) 16 (sym w.is_full.ensures.value ∙ w.if-is_full.false) in
          let room : length c.loop-i.costs.items < 16 = omega arith in
          let row : w.man_row.result ≡ man_row c.args.odds c.args.side (at c.args.board.now c.loop-i.i) c.loop-i.i =
          w.man_row.ensures.value ∙ ap (λ (p : Option Man). man_row c.args.odds c.args.side p c.known-s.result) c.at-place.ensures.man ∙ ap (λ (s : ℕ). man_row c.args.odds c.args.side (at c.args.board.now s) s) c.known-s.ensures in
          let more : c.if-is_of.costs.items ≡ c.loop-i.costs.items ++ w.man_row.result ∷ [] = search rules in
          record {
            made = AreMade-takes _ _ _ _ _ _ _ c.loop-i.invariant.made c.loop-i-test.true (test ∙ w.if-is_of.true) room (more ∙ ap (λ (r : List ℕ). c.loop-i.costs.items ++ r ∷ []) row);
            table = IsTable-more _ _ _ 16 64 c.loop-i.invariant.table room w.man_row.ensures.small more;
          }
      | else-is_of w ↦ record {
        made = AreMade-skips _ _ _ _ _ _ _ c.loop-i.invariant.made c.loop-i-test.true (test ∙ w.if-is_of.false) (search rules);
        table = search rules;
      }
    ]

pub returns-clause-items : goal.returns-clause-items
unfolding men_squares move_costs
returns-clause-items c = AreMade-all _ _ _ _ _ _ c.loop-i.invariant.made (omega arith)
