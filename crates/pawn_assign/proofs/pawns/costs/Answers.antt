use Rattle.std.proofs.Common.{◌≡◌, ℕ, List, [], ◌∷◌, ◌++◌, length, sym, ap, ◌∙◌, arith}
use Rattle.std.specs.Prelude.{Option}
use Rattle.board_base.specs.Board.{at, is_the}
use Rattle.board_base.specs.declared.men.Kind.TheVariants.{Pawn}
use Rattle.board_base.specs.declared.men.Man.{Man}
use Rattle.general_lemmas.proofs.Rows.{AreMade-none, AreMade-takes, AreMade-skips, AreMade-too-many, AreMade-all}
use Rattle.pawn_assign.specs.PawnCosts.{pawn_row, pawn_squares}
use Rattle.pawn_assign.proofs.pawns.costs.Goals as goal
use Rattle.pawn_assign.proofs.pawns.costs.Goals.{then-is_the+else-rows-eq8, else-is_the}

pub loop-i-init : goal.loop-i-init
loop-i-init c = AreMade-none _ _ _ _ _ c.new-costs.ensures

pub returns-then-rows-eq8 : goal.returns-then-rows-eq8
unfolding pawn_squares
returns-then-rows-eq8 c =
    let test : is_the c.args.side Pawn (at c.args.board.now c.loop-i.i) ≡ c.is_the.result =
    ap (λ (s : ℕ). is_the c.args.side Pawn (at c.args.board.now s)) (sym c.known-s.ensures) ∙ ap (λ (m : Option Man). is_the c.args.side Pawn m) (sym c.at.ensures.man) ∙ sym c.is_the.ensures in
    AreMade-too-many _ _ _ _ _ _ c.loop-i.invariant c.loop-i-test.true (test ∙ c.if-is_the.true) (omega arith)

pub loop-i-preserved : goal.loop-i-preserved
loop-i-preserved c =
    let test : is_the c.args.side Pawn (at c.args.board.now c.loop-i.i) ≡ c.is_the.result =
    ap (λ (s : ℕ). is_the c.args.side Pawn (at c.args.board.now s)) (sym c.known-s.ensures) ∙ ap (λ (m : Option Man). is_the c.args.side Pawn m) (sym c.at.ensures.man) ∙ sym c.is_the.ensures in
    let size = c.loop-i.invariant.size in
    elim c.if-is_the.branch [
      | then-is_the+else-rows-eq8 w ↦
          let other : length c.loop-i.costs ≡ 8 → ⊥ = λ e. w.if-rows-eq8.false (w.rows.ensures.value ∙ e) in
          AreMade-takes _ _ _ _ _ _ _ c.loop-i.invariant c.loop-i-test.true (test ∙ w.if-is_the.true) (omega arith)
          (w.costs-is ∙ w.push.ensures ∙ ap (λ (row : List ℕ). c.loop-i.costs ++ row ∷ []) (w.pawn_row.ensures.value ∙ ap (pawn_row c.args.odds c.args.side) c.known-s.ensures))
      | else-is_the w ↦ AreMade-skips _ _ _ _ _ _ _ c.loop-i.invariant c.loop-i-test.true (test ∙ w.if-is_the.false) w.costs-is
    ]

pub returns : goal.returns
unfolding pawn_squares
returns c = AreMade-all _ _ _ _ _ _ c.loop-i.invariant (omega arith)
