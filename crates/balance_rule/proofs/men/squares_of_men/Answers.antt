use Rattle.std.proofs.Common.{◌≡◌, ◌<◌, ◌++◌, ◌∷◌, [], ℕ, length, ap, sym, arith, map-id, rules, ◌∙◌}
use Rattle.std.specs.Prelude.{Option}
use Rattle.board_base.specs.Board.{at, is_of, men_squares}
use Rattle.board_base.specs.declared.men.Man.{Man}
use Rattle.general_lemmas.proofs.Rows.{AreMade-all, AreMade-none, AreMade-skips, AreMade-takes, AreMade-too-many}
use Rattle.balance_rule.proofs.men.squares_of_men.Goals as goal
use Rattle.balance_rule.proofs.men.squares_of_men.Goals.{then-is_of+else-len-eq16, else-is_of}

pub loop-i-init : goal.loop-i-init
loop-i-init c = AreMade-none _ _ _ _ _ c.new-men.ensures

pub returns-then-len-eq16 : goal.returns-then-len-eq16
unfolding men_squares
returns-then-len-eq16 c =
    let test : is_of c.args.side (at c.args.board.now c.loop-i.i) ≡ c.is_of.result =
    ap (λ (s : ℕ). is_of c.args.side (at c.args.board.now s)) (sym c.known.ensures) ∙ ap (λ (m : Option Man). is_of c.args.side m) (sym c.at.ensures.man) ∙ sym c.is_of.ensures in
    AreMade-too-many _ _ _ _ _ _ c.loop-i.invariant c.loop-i-test.true (test ∙ c.if-is_of.true) (sym c.len.ensures.value ∙ c.if-len-eq16.true)

pub loop-i-preserved : goal.loop-i-preserved
loop-i-preserved c =
    let test : is_of c.args.side (at c.args.board.now c.loop-i.i) ≡ c.is_of.result =
    ap (λ (s : ℕ). is_of c.args.side (at c.args.board.now s)) (sym c.known.ensures) ∙ ap (λ (m : Option Man). is_of c.args.side m) (sym c.at.ensures.man) ∙ sym c.is_of.ensures in
    elim c.if-is_of.branch [
      | then-is_of+else-len-eq16 w ↦
          let other : length c.loop-i.men.items ≡ 16 → ⊥ = λ same. w.if-len-eq16.false (w.len.ensures.value ∙ same) in
          let room : length c.loop-i.men.items < 16 = omega (arith, c.loop-i.invariant.size, other) in
          let more : c.if-is_of.men.items ≡ c.loop-i.men.items ++ c.loop-i.i ∷ [] = search rules in
          AreMade-takes _ _ _ _ _ _ _ c.loop-i.invariant c.loop-i-test.true (test ∙ w.if-is_of.true) room more
      | else-is_of w ↦
          let same : c.if-is_of.men.items ≡ c.loop-i.men.items = search rules in
          AreMade-skips _ _ _ _ _ _ _ c.loop-i.invariant c.loop-i-test.true (test ∙ w.if-is_of.false) same
    ]

pub returns : goal.returns
unfolding men_squares
returns c =
    let all = AreMade-all _ _ _ _ _ _ c.loop-i.invariant (omega arith) in
    (all.0, all.1 ∙ map-id _)
