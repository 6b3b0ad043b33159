use Rattle.std.proofs.Common.{◌≡◌, ℕ, ◌<◌, length, sym, ap, ◌∙◌, arith, map-id, inl, inr}
use Rattle.std.specs.Prelude.{Option}
use Rattle.std.proofs.lemmas.Bool.{cases_lt}
use Rattle.board_base.specs.Board.{at, is_of, men_squares}
use Rattle.board_base.specs.declared.men.Man.{Man}
use Rattle.general_lemmas.proofs.Rows.{AreMade-none, AreMade-takes, AreMade-skips, AreMade-too-many, AreMade-all}
use Rattle.balance_prose.proofs.making.squares_of_men.Goals as goal
use Rattle.balance_prose.proofs.making.squares_of_men.Goals.{then-is_of, else-is_of}

pub loop-i-init : goal.loop-i-init
loop-i-init c = AreMade-none _ _ _ _ _ c.new-men.ensures

pub push-requires : goal.push-requires
unfolding men_squares
push-requires c =
    let test : is_of c.args.side (at c.args.board.now c.loop-i.i) ≡ c.is_of.result =
    ap (λ (s : ℕ). is_of c.args.side (at c.args.board.now s)) (sym c.known.ensures) ∙ ap (λ (m : Option Man). is_of c.args.side m) (sym c.at.ensures.man) ∙ sym c.is_of.ensures in
    let size = c.loop-i.invariant.size in
    let room : length c.loop-i.men.items < 16 = elim (cases_lt (length c.loop-i.men.items) 16) [
      | inl lt ↦ omega arith
      | inr past ↦ absurd (AreMade-too-many _ _ _ _ _ _ c.loop-i.invariant c.loop-i-test.true (test ∙ c.if-is_of.true) (omega arith) c.requires)
    ] in
    (omega arith, room)

pub loop-i-preserved : goal.loop-i-preserved
unfolding men_squares
loop-i-preserved c =
    let test : is_of c.args.side (at c.args.board.now c.loop-i.i) ≡ c.is_of.result =
    ap (λ (s : ℕ). is_of c.args.side (at c.args.board.now s)) (sym c.known.ensures) ∙ ap (λ (m : Option Man). is_of c.args.side m) (sym c.at.ensures.man) ∙ sym c.is_of.ensures in
    let size = c.loop-i.invariant.size in
    elim c.if-is_of.branch [
      | then-is_of w ↦
          let room : length c.loop-i.men.items < 16 = elim (cases_lt (length c.loop-i.men.items) 16) [
            | inl lt ↦ omega arith
            | inr past ↦ absurd (AreMade-too-many _ _ _ _ _ _ c.loop-i.invariant c.loop-i-test.true (test ∙ w.if-is_of.true) (omega arith) c.requires)
          ] in
          AreMade-takes _ _ _ _ _ _ _ c.loop-i.invariant c.loop-i-test.true (test ∙ w.if-is_of.true) room
          (ap (λ v. v.items) w.men-is ∙ w.push.ensures.items)
      | else-is_of w ↦ AreMade-skips _ _ _ _ _ _ _ c.loop-i.invariant c.loop-i-test.true (test ∙ w.if-is_of.false) (ap (λ v. v.items) w.men-is)
    ]

pub returns : goal.returns
unfolding men_squares
returns c = (AreMade-all _ _ _ _ _ _ c.loop-i.invariant (omega arith)).1 ∙ map-id _
