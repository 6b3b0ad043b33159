use Rattle.std.proofs.Common.{◌≡◌, ℕ, ◌<◌, length, sym, ap, ◌∙◌, arith, map-id, inl, inr}
use Rattle.std.specs.Prelude.{Option}
use Rattle.std.proofs.lemmas.Bool.{cases_lt}
use Rattle.board_base.specs.Board.{at, is_the}
use Rattle.board_base.specs.declared.men.Kind.TheVariants.{Pawn}
use Rattle.board_base.specs.declared.men.Man.{Man}
use Rattle.general_lemmas.proofs.Rows.{AreMade-none, AreMade-takes, AreMade-skips, AreMade-too-many, AreMade-all}
use Rattle.pawn_assign.specs.PawnCosts.{pawn_squares}
use Rattle.proof_sentences.proofs.pawns.pawn_squares.Goals as goal
use Rattle.proof_sentences.proofs.pawns.pawn_squares.Goals.{then-is_the, else-is_the}

pub loop-i-init : goal.loop-i-init
loop-i-init c = AreMade-none _ _ _ _ _ c.new-squares.ensures

pub push-requires : goal.push-requires
unfolding pawn_squares
push-requires c =
    let test : is_the c.args.side Pawn (at c.args.board.now c.loop-i.i) ≡ c.is_the.result =
    ap (λ (s : ℕ). is_the c.args.side Pawn (at c.args.board.now s)) (sym c.known.ensures) ∙ ap (λ (m : Option Man). is_the c.args.side Pawn m) (sym c.at.ensures.man) ∙ sym c.is_the.ensures in
    let size = c.loop-i.invariant.size in
    let room : length c.loop-i.squares.items < 8 = elim (cases_lt (length c.loop-i.squares.items) 8) [
      | inl lt ↦ omega arith
      | inr past ↦ absurd (AreMade-too-many _ _ _ _ _ _ c.loop-i.invariant c.loop-i-test.true (test ∙ c.if-is_the.true) (omega arith) c.requires)
    ] in
    (omega arith, room)

pub loop-i-preserved : goal.loop-i-preserved
unfolding pawn_squares
loop-i-preserved c =
    let test : is_the c.args.side Pawn (at c.args.board.now c.loop-i.i) ≡ c.is_the.result =
    ap (λ (s : ℕ). is_the c.args.side Pawn (at c.args.board.now s)) (sym c.known.ensures) ∙ ap (λ (m : Option Man). is_the c.args.side Pawn m) (sym c.at.ensures.man) ∙ sym c.is_the.ensures in
    let size = c.loop-i.invariant.size in
    elim c.if-is_the.branch [
      | then-is_the w ↦
          let room : length c.loop-i.squares.items < 8 = elim (cases_lt (length c.loop-i.squares.items) 8) [
            | inl lt ↦ omega arith
            | inr past ↦ absurd (AreMade-too-many _ _ _ _ _ _ c.loop-i.invariant c.loop-i-test.true (test ∙ w.if-is_the.true) (omega arith) c.requires)
          ] in
          AreMade-takes _ _ _ _ _ _ _ c.loop-i.invariant c.loop-i-test.true (test ∙ w.if-is_the.true) room
          (ap (λ v. v.items) w.squares-is ∙ w.push.ensures.items)
      | else-is_the w ↦ AreMade-skips _ _ _ _ _ _ _ c.loop-i.invariant c.loop-i-test.true (test ∙ w.if-is_the.false) (ap (λ v. v.items) w.squares-is)
    ]

pub returns : goal.returns
unfolding pawn_squares
returns c = (AreMade-all _ _ _ _ _ _ c.loop-i.invariant (omega arith)).1 ∙ map-id _
