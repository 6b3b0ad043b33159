use Rattle.std.proofs.Common.{sym, ◌∙◌, arith, ap}
use Rattle.general_lemmas.proofs.Ranges.{any_step, any_stop, any_end}
use Rattle.board_base.specs.Board.{at, is_of}
use Rattle.board_base.specs.declared.men.Colour.{Colour}
use Rattle.check_origins.specs.Near.{checks_nearby}
use Rattle.check_origins.proofs.Found.{no-checker}
use Rattle.check_origins.proofs.near.is_near_checker.Goals as goal

pub returns-then-checks_nearby : goal.returns-then-checks_nearby
returns-then-checks_nearby c =
    let found = rw c.known.ensures at (sym c.checks_nearby.ensures ∙ c.if-checks_nearby.true) in
    any_stop (λ k. checks_nearby c.args.board.now c.args.side c.args.s k) c.loop-i.i 64 _ c.loop-i-test.true found c.loop-i.invariant

pub loop-i-preserved : goal.loop-i-preserved
loop-i-preserved c =
    let none = rw c.known.ensures at (sym c.checks_nearby.ensures ∙ c.if-checks_nearby.false) in
    any_step (λ k. checks_nearby c.args.board.now c.args.side c.args.s k) c.loop-i.i 64 _ c.loop-i-test.true none c.loop-i.invariant

pub returns : goal.returns
returns c = any_end (λ k. checks_nearby c.args.board.now c.args.side c.args.s k) c.loop-i.i 64 _ (omega arith) c.loop-i.invariant

pub returns-then-not-is_of : goal.returns-then-not-is_of
returns-then-not-is_of c =
    sym (no-checker c.args.board.now c.args.side c.args.s (ap (λ (d : Colour). is_of d (at c.args.board.now c.args.s)) (sym c.other.ensures) ∙ ap (is_of c.other.result) (sym c.at.ensures.man) ∙ sym c.is_of.ensures ∙ c.if-not-is_of.true))
