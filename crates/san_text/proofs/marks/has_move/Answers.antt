use Rattle.std.proofs.Common.{sym, ◌∙◌, arith, refl}
use Rattle.general_lemmas.proofs.Ranges.{any_step, any_stop, any_end}
use Rattle.san_text.specs.Spelling.{has_move, has_move_from}
use Rattle.san_text.proofs.marks.has_move.Goals as goal

pub loop-i-init : goal.loop-i-init
unfolding has_move
loop-i-init c = refl

pub returns-then-has_move_from : goal.returns-then-has_move_from
returns-then-has_move_from c =
    let found = rw c.known.ensures at (sym c.has_move_from.ensures ∙ c.if-has_move_from.true) in
    any_stop (has_move_from c.args.state.now) c.loop-i.i 64 _ c.loop-i-test.true found c.loop-i.invariant

pub loop-i-preserved : goal.loop-i-preserved
loop-i-preserved c =
    let none = rw c.known.ensures at (sym c.has_move_from.ensures ∙ c.if-has_move_from.false) in
    any_step (has_move_from c.args.state.now) c.loop-i.i 64 _ c.loop-i-test.true none c.loop-i.invariant

pub returns : goal.returns
returns c = any_end (has_move_from c.args.state.now) c.loop-i.i 64 _ (omega arith) c.loop-i.invariant
