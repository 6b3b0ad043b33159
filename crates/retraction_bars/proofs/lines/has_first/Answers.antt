use Rattle.std.proofs.Common.{sym, ◌∙◌, arith, refl}
use Rattle.general_lemmas.proofs.Ranges.{any_step, any_stop, any_end}
use Rattle.retraction_bars.specs.Lines.{has_first, is_first}
use Rattle.retraction_bars.proofs.lines.has_first.Goals as goal

pub loop-i-init : goal.loop-i-init
unfolding has_first
loop-i-init c = refl

pub returns-then-is_first : goal.returns-then-is_first
returns-then-is_first c =
    let found = rw c.known.ensures at (sym c.is_first.ensures ∙ c.if-is_first.true) in
    any_stop (is_first c.args.query.now) c.loop-i.i 64 _ c.loop-i-test.true found c.loop-i.invariant

pub loop-i-preserved : goal.loop-i-preserved
loop-i-preserved c =
    let none = rw c.known.ensures at (sym c.is_first.ensures ∙ c.if-is_first.false) in
    any_step (is_first c.args.query.now) c.loop-i.i 64 _ c.loop-i-test.true none c.loop-i.invariant

pub returns : goal.returns
returns c = any_end (is_first c.args.query.now) c.loop-i.i 64 _ (omega arith) c.loop-i.invariant
