use Rattle.std.proofs.Common.{◌&&◌, sym, ◌∙◌, arith, refl}
use Rattle.general_lemmas.proofs.Ranges.{any_step, any_stop, any_end}
use Rattle.san_text.specs.Spelling.{any_rival, is_rival, shares}
use Rattle.san_text.proofs.naming.any_rival.Goals as goal

pub loop-i-init : goal.loop-i-init
unfolding any_rival
loop-i-init c = refl

pub returns-then-is_such_rival : goal.returns-then-is_such_rival
returns-then-is_such_rival c =
    let found = rw c.known.ensures at (sym c.is_such_rival.ensures ∙ c.if-is_such_rival.true) in
    any_stop (λ s. shares c.args.shared s c.args.m.now.from && is_rival c.args.state.now c.args.kind c.args.m.now s) c.loop-i.i 64 _ c.loop-i-test.true found c.loop-i.invariant

pub loop-i-preserved : goal.loop-i-preserved
loop-i-preserved c =
    let none = rw c.known.ensures at (sym c.is_such_rival.ensures ∙ c.if-is_such_rival.false) in
    any_step (λ s. shares c.args.shared s c.args.m.now.from && is_rival c.args.state.now c.args.kind c.args.m.now s) c.loop-i.i 64 _ c.loop-i-test.true none c.loop-i.invariant

pub returns : goal.returns
returns c =
    any_end (λ s. shares c.args.shared s c.args.m.now.from && is_rival c.args.state.now c.args.kind c.args.m.now s) c.loop-i.i 64 _ (omega arith) c.loop-i.invariant
