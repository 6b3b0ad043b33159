use Rattle.std.proofs.Common.{sym, ◌∙◌, arith, refl}
use Rattle.general_lemmas.proofs.Ranges.{all_step}
use Rattle.retraction_bars.specs.Pairs.{is_twice, is_twice_at}
use Rattle.retraction_bars.proofs.FirstBars.{all_over}
use Rattle.retraction_bars.proofs.pairs.is_twice.Goals as goal

pub loop-i-init : goal.loop-i-init
unfolding is_twice
loop-i-init c = refl

pub loop-i-preserved : goal.loop-i-preserved
loop-i-preserved c =
    let here = rw c.known.ensures at (sym c.in_ok-is_twice_at.ensures ∙ c.if-not-branch.false) in
    all_step (is_twice_at c.args.query.now c.args.a c.args.b) c.loop-i.i 64 _ c.loop-i-test.true here c.loop-i.invariant

pub returns : goal.returns
returns c = all_over (is_twice_at c.args.query.now c.args.a c.args.b) c.loop-i.i 64 _ (omega arith) c.loop-i.invariant
