use Rattle.std.proofs.Common.{arith, refl}
use Rattle.general_lemmas.proofs.Ranges.{kept_end, kept_step}
use Rattle.unmove_gen.specs.Listed.{unmoves_between}
use Rattle.retraction_bars.specs.Ways.{is_way}
use Rattle.retraction_bars.proofs.ways.ways_to.Goals as goal

pub loop-i-init : goal.loop-i-init
loop-i-init c = rw c.new-ways.ensures.items refl

pub loop-i-preserved : goal.loop-i-preserved
loop-i-preserved c =
    rw (rw c.known.ensures at c.in_ok-push_ways_between.ensures)
    (kept_step (unmoves_between c.args.to) (is_way c.args.query.now) c.loop-i.i 64 _ _ c.loop-i-test.true c.loop-i.invariant)

pub returns : goal.returns
returns c = kept_end (unmoves_between c.args.to) (is_way c.args.query.now) c.loop-i.i 64 _ _ (omega arith) c.loop-i.invariant
