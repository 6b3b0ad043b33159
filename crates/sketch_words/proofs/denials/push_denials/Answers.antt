use Rattle.std.proofs.Common.{arith}
use Rattle.sketch_words.proofs.Denying.{all-end, all-on}
use Rattle.sketch_words.proofs.denials.push_denials.Goals as goal

pub loop-i-preserved : goal.loop-i-preserved
loop-i-preserved c =
    all-on c.args.odds c.args.spot.now c.args.all.now c.loop-i.i c.index-all-i.result c.args.out.now.items c.loop-i.out.items c.push_first_denied.new.out.items (omega arith) c.index-all-i.is c.loop-i.invariant c.in_ok-push_first_denied.ensures

pub returns : goal.returns
returns c = all-end c.args.odds c.args.spot.now c.args.all.now c.loop-i.i c.args.out.now.items c.loop-i.out.items (omega arith) c.loop-i.invariant
