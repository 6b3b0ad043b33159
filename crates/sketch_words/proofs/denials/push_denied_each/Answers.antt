use Rattle.std.proofs.Common.{arith}
use Rattle.sketch_words.proofs.Denying.{each-end, each-on}
use Rattle.sketch_words.proofs.denials.push_denied_each.Goals as goal

pub loop-i-preserved : goal.loop-i-preserved
loop-i-preserved c =
    each-on c.args.all.now c.args.flaw.now c.loop-i.i c.index-all-i.result c.args.out.now.items c.loop-i.out.items c.push_one_denied.new.out.items (omega arith) c.index-all-i.is c.loop-i.invariant c.in_ok-push_one_denied.ensures

pub returns : goal.returns
returns c = each-end c.args.all.now c.args.flaw.now c.loop-i.i c.args.out.now.items c.loop-i.out.items (omega arith) c.loop-i.invariant
