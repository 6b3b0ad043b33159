use Rattle.std.specs.Prelude.{codes}
use Rattle.ledger_prose.specs.Words.{way_words}
use Rattle.proof_story.proofs.Parts.{parted-step, parted-whole}
use Rattle.ledger_prose.proofs.captures.push_list.Goals as goal

pub loop-i-preserved : goal.loop-i-preserved
loop-i-preserved c =
    parted-step (way_words c.args.query.now c.args.single) (codes ", ") c.args.ways.now c.loop-i.i _ c.args.out.now.items c.loop-i.out.items _ _ c.loop-i-test.true c.index-ways-i.is c.loop-i.invariant c.in_ok-push_comma.ensures c.in_ok-push_way.ensures

pub returns : goal.returns
returns c = parted-whole (way_words c.args.query.now c.args.single) (codes ", ") c.args.ways.now c.loop-i.i c.args.out.now.items c.loop-i.out.items c.loop-i-test.false c.loop-i.invariant
