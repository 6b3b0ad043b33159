use Rattle.claim_findings.proofs.Agreeing.{grown_on}
use Rattle.diagram_study.proofs.Seeking.{pair_more, two_more}
use Rattle.diagram_study.proofs.pairs.seek_pairs.Goals as goal

pub loop-pair-preserved : goal.loop-pair-preserved
loop-pair-preserved c = record {
  pairs = two_more c.as_slice-each.result.now c.loop-pair.pair-index _ c.in_ok-seek_pair.field-0 _ _ c.loop-pair-test.true c.in_ok-seek_pair.ensures.first c.in_ok-seek_pair.ensures.second c.loop-pair.invariant.pairs c.in_ok-push.ensures.items;
  sought = pair_more c.args.subject.now.query c.args.subject.now.limits.depth c.args.subject.now.limits.nodes _ _ c.in_ok-seek_pair.field-0 _ _ c.in_ok-seek_pair.ensures.sought c.in_ok-seek_pair.ensures.grows c.loop-pair.invariant.sought c.in_ok-push.ensures.items;
  grows = grown_on c.loop-pair.invariant.grows c.in_ok-seek_pair.ensures.grows;
}
