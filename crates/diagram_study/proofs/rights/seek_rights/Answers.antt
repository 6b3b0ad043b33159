use Rattle.std.proofs.Common.{arith}
use Rattle.claim_findings.proofs.Agreeing.{grown_on}
use Rattle.diagram_study.proofs.Seeking.{rights_more, sought_more}
use Rattle.diagram_study.specs.declared.rights.RightFound.{RightFound}
use Rattle.diagram_study.proofs.rights.seek_rights.Goals as goal

pub loop-right-preserved : goal.loop-right-preserved
loop-right-preserved c =
    let d = c.in_ok-decided.decided in
    let f : RightFound = record { right = c.right-item.result; finding = d.finding; stuck = d.stuck } in
    record {
      rights = rights_more c.as_slice-each.result.now c.loop-right.right-index f _ _ (omega arith) c.right-item.is c.loop-right.invariant.rights c.in_ok-push.ensures.items;
      sought = sought_more c.args.subject.now.query c.args.subject.now.limits.depth c.args.subject.now.limits.nodes _ _ f c.claim_of.result _ _ c.claim_of.ensures c.in_ok-decided.ensures.decided c.in_ok-decided.ensures.grows c.loop-right.invariant.sought c.in_ok-push.ensures.items;
      grows = grown_on c.loop-right.invariant.grows c.in_ok-decided.ensures.grows;
    }
