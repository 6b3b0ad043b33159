use Rattle.std.proofs.Common.{List, ap, ◌∙◌}
use Rattle.std.specs.List.{filter}
use Rattle.board_base.specs.Rights.{Rights}
use Rattle.query_base.specs.declared.claims.Claim.TheVariants.{Illegal}
use Rattle.diagram_study.specs.Pairs.{are_both_in, castle_pairs}
use Rattle.diagram_study.specs.Rights.{open_castlings}
use Rattle.diagram_study.specs.declared.rights.RightFound.{RightFound}
use Rattle.claim_findings.proofs.Agreeing.{decided_grown, grown_on}
use Rattle.diagram_study.proofs.Seeking.{pairs_grown, sought_grown}
use Rattle.diagram_study.proofs.gathering.gather.Goals as goal

pub returns : goal.returns
returns c =
    let last = c.in_ok-look_for_ends.ensures in
    let two = grown_on c.in_ok-pairs.ensures.grows last in
    let all = grown_on c.in_ok-rights.ensures.grows two in
    record {
      illegal = decided_grown c.args.subject.now.query Illegal c.args.subject.now.limits.depth c.args.subject.now.limits.nodes _ _ c.in_ok-illegal.illegal all c.in_ok-illegal.ensures.decided;
      unproved = c.in_ok-illegal.ensures.unproved;
      due = c.in_ok-rights.ensures.due;
      rights = sought_grown c.args.subject.now.query c.args.subject.now.limits.depth c.args.subject.now.limits.nodes _ _ c.in_ok-rights.rights.items two c.in_ok-rights.ensures.sought;
      are_pairs = c.in_ok-pairs.ensures.pairs ∙ ap (λ (k : Rights). filter (are_both_in k) castle_pairs) (c.open_castlings-kept.ensures ∙ ap (λ (l : List RightFound). open_castlings l) c.as_slice.ensures.value);
      pairs = pairs_grown c.args.subject.now.query c.args.subject.now.limits.depth c.args.subject.now.limits.nodes _ _ c.in_ok-pairs.pairs.items last c.in_ok-pairs.ensures.sought;
    }
