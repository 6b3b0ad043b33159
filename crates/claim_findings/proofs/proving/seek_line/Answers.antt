use Rattle.claim_findings.proofs.Together.{complete_more, line_found, part_plain, rest_plain}
use Rattle.claim_findings.proofs.proving.seek_line.Goals as goal

pub invariant_of-asked : goal.invariant_of-asked
invariant_of-asked c = record { plain = part_plain _ _ _ c.in-Some.ensures c.loop-claimed.invariant.plain }

pub loop-claimed-preserved : goal.loop-claimed-preserved
loop-claimed-preserved c = record {
  plain = rest_plain _ _ _ c.in-Some.ensures c.loop-claimed.invariant.plain;
  complete = complete_more c.args.subject.now.limits.depth c.args.subject.now.limits.nodes _ _ _ _ _ _ _ c.loop-claimed.invariant.complete c.in-Some.ensures c.in_ok-part.ensures.found c.joined-finding.ensures;
}

pub returns : goal.returns
returns c = line_found c.parts_make_lines_hold.ensures c.args.subject.now.query c.args.claim.now c.args.subject.now.limits.depth c.args.subject.now.limits.nodes _ _ c.loop-claimed.invariant.complete c.in_default.ensures.0
