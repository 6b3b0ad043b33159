use Rattle.std.specs.List.{flat_map}
use Rattle.position_report.specs.Open.{open_claims, open_pair, open_right}
use Rattle.position_report.proofs.Open.{all-told}
use Rattle.position_report.proofs.unsettled.open_part.Goals as goal

pub returns : goal.returns
unfolding open_claims
returns c =
    let q = c.args.query.now in
    let f = c.args.found.now in
    all-told q (flat_map (open_right q) f.rights.items) (flat_map (open_pair q) f.pairs.items) _ _ c.new-part.result.items c.push_rights.new.out.items c.push_pairs.new.out.items _ c.new-part.ensures.items
    (rw c.as_slice.ensures.value at c.in_ok-first.ensures)
    (rw c.as_slice-2.ensures.value at c.in_ok-last.ensures)
    c.in_ok-push_run.ensures
