use Rattle.std.specs.List.{flat_map}
use Rattle.position_report.specs.Shown.{other_shown, pair_shown, right_shown, shown_claims}
use Rattle.position_report.proofs.Joining.{three-joined}
use Rattle.position_report.proofs.shown.shown_claims.Goals as goal

pub returns : goal.returns
unfolding shown_claims
returns c =
    let q = c.args.query.now in
    let f = c.args.found.now in
    three-joined c.new-all.result.items c.add_rights.new.all.items c.add_pairs.new.all.items c.add_other.new.all.items (flat_map (right_shown q) f.rights.items) (flat_map (pair_shown q) f.pairs.items) (other_shown q f) c.new-all.ensures.items
    (rw c.as_slice.ensures.value at c.in_ok-add_rights.ensures)
    (rw c.as_slice-2.ensures.value at c.in_ok-add_pairs.ensures)
    c.in_ok-add_other.ensures
