use Rattle.std.proofs.Common.{◌≡◌, ◌∙◌}
use Rattle.cage_rules.specs.Sets.{union}
use Rattle.sketch_grounds.proofs.Freezing.{entries-six}
use Rattle.sketch_grounds.proofs.frozen.entries_of.Goals as goal

pub returns : goal.returns
returns c =
    let made : c.either-3.result ≡ union c.entries_if-6.result (union (union c.entries_if-4.result c.entries_if-5.result) (union c.entries_if.result (union c.entries_if-2.result c.entries_if-3.result))) = cc in
    made ∙ entries-six c.args.figure.now c.args.s c.entries_if-6.result c.entries_if-4.result c.entries_if-5.result c.entries_if.result c.entries_if-2.result c.entries_if-3.result
    c.entries_if-6.ensures c.entries_if-4.ensures c.entries_if-5.ensures c.entries_if.ensures c.entries_if-2.ensures c.entries_if-3.ensures
