use Rattle.std.proofs.Common.{◌≡◌, false, sym, ◌∙◌}
use Rattle.figures.specs.Figures.{may_be}
use Rattle.sketch_grounds.proofs.Freezing.{entries-none}
use Rattle.sketch_grounds.proofs.frozen.entries_if.Goals as goal

pub returns-else-may_be : goal.returns-else-may_be
returns-else-may_be c =
    let none : may_be c.args.figure.now c.args.kind ≡ false = sym c.may_be.ensures ∙ c.if-may_be.false in
    c.none.ensures ∙ entries-none c.args.figure.now c.args.kind c.args.s none
