use Rattle.std.proofs.Common.{not, ap, ◌∙◌, arith}
use Rattle.board_base.specs.declared.men.Colour.{Colour}
use Rattle.sketch_sets.specs.Shifts.{attacks_past}
use Rattle.sketch_sets.specs.Tests.{some_that}
use Rattle.sketch_sets.proofs.Sets.{told-outside}
use Rattle.sketch_sets.proofs.Touched.{touched-from}
use Rattle.sketch_sets.proofs.touching.not_touched.Goals as goal

pub returns : goal.returns
returns c = λ s low.
    told-outside c.attackers.result c.outside.result s low c.outside.ensures
    ∙ ap not (c.attackers.ensures s low ∙ ap (λ (x : Colour). some_that c.only_on.result (attacks_past c.args.kind x c.from_bits-none.result 1 s)) c.other.ensures ∙ touched-from c.args.colour c.args.kind c.args.q s c.only_on.result c.from_bits-none.result (omega arith) c.only_on.ensures)
