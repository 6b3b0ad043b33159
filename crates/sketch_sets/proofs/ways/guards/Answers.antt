use Rattle.std.proofs.Common.{ap, ◌∙◌}
use Rattle.board_base.specs.declared.men.Colour.{Colour}
use Rattle.sketch_sets.specs.Grounds.{kings}
use Rattle.sketch_sets.proofs.Widening.{guards-made}
use Rattle.sketch_sets.proofs.ways.guards.Goals as goal

pub returns : goal.returns
returns c = λ e low. c.attackers.ensures e low ∙ guards-made c.args.ground.now c.args.colour c.args.kind e c.kings-kings.result (c.kings-kings.ensures ∙ ap (λ (x : Colour). kings c.args.ground.now x) c.other.ensures)
