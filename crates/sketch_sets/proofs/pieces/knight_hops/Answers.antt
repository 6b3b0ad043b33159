use Rattle.std.proofs.Common.{◌∙◌}
use Rattle.sketch_sets.proofs.Attacking.{hops-made, turns-same}
use Rattle.sketch_sets.proofs.Combined.{four-equal, told-four}
use Rattle.sketch_sets.proofs.pieces.knight_hops.Goals as goal

pub returns : goal.returns
returns c = λ e low.
    told-four _ _ _ _ _ _ _ e low c.either.ensures c.either-2.ensures c.either-3.ensures
    ∙ four-equal (c.turned-down.ensures e low ∙ turns-same _ _ _ _ _ _ c.args.to e c.new.ensures c.new-down_left.ensures c.new-down_right.ensures)
    (c.turned-left.ensures e low ∙ turns-same _ _ _ _ _ _ c.args.to e c.new-2.ensures c.new-down_left.ensures c.new-up_left.ensures)
    (c.turned-right.ensures e low ∙ turns-same _ _ _ _ _ _ c.args.to e c.new-3.ensures c.new-down_right.ensures c.new-up_right.ensures)
    (c.turned-up.ensures e low ∙ turns-same _ _ _ _ _ _ c.args.to e c.new-4.ensures c.new-up_left.ensures c.new-up_right.ensures)
    ∙ hops-made c.args.to e low
