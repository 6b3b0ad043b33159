use Rattle.std.proofs.Common.{subst}
use Rattle.board_base.specs.declared.lines.Direction.{Direction}
use Rattle.sketch_sets.proofs.Combined.{IsRay, straight-made}
use Rattle.sketch_sets.proofs.shifts.straight_rays.Goals as goal

pub returns : goal.returns
returns c = λ e low. straight-made c.args.to c.args.fixed c.args.steps e low _ _ _ _ _ _ _ c.either.ensures c.either-2.ensures c.either-3.ensures (subst (λ (d : Direction). IsRay d c.args.to c.args.fixed c.args.steps c.ray-down.result) c.new.ensures c.ray-down.ensures) (subst (λ (d : Direction). IsRay d c.args.to c.args.fixed c.args.steps c.ray-left.result) c.new-2.ensures c.ray-left.ensures) (subst (λ (d : Direction). IsRay d c.args.to c.args.fixed c.args.steps c.ray-right.result) c.new-3.ensures c.ray-right.ensures) (subst (λ (d : Direction). IsRay d c.args.to c.args.fixed c.args.steps c.ray-up.result) c.new-4.ensures c.ray-up.ensures)
