use Rattle.std.proofs.Common.{subst}
use Rattle.board_base.specs.declared.lines.Direction.{Direction}
use Rattle.sketch_sets.proofs.Combined.{IsRay, diagonal-made}
use Rattle.sketch_sets.proofs.shifts.diagonal_rays.Goals as goal

pub returns : goal.returns
returns c = λ e low. diagonal-made c.args.to c.args.fixed c.args.steps e low _ _ _ _ _ _ _ c.either.ensures c.either-2.ensures c.either-3.ensures (subst (λ (d : Direction). IsRay d c.args.to c.args.fixed c.args.steps c.ray-down_left.result) c.new.ensures c.ray-down_left.ensures) (subst (λ (d : Direction). IsRay d c.args.to c.args.fixed c.args.steps c.ray-down_right.result) c.new-2.ensures c.ray-down_right.ensures) (subst (λ (d : Direction). IsRay d c.args.to c.args.fixed c.args.steps c.ray-up_left.result) c.new-3.ensures c.ray-up_left.ensures) (subst (λ (d : Direction). IsRay d c.args.to c.args.fixed c.args.steps c.ray-up_right.result) c.new-4.ensures c.ray-up_right.ensures)
