use Rattle.std.proofs.Common.{◌≡◌, ◌<◌, ℕ, slice_index, refl, subst, arith}
use Rattle.assignment.specs.Pairings.{IsHanding}
use Rattle.assignment.proofs.Handing.{IsHanding-step, IsMatched-handed}
use Rattle.assignment.proofs.path.hand_on.Goals as goal

pub loop-m-preserved : goal.loop-m-preserved
loop-m-preserved g c =
    let up : slice_index c.args.parents.now c.loop-m.m < c.loop-m.m = c.loop-m.invariant.earlier c.loop-m.m (omega arith) (omega arith) in
    record {
      within = omega arith;
      earlier = λ i one le. c.loop-m.invariant.earlier i one (omega arith);
      handing = λ table n h.
          IsHanding-step table g.row.W n c.args.parents.now c.loop-m.m c.args.to _ _ (c.loop-m.invariant.handing table n h) c.swap_columns.ensures (omega arith);
    }

pub returns : goal.returns
returns g c = λ table n h.
    let root : c.loop-m.m ≡ 0 = omega arith in
    let last = subst (λ (m : ℕ). IsHanding table g.row.W c.loop-m.p n m c.args.to c.args.parents.now) root (c.loop-m.invariant.handing table n h) in
    IsMatched-handed table g.row.W n c.args.parents.now 0 c.args.to _ _ last c.swap_columns-2.ensures refl
