use Rattle.std.proofs.Common.{◌≡◌, take, ap, arith, rules}
use Rattle.std.specs.Prelude.{Err, Result}
use Rattle.length_bound.proofs.FrontReads.{front_next}
use Rattle.length_bound.proofs.checking.read_front.Goals as goal
use Rattle.retro_ports.proofs.Loops.{read_over}
use Rattle.retro_ports.specs.declared.piecewise.TheConstants.{MOST_BYTES}

-- the error of a result of one type is that of another
same_error : {T S E : Type 0} (x y : E) → ◌≡◌ {A = Result T E} (Err x) (Err y) → ◌≡◌ {A = Result S E} (Err x) (Err y)
same_error x y e = let same : x ≡ y = cc in ap Err same

pub returns-in-Err-clause-too_long : goal.returns-in-Err-clause-too_long
returns-in-Err-clause-too_long g c = λ e.
    let so-far = c.reads.invariant.so_far in
    read_over _ _ _ so-far.bytes _ MOST_BYTES so-far.read (c.in-Err.ensures.too_long (same_error _ _ e)) (omega (arith, so-far.count, so-far.in_range))

pub reads-preserved : goal.reads-preserved
reads-preserved g c =
    let so-far = c.reads.invariant.so_far in
    record {
      so_far = front_next _ _ _ _ _ _ c.reads.fed c.in-Ok.n c.reads.front.items c.keep.new.front.items (take c.in-Ok.n c.read_piece.new.buffer) so-far c.in-Ok.ensures.bytes (c.in-Ok.ensures.kept (search rules)) c.in-Ok.ensures.bound.1
          (omega (arith, c.in-Ok.ensures.fits, so-far.count, so-far.in_range))
          c.keep.ensures;
      chunk = omega arith;
    }
