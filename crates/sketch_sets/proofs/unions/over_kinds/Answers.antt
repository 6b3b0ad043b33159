use Rattle.sketch_sets.proofs.SixKinds.{six-made}
use Rattle.sketch_sets.proofs.unions.over_kinds.Goals as goal

pub returns : goal.returns
returns g c = λ e p low agrees. six-made c.args.kinds p e low _ _ _ _ _ _ _ _ _ _ _ c.either.ensures c.either-heavy.ensures c.either-2.ensures c.either-3.ensures c.either-4.ensures (c.set_if-pawn.ensures e p low agrees) (c.set_if-knight.ensures e p low agrees) (c.set_if-bishop.ensures e p low agrees) (c.set_if-rook.ensures e p low agrees) (c.set_if-queen.ensures e p low agrees) (c.set_if-king.ensures e p low agrees)
