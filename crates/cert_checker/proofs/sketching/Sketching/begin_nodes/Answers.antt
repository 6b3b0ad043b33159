use Rattle.cert_checker.proofs.SketchWalked.{few-men}
use Rattle.cert_checker.proofs.sketching.Sketching.begin_nodes.Goals as goal

pub unreachable-requires : goal.unreachable-requires
unreachable-requires c = c.in_default.ensures (few-men _ _ (c.is_root.ensures.root.0 c.if-not-is_root.false))
