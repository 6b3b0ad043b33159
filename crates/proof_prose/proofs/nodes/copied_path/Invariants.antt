use Rattle.std.proofs.Common.{◌≡◌, take}
use Rattle.proof_prose.proofs.nodes.copied_path.Given as goal

abbrev pub invariant-loop-i : goal.invariant-loop-i
invariant-loop-i l = l.own ≡ take l.i l.path
