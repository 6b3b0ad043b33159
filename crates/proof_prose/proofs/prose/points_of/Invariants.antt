use Rattle.std.proofs.Common.{◌≡◌, map, take}
use Rattle.proof_prose.specs.Prose.{point_of}
use Rattle.proof_prose.proofs.prose.points_of.Given as goal

abbrev pub invariant-loop-s : goal.invariant-loop-s
invariant-loop-s l = l.points.items ≡ map point_of (take l.s-index l.spoken)
