use Rattle.std.proofs.Common.{◌≡◌, map, take}
use Rattle.cert_checker.specs.Framing.{due_of}
use Rattle.cert_checker.proofs.counting.count_frames.Given as goal

abbrev pub invariant-loop-i : goal.invariant-loop-i
invariant-loop-i l = l.counts.items ≡ map due_of (take l.i l.frames)
