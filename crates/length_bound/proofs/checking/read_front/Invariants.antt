use Rattle.std.proofs.Common.{◌≡◌, ◌-◌, length}
use Rattle.length_bound.proofs.FrontReads.{FrontSoFar}
use Rattle.length_bound.proofs.checking.read_front.Given as goal
use Rattle.retro_ports.specs.declared.piecewise.TheConstants.{MOST_BYTES}

abbrev pub invariant-reads : goal.invariant-reads
invariant-reads g l = record {
  so_far : FrontSoFar (g.S.Source.left l.initial.src) (g.S.Source.left l.src) (g.S.Source.faults l.initial.src) (g.S.Source.faults l.src) l.fed l.front.items;
  chunk : length l.chunk ≡ 4096;
}

abbrev pub decreases-reads : goal.decreases-reads
decreases-reads g l = MOST_BYTES - l.fed
