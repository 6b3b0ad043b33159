use Rattle.std.proofs.Common.{◌≡◌, ◌-◌, length}
use Rattle.cert_checker.proofs.Feeding.{FedSoFar}
use Rattle.cert_checker.proofs.streams.check_stream.Given as goal
use Rattle.retro_ports.specs.declared.piecewise.TheConstants.{MOST_BYTES}

abbrev pub invariant-reads : goal.invariant-reads
invariant-reads g l = record {
  so_far : FedSoFar (g.S.Source.left l.initial.src) (g.S.Source.left l.src) (g.S.Source.faults l.initial.src) (g.S.Source.faults l.src) l.checker MOST_BYTES;
  chunk : length l.chunk ≡ 4096;
}

abbrev pub decreases-reads : goal.decreases-reads
decreases-reads g l = MOST_BYTES - l.checker.fed
