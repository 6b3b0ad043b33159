use Rattle.std.proofs.Common.{length}
use Rattle.retro_ports.proofs.Pieces.{StillToCome}
use Rattle.command_answers.specs.Unmoves.{unmoves_text}
use Rattle.command_answers.proofs.Retracting.{GivenSoFar, lines_left}
use Rattle.command_answers.proofs.unmoves.write_retractions.Given as goal

abbrev pub invariant-loop-u : goal.invariant-loop-u
invariant-loop-u g l = record {
  given : GivenSoFar l.query l.left l.total;
  lines : StillToCome (g.K.Sink.taken l.initial.sink) (g.K.Sink.taken l.sink) (g.K.Sink.faults l.initial.sink) (g.K.Sink.faults l.sink) (unmoves_text l.query) (lines_left l.query l.left);
}

abbrev pub decreases-loop-u : goal.decreases-loop-u
decreases-loop-u g l = length l.left
