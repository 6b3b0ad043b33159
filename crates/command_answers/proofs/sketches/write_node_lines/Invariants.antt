use Rattle.std.proofs.Common.{drop}
use Rattle.std.specs.List.{concat}
use Rattle.cert_text.specs.Written.{line_texts}
use Rattle.retro_ports.proofs.Pieces.{StillToCome}
use Rattle.command_answers.proofs.sketches.write_node_lines.Given as goal

abbrev pub invariant-loop-line : goal.invariant-loop-line
invariant-loop-line g l =
    StillToCome (g.K.Sink.taken l.initial.sink) (g.K.Sink.taken l.sink) (g.K.Sink.faults l.initial.sink) (g.K.Sink.faults l.sink) (concat (line_texts l.lines)) (concat (line_texts (drop l.line-index l.lines)))
