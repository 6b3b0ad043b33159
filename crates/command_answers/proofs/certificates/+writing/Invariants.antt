use Rattle.std.specs.List.{concat}
use Rattle.cert_text.specs.Seen.{tree_of}
use Rattle.cert_text.specs.Sizes.{rest_of, size, size_all}
use Rattle.cert_text.specs.Written.{lines_of}
use Rattle.retro_ports.proofs.Pieces.{StillToCome}
use Rattle.command_answers.proofs.certificates.+writing.Given as goal

abbrev pub decreases-write_below : goal.decreases-write_below
decreases-write_below g l = size (tree_of l.node.now)

abbrev pub decreases-write_kids : goal.decreases-write_kids
decreases-write_kids g l = size_all l.kids.now

abbrev pub invariant-write_kids-loop-i : goal.invariant-write_kids-loop-i
invariant-write_kids-loop-i g l =
    StillToCome (g.K.Sink.taken l.initial.sink) (g.K.Sink.taken l.sink) (g.K.Sink.faults l.initial.sink) (g.K.Sink.faults l.sink) (concat (lines_of l.kids)) (concat (lines_of (rest_of l.kids l.i)))
