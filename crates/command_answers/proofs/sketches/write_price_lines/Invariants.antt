use Rattle.std.proofs.Common.{drop}
use Rattle.std.specs.List.{concat}
use Rattle.cert_text.specs.Written.{price_texts}
use Rattle.retro_ports.proofs.Pieces.{StillToCome}
use Rattle.command_answers.proofs.sketches.write_price_lines.Given as goal

abbrev pub invariant-loop-price : goal.invariant-loop-price
invariant-loop-price g l =
    StillToCome (g.K.Sink.taken l.initial.sink) (g.K.Sink.taken l.sink) (g.K.Sink.faults l.initial.sink) (g.K.Sink.faults l.sink) (concat (price_texts l.prices)) (concat (price_texts (drop l.price-index l.prices)))
