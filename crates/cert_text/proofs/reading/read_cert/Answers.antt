use Rattle.std.proofs.Common.{◌∷◌, arith, ap, length, length-append}
use Rattle.cert_text.specs.Lines.{cut}
use Rattle.cert_text.proofs.Bad.{bad_fault, extra_line, header_room, header_starts, whole_text}
use Rattle.cert_text.proofs.Cuts.{few_lines}
use Rattle.cert_text.proofs.reading.read_cert.Goals as goal

pub read_below-requires-clause-room : goal.read_below-requires-clause-room
read_below-requires-clause-room c = let h = c.in-Ok.ensures.ok in let counted = h.counted in omega (arith, few_lines c.args.bytes.now, ap length h.parts, length-append h.front (h.root_line ∷ cut c.in-Ok.header.rest.now))

pub returns-in-Some-clause-bad : goal.returns-in-Some-clause-bad
returns-in-Some-clause-bad c = extra_line _ _ _ _ _ _ _ _ _ _ _ _ c.in-Ok.ensures.ok c.in-Ok-read_below.ensures.ok c.in-Some.ensures

pub returns-in-Err-read_below-clause-bad : goal.returns-in-Err-read_below-clause-bad
returns-in-Err-read_below-clause-bad c = bad_fault _ _ _ _ _ _ _ c.in-Ok.ensures.ok c.in-Err-read_below.ensures.bad

pub returns-in-None-clause-ok : goal.returns-in-None-clause-ok
returns-in-None-clause-ok c = whole_text _ _ _ _ _ _ _ _ _ _ c.in-Ok.ensures.ok c.in-Ok-read_below.ensures.ok c.in-None.ensures

pub read_below-requires-clause-fits : goal.read_below-requires-clause-fits
read_below-requires-clause-fits c = header_room _ _ _ _ _ _ c.in-Ok.ensures.ok

pub read_below-requires-clause-starts : goal.read_below-requires-clause-starts
read_below-requires-clause-starts c = header_starts _ _ _ _ _ _ c.in-Ok.ensures.ok
