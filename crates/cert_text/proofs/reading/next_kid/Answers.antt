use Rattle.std.proofs.Common.{subst, sym}
use Rattle.std.specs.Prelude.{Option, IfSome}
use Rattle.board_base.specs.declared.unmoves.Unmove.{Unmove}
use Rattle.cert_text.specs.Reading.{HasRoom}
use Rattle.cert_text.specs.declared.node_lines.BodyLine.{BodyLine}
use Rattle.cert_text.proofs.Fitting.{kid_fits}
use Rattle.cert_text.proofs.reading.next_kid.Goals as goal

pub returns-in-Some-read_kid_line-clause-fits : goal.returns-in-Some-read_kid_line-clause-fits
returns-in-Some-read_kid_line-clause-fits c =
    subst (λ (o : Option (Unmove × BodyLine)). IfSome o (λ kid. HasRoom c.args.depth kid.1)) (sym c.in-Some-read_kid_line.ensures) (kid_fits c.args.depth _)
