use Rattle.std.proofs.Common.{sym}
use Rattle.cert_text.proofs.NearNumbers.{potentials_near}
use Rattle.cert_text.proofs.arguments.are_near.Goals as goal

pub returns : goal.returns
returns c = sym (potentials_near c.args.p.now c.v.ensures.range)
