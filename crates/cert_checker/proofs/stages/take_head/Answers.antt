use Rattle.std.proofs.Common.{◌∙◌, sym}
use Rattle.cert_checker.proofs.Unbarred.{head_unbarred}
use Rattle.cert_checker.proofs.stages.take_head.Goals as goal

pub returns-in-Some-clause-ready : goal.returns-in-Some-clause-ready
returns-in-Some-clause-ready c = (head_unbarred c.args.head.now c.in-Some.next c.args.line.now (sym c.read_head_line.ensures ∙ c.in-Some.is), c.requires.first)
