use Rattle.cert_text.specs.Lines.{cut}
use Rattle.cert_text.specs.Certificate.{AreLinesOf}
use Rattle.cert_text.proofs.OneFault.{bad-no_text, line_one}
use Rattle.cert_text.proofs.laws.one_fault_each.Goals as goal

pub returns-clause-text : goal.returns-clause-text
returns-clause-text c = λ bytes. bad-no_text AreLinesOf (cut bytes)

pub returns-clause-line : goal.returns-clause-line
returns-clause-line c = λ bytes. line_one AreLinesOf (cut bytes)
