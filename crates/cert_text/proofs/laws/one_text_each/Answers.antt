use Rattle.cert_text.specs.Lines.{cut}
use Rattle.cert_text.proofs.CertTexts.{text_one}
use Rattle.cert_text.proofs.OneCertificate.{certificate_one}
use Rattle.cert_text.proofs.laws.one_text_each.Goals as goal

pub returns-clause-text : goal.returns-clause-text
returns-clause-text c = text_one

pub returns-clause-certificate : goal.returns-clause-certificate
returns-clause-certificate c = λ bytes. certificate_one (cut bytes)
