use Rattle.cert_text.specs.SeenCert.{cert_of}
use Rattle.cert_text.specs.Certificate.{AreLinesOf}
use Rattle.cert_text.specs.Lines.{cut}
use Rattle.cert_text.proofs.CertTexts.{text_one}
use Rattle.cert_text.proofs.OneCertificate.{certificate_one}
use Rattle.cert_text.proofs.OneFault.{bad-no_text}
use Rattle.cert_text.proofs.cert_writing.write_cert.Goals as goal

pub returns-in-Ok-clause-alone : goal.returns-in-Ok-clause-alone
returns-in-Ok-clause-alone c other stands = text_one other c.in-Ok.text.items (cert_of c.args.cert.now) stands c.in-Ok.ensures

pub returns-in-Ok-clause-read : goal.returns-in-Ok-clause-read
returns-in-Ok-clause-read c other stands = certificate_one (cut c.in-Ok.text.items) other (cert_of c.args.cert.now) stands c.in-Ok.ensures

pub returns-in-Ok-clause-good : goal.returns-in-Ok-clause-good
returns-in-Ok-clause-good c n bad = bad-no_text AreLinesOf (cut c.in-Ok.text.items) n (cert_of c.args.cert.now) bad c.in-Ok.ensures
