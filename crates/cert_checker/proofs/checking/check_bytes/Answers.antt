use Rattle.std.proofs.Common.{refl}
use Rattle.cert_text.specs.SeenCert.{cert_of}
use Rattle.cert_checker.proofs.checking.check_bytes.Goals as goal

pub returns-clause-answer : goal.returns-clause-answer
returns-clause-answer c = (cert_of c.in_ok-cert.cert, c.in_ok-cert.ensures.text, refl, refl, c.in_ok-cert.ensures.proves)

pub returns-clause-holds : goal.returns-clause-holds
returns-clause-holds c = c.certificates_prove.ensures (cert_of c.in_ok-cert.cert) c.in_ok-cert.ensures.proves
