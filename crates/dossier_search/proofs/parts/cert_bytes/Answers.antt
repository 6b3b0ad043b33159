use Rattle.cert_text.specs.SeenCert.{cert_of}
use Rattle.dossier_search.proofs.Sizes.{some_bytes}
use Rattle.dossier_search.proofs.parts.cert_bytes.Goals as goal

pub returns-clause-some : goal.returns-clause-some
returns-clause-some c = some_bytes c.in_ok-text.text.items (cert_of c.args.cert.now) c.in_ok-text.ensures.text
