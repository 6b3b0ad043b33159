-- How contracts see certificates.
use Rattle.cert_text.specs.Seen.{tree_of}
use Rattle.cert_text.specs.Certificate.{Certificate}
use Rattle.cert_text.specs.declared.certificates.Cert.{Cert}

abbrev pub cert_of : Cert → Certificate
cert_of c = record { claim = c.claim; query = c.query; root = tree_of c.root }
