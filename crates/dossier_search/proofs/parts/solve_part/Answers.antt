use Rattle.std.proofs.Common.{rules}
use Rattle.cert_text.specs.SeenCert.{cert_of}
use Rattle.dossier_search.proofs.Sizes.{few_bytes}
use Rattle.dossier_search.proofs.parts.solve_part.Goals as goal

pub cert_bytes-requires-clause-short : goal.cert_bytes-requires-clause-short
cert_bytes-requires-clause-short c =
    let answer = rw c.in-Proved.is at c.in_ok-cert.ensures.answer.proved in
    let lined = rw c.in-Proved.is at c.in_ok-cert.ensures.lined in
    few_bytes (cert_of c.in-Proved.cert) lined answer.few
