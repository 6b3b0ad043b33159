use Rattle.std.proofs.Common.{◌≡◌, List, length, ap, ◌∙◌, map, rules}
use Rattle.std.proofs.lemmas.List.{map-append}
use Rattle.cert_text.specs.SeenCert.{cert_of}
use Rattle.cert_text.specs.declared.certificates.Cert.{Cert}
use Rattle.dossier_checker.proofs.WholeReading.{all_read, with_proof}
use Rattle.dossier_checker.proofs.reading.read_parts.Goals as goal

pub loop-part-preserved : goal.loop-part-preserved
loop-part-preserved c =
    let is = rw c.in-Ok.is at c.in_ok-proof.ensures in
    let longer = ap (λ (l : List Cert). map cert_of l) c.in_ok-push-in-Ok.ensures.items ∙ map-append cert_of c.loop-part.proofs.items _ in
    with_proof _ _ _ _ _ _ _ _ _ _ _ _ _ c.loop-part.invariant c.in-Some.ensures c.in-Some-first_part.ensures is longer

pub returns-then-is_empty : goal.returns-then-is_empty
returns-then-is_empty c =
    let empty : length c.loop-part.rest.now ≡ 0 = search rules in
    all_read _ _ _ _ _ _ _ c.loop-part.invariant c.in_default.ensures.0 empty
