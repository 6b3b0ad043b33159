use Rattle.std.proofs.Common.{map}
use Rattle.cert_text.specs.SeenCert.{cert_of}
use Rattle.line_claims.specs.Due.{parts_due}
use Rattle.dossier_checker.specs.DossierReading.{refused_as}
use Rattle.dossier_checker.specs.WholeDossiers.{IsDossierOf}
use Rattle.dossier_checker.proofs.WholeReading.{after_head, all_prove, dossier_of}
use Rattle.dossier_checker.proofs.reading.read_dossier.Goals as goal

pub returns-in-Ok-clause-proves : goal.returns-in-Ok-clause-proves
returns-in-Ok-clause-proves c =
    let head = c.in-Some.head in
    all_prove head.rest.now (parts_due head.claim head.query) (map cert_of c.in-Ok.proofs.items) (rw c.in-Ok.is at c.in_ok-proofs.ensures)

pub returns-in-Ok-clause-holds : goal.returns-in-Ok-clause-holds
returns-in-Ok-clause-holds c =
    let head = c.in-Some.head in
    let begins = c.in-Some.ensures in
    let read : IsDossierOf c.args.bytes.now head.claim head.query (map cert_of c.in-Ok.proofs.items) = record {
      head = begins.head;
      rest = head.rest.now;
      parts = begins.parts;
      heading = begins.heading;
      listed = c.in_default-unlisted_step.ensures;
      proofs = rw c.in-Ok.is at c.in_ok-proofs.ensures;
    } in
    c.dossiers_prove.ensures c.args.bytes.now head.claim head.query (dossier_of c.args.bytes.now head.claim head.query (map cert_of c.in-Ok.proofs.items) read)

pub returns-in-Err-clause-read : goal.returns-in-Err-clause-read
returns-in-Err-clause-read c =
    let head = c.in-Some.head in
    after_head c.args.bytes.now head.rest.now head.claim head.query (refused_as c.in-Err.refused) c.in-Some.ensures c.in_default-unlisted_step.ensures (rw c.in-Err.is at c.in_ok-proofs.ensures)
