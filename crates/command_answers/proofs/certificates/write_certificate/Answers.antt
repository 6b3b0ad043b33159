use Rattle.std.proofs.lemmas.Bool.{and_parts}
use Rattle.std.specs.List.{concat}
use Rattle.cert_text.specs.Certificate.{body_of}
use Rattle.cert_text.specs.ClaimLines.{promotes_well}
use Rattle.cert_text.specs.Lines.{ended}
use Rattle.cert_text.specs.NodeLines.{root_text}
use Rattle.cert_text.specs.Seen.{tree_of}
use Rattle.cert_text.specs.SeenCert.{cert_of}
use Rattle.cert_text.specs.Writable.{stays_on_board}
use Rattle.cert_text.specs.Written.{cert_lines, head_lines, lines_below}
use Rattle.cert_text.proofs.CertTexts.{writable}
use Rattle.cert_text.proofs.WrittenTrees.{sketch_line}
use Rattle.retro_ports.proofs.Pieces.{last_failed, last_ok, piece_cut}
use Rattle.command_answers.proofs.CertificateLines.{after_head, begun, head-written, root-line, root-written}
use Rattle.command_answers.proofs.certificates.write_certificate.Goals as goal

pub head_text-requires-clause-promotion : goal.head_text-requires-clause-promotion
head_text-requires-clause-promotion g c =
    (and_parts (stays_on_board c.args.cert.now.claim) (promotes_well c.args.cert.now.claim) (writable _ (cert_of c.args.cert.now) c.requires.1).claim).1

pub head_text-requires-clause-plain : goal.head_text-requires-clause-plain
head_text-requires-clause-plain g c = (writable _ (cert_of c.args.cert.now) c.requires.1).plain

pub own_line-requires : goal.own_line-requires
own_line-requires g c = root-line (tree_of c.args.cert.now.root) c.requires.1.root_line c.requires.1.root

pub write_below-requires : goal.write_below-requires
write_below-requires g c = (0, c.requires.1.below, c.requires.1.nodes, sketch_line (tree_of c.args.cert.now.root) 0 (writable _ (cert_of c.args.cert.now) c.requires.1).root)

pub returns-in_err-write_all-clause-failed : goal.returns-in_err-write_all-clause-failed
returns-in_err-write_all-clause-failed g c =
    let cert = cert_of c.args.cert.now in
    let cut = rw (c.as_slice.ensures.value, c.head_text.ensures) at c.in_err-write_all.ensures.failed in
    piece_cut _ _ _ _ _ (concat (cert_lines cert)) (concat (head_lines cert.claim cert.query)) (after_head cert) _ (begun cert _ (g.K.Sink.faults c.args.sink.now)) cut

pub returns-in_err-write_all-2-clause-failed : goal.returns-in_err-write_all-2-clause-failed
returns-in_err-write_all-2-clause-failed g c =
    let cert = cert_of c.args.cert.now in
    let head = head-written cert _ _ _ _ (rw (c.as_slice.ensures.value, c.head_text.ensures) at c.in_ok-write_all.ensures.ok) c.in_ok-write_all.ensures.cause.kept in
    let cut = rw (c.as_slice-2.ensures.value, c.own_line.ensures) at c.in_err-write_all-2.ensures.failed in
    piece_cut _ _ _ _ _ (concat (cert_lines cert)) (ended (root_text (body_of cert.root))) (concat (lines_below cert.root)) _ head cut

pub returns-clause-ok : goal.returns-clause-ok
returns-clause-ok g c =
    let cert = cert_of c.args.cert.now in
    let head = head-written cert _ _ _ _ (rw (c.as_slice.ensures.value, c.head_text.ensures) at c.in_ok-write_all.ensures.ok) c.in_ok-write_all.ensures.cause.kept in
    let root = root-written cert _ _ _ _ _ _ head (rw (c.as_slice-2.ensures.value, c.own_line.ensures) at c.in_ok-write_all-2.ensures.ok) c.in_ok-write_all-2.ensures.cause.kept in
    last_ok _ _ _ _ _ (concat (cert_lines cert)) (concat (lines_below cert.root)) c.write_below.result root c.write_below.ensures.ok

pub returns-clause-failed : goal.returns-clause-failed
returns-clause-failed g c =
    let cert = cert_of c.args.cert.now in
    let head = head-written cert _ _ _ _ (rw (c.as_slice.ensures.value, c.head_text.ensures) at c.in_ok-write_all.ensures.ok) c.in_ok-write_all.ensures.cause.kept in
    let root = root-written cert _ _ _ _ _ _ head (rw (c.as_slice-2.ensures.value, c.own_line.ensures) at c.in_ok-write_all-2.ensures.ok) c.in_ok-write_all-2.ensures.cause.kept in
    last_failed _ _ _ _ _ (concat (cert_lines cert)) (concat (lines_below cert.root)) c.write_below.result root c.write_below.ensures.failed
