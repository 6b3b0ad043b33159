use Rattle.std.proofs.Common.{◌≡◌, ℕ, List, [], ◌∷◌, length-append, ap, subst, arith, length, reverse}
use Rattle.query_base.specs.Asked.{Asked}
use Rattle.cert_text.specs.Lines.{cut}
use Rattle.cert_text.specs.Seen.{tree_of}
use Rattle.cert_text.specs.SeenCert.{cert_of}
use Rattle.cert_text.specs.Certificate.{Certificate, root_at}
use Rattle.cert_text.proofs.Cuts.{few_lines}
use Rattle.cert_text.proofs.HeadTexts.{head_count}
use Rattle.cert_checker.specs.Proving.{target_of}
use Rattle.cert_checker.specs.Walk.{next_line, Walks, WalksTo}
use Rattle.cert_text.proofs.CertTexts.{writable}
use Rattle.cert_checker.proofs.Children.{sketches-fit, tree-lines}
use Rattle.cert_checker.proofs.Proofs.{walk_proves}
use Rattle.cert_checker.proofs.Unbarred.{query_unbarred}
use Rattle.cert_checker.proofs.checking.read_proof.Goals as goal

-- the walk of the root, as the code makes it
root_walk : (cert : Certificate) (q : Asked) (above : List Asked) (m n : ℕ) → q ≡ target_of cert → above ≡ [] → m ≡ root_at cert.query → Walks cert.root q (reverse above) m (next_line n) → WalksTo cert (next_line n)
root_walk cert q above m n query none place walks =
    subst (λ (i : ℕ). Walks cert.root (target_of cert) [] i (next_line n)) place
    (subst (λ (p : Asked). Walks cert.root p [] m (next_line n)) query (subst (λ (l : List Asked). Walks cert.root q (reverse l) m (next_line n)) none walks))

pub target-requires : goal.target-requires
target-requires c = query_unbarred _ _ c.in-Ok.ensures.ok

pub check_node-requires-clause-room : goal.check_node-requires-clause-room
check_node-requires-clause-room c =
    let a = c.in-Ok.ensures.ok in
    omega (arith, tree-lines (tree_of c.in-Ok.cert.root) 0 a.below a.nodes, few_lines c.args.bytes.now, ap length a.parts, length-append a.head (a.root_line ∷ a.below), head_count a.head c.in-Ok.cert.claim c.in-Ok.cert.query a.heading, c.root_line_of.ensures, c.requires)

pub check_node-requires-clause-sketches : goal.check_node-requires-clause-sketches
check_node-requires-clause-sketches c = sketches-fit (tree_of c.in-Ok.cert.root) 0 (writable (cut c.args.bytes.now) (cert_of c.in-Ok.cert) c.in-Ok.ensures.ok).root

pub returns-in-Ok-check_node-clause-proves : goal.returns-in-Ok-check_node-clause-proves
returns-in-Ok-check_node-clause-proves c =
    let cert : Certificate = cert_of c.in-Ok.cert in
    let walks = root_walk cert _ _ _ _ c.target.ensures.query c.new-ancestors.ensures.items c.root_line_of.ensures c.in-Ok-check_node.ensures.walk in
    (walk_proves (cut c.args.bytes.now) cert c.in-Ok.ensures.ok).0 (_, walks)
