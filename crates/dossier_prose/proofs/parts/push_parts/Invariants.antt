use Rattle.std.proofs.Common.{◌≡◌, ◌+◌, ◌++◌, ℕ, List, drop, length, map}
use Rattle.std.specs.Prelude.{None}
use Rattle.cert_text.specs.SeenCert.{cert_of}
use Rattle.dossier_prose.specs.Parts.{TellParts}
use Rattle.dossier_prose.proofs.parts.push_parts.Given as goal

abbrev pub invariant-loop-i : goal.invariant-loop-i
invariant-loop-i l =
    (rest : List ℕ) → TellParts l.line l.query (length l.certs) (l.i + 1) l.named (map cert_of (drop l.i l.certs)) rest →
    (text : List ℕ) × TellParts l.line l.query (length l.certs) 1 None (map cert_of l.certs) text × (l.out.items ++ rest ≡ l.fn.out.items ++ text)
