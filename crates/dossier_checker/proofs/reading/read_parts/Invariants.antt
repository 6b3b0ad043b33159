use Rattle.std.proofs.Common.{length, map}
use Rattle.cert_text.specs.SeenCert.{cert_of}
use Rattle.dossier_checker.specs.ReadingParts.{IsReading}
use Rattle.dossier_checker.proofs.reading.read_parts.Given as goal

abbrev pub invariant-loop-part : goal.invariant-loop-part
invariant-loop-part l = IsReading l.claim l.query l.bytes (map cert_of l.proofs.items) l.rest l.due l.number

abbrev pub decreases-loop-part : goal.decreases-loop-part
decreases-loop-part l = length l.due
