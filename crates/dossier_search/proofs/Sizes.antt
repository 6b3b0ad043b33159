-- How many bytes the text of a certificate has.
use Rattle.std.proofs.Common.{ℕ, ◌≤◌, List, [], ◌∷◌, length, ap, arith, length-append}
use Rattle.cert_text.specs.Certificate.{Certificate, IsTextOf}
use Rattle.retro_search.specs.RuleLines.{IsByRuleLines}
use Rattle.retro_search.specs.Answers.{IsShort}
use Rattle.retro_search.specs.Sizes.{nodes_in}
use Rattle.retro_search.proofs.TextSizes as sizes
use Rattle.retro_search.proofs.Trees.LineCounts.{lined_counts, lined_texts}

-- a certificate with at most 500,000 nodes, whose reasons are rule lines, has no text of more than 64 MiB
pub few_bytes : (cert : Certificate) → IsByRuleLines cert.root → nodes_in cert.root ≤ 500000 → IsShort cert
few_bytes cert lined few = λ bytes text. sizes.few_bytes bytes cert text (lined_texts cert.root lined) (omega (arith, lined_counts cert.root lined))

-- no certificate has an empty text
pub some_bytes : (bytes : List ℕ) (cert : Certificate) → IsTextOf bytes cert → 1 ≤ length bytes
some_bytes [] cert text = absurd (omega (arith, ap length text.parts, length-append text.head (text.root_line ∷ text.below)))
some_bytes (b ∷ bytes) cert text = omega arith
