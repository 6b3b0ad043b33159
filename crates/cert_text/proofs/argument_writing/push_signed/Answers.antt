use Rattle.std.proofs.Common.{◌≡◌, ℕ, ◌≤◌, List, length, ap, arith, rules}
use Rattle.std.specs.Prelude.{ℤ}
use Rattle.std.specs.Fmt.{signed_decimal}
use Rattle.board_base.specs.Potentials.{IsWithinLimit}
use Rattle.cert_text.proofs.WrittenNumbers.{signed_short}
use Rattle.cert_text.proofs.argument_writing.push_signed.Goals as goal

few : (bytes : List ℕ) (x : ℤ) → bytes ≡ signed_decimal x → IsWithinLimit x → length bytes ≤ 3
few bytes x is near = omega (arith, ap length is, signed_short x near)

pub push_text-requires : goal.push_text-requires
push_text-requires g c = omega (arith, c.requires.room, few c.as_bytes.result.now c.args.number (search rules) c.requires.near)

pub returns-clause-short : goal.returns-clause-short
returns-clause-short g c = omega (arith, c.push_text.ensures.longer, few c.as_bytes.result.now c.args.number (search rules) c.requires.near)
