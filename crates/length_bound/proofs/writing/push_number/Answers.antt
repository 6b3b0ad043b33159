use Rattle.std.proofs.Common.{◌≡◌, ℕ, ◌≤◌, List, length, ap, arith, rules}
use Rattle.std.specs.Fmt.{decimal}
use Rattle.std.proofs.lemmas.Fmt.{length-decimal-le}
use Rattle.length_bound.proofs.writing.push_number.Goals as goal

few : (bytes : List ℕ) (n : ℕ) → bytes ≡ decimal n → n ≤ 9999 → length bytes ≤ 4
few bytes n is small = omega (arith, ap length is, length-decimal-le 4 n (omega arith) (omega arith) (omega arith))

pub push_text-requires : goal.push_text-requires
push_text-requires c = omega (arith, c.requires.room, few c.as_bytes.result.now c.args.number (search rules) c.requires.small)

pub returns-clause-short : goal.returns-clause-short
returns-clause-short c = omega (arith, c.push_text.ensures.longer, few c.as_bytes.result.now c.args.number (search rules) c.requires.small)
