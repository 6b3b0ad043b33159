use Rattle.std.proofs.Common.{◌≡◌, ℕ, ◌≤◌, List, length, ap, arith, rules}
use Rattle.std.proofs.lemmas.Fmt.{length-decimal-le}
use Rattle.std.specs.Fmt.{decimal}
use Rattle.sketch_text.proofs.writing.push_short.Goals as goal

few : (bytes : List ℕ) (x : ℕ) → bytes ≡ decimal x → x ≤ 64 → length bytes ≤ 2
few bytes x is low = omega (arith, ap (λ (l : List ℕ). length l) is, length-decimal-le 2 x (omega arith) (omega arith) (omega arith))

pub push_text-requires : goal.push_text-requires
push_text-requires c = omega (arith, c.requires.room, few c.as_bytes.result.now c.args.number (search rules) c.requires.low)

pub returns-clause-short : goal.returns-clause-short
returns-clause-short c = omega (arith, c.push_text.ensures.longer, few c.as_bytes.result.now c.args.number (search rules) c.requires.low)
