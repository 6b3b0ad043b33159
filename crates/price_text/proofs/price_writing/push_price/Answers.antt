use Rattle.std.proofs.Common.{◌≡◌, ℕ, ◌≤◌, List, length, ap, arith, rules}
use Rattle.std.specs.Fmt.{decimal}
use Rattle.price_text.proofs.PriceTexts.{low_short}
use Rattle.price_text.proofs.price_writing.push_price.Goals as goal

few : (bytes : List ℕ) (x : ℕ) → bytes ≡ decimal x → x ≤ 96 → length bytes ≤ 2
few bytes x is low = omega (arith, ap length is, low_short x low)

pub push_text-requires : goal.push_text-requires
push_text-requires c = omega (arith, c.requires.room, few c.as_bytes.result.now c.args.number (search rules) c.requires.low)

pub returns-clause-short : goal.returns-clause-short
returns-clause-short c = omega (arith, c.push_text.ensures.longer, few c.as_bytes.result.now c.args.number (search rules) c.requires.low)
