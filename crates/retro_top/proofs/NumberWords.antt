-- Words that are numbers.
use Rattle.std.proofs.Common.{◌≡◌, ℕ, ◌<◌, ◌^◌, List, arith}
use Rattle.std.specs.Prelude.{Result, Ok}
use Rattle.std.specs.Str.Parse.{ParsesUnsigned}
use Rattle.std.proofs.lemmas.Fmt.{parse-decimal}
use Rattle.retro_top.specs.Numbers.{IsNumber}

-- a word that is a number is read as it
pub number-parsed : {E : Type 0} (word : List ℕ) (least most n : ℕ) (r : Result ℕ E) → most < 2 ^ 64 → ParsesUnsigned 64 10 word r → IsNumber word least most n → r ≡ Ok n
number-parsed word least most n r small parses is =
    parse-decimal 64 n word r (omega (arith, is.high)) (omega (arith, is.high)) is.text_is parses
