use Rattle.std.proofs.Common.{◌≡◌, inl, inr, sym, ap, ◌∙◌, arith}
use Rattle.std.specs.Prelude.{Ok}
use Rattle.std.specs.Fmt.{decimal}
use Rattle.std.proofs.lemmas.Bool.{both_ways}
use Rattle.retro_top.proofs.NumberWords.{number-parsed}
use Rattle.retro_top.proofs.numbers.read_number.Goals as goal

pub returns-in_default : goal.returns-in_default
returns-in_default c n is =
    let e : c.parse.result ≡ Ok n = number-parsed _ c.args.least c.args.most n _ (omega arith) (rw c.as_str.ensures.value at c.parse.ensures.value.0) is in
    c.in_default.not-Ok n e

pub returns-then-number-least : goal.returns-then-number-least
returns-then-number-least c n is =
    let e : c.parse.result ≡ Ok n = number-parsed _ c.args.least c.args.most n _ (omega arith) (rw c.as_str.ensures.value at c.parse.ensures.value.0) is in
    let same : c.in-Ok.number ≡ n = cc in
    elim c.then-number-least.either [ inl low ↦ omega (arith, is.low) | inr high ↦ omega (arith, is.high) ]

pub returns-else-is_decimal : goal.returns-else-is_decimal
returns-else-is_decimal c n is =
    let e : c.parse.result ≡ Ok n = number-parsed _ c.args.least c.args.most n _ (omega arith) (rw c.as_str.ensures.value at c.parse.ensures.value.0) is in
    let same : c.in-Ok.number ≡ n = cc in
    both_ways _ c.if-is_decimal.false (c.is_decimal.ensures.1 (c.as_str-2.ensures.value ∙ is.text_is ∙ ap decimal (sym same)))
