use Rattle.std.proofs.Common.{◌≡◌, length, ◌∙◌, sym, arith}
use Rattle.std.proofs.lemmas.Bool.{eqb-true, eqb-false}
use Rattle.fen_text.proofs.PlainNumbers.{number_empty, number_long, number_padded, number_digits}
use Rattle.fen_text.proofs.numbers.read_number.Goals as goal

pub returns-then-is_empty : goal.returns-then-is_empty
returns-then-is_empty c =
    let empty : length c.args.text.now ≡ 0 = eqb-true _ 0 (sym c.is_empty.ensures ∙ c.if-is_empty.true) in
    sym (number_empty _ (omega arith))

pub returns-then-text-gt6 : goal.returns-then-text-gt6
returns-then-text-gt6 c = sym (number_long _ c.if-text-gt6.true)

pub returns-then-not-is_plain : goal.returns-then-not-is_plain
returns-then-not-is_plain c = sym (number_padded _ (sym c.is_plain.ensures ∙ c.if-not-is_plain.true))

pub returns : goal.returns
returns c =
    let some = eqb-false _ 0 (sym c.is_empty.ensures ∙ c.if-is_empty.false) in
    c.read_digits.ensures ∙ number_digits c.args.text.now (omega arith) (omega (arith, c.if-text-gt6.false)) (sym c.is_plain.ensures ∙ c.if-not-is_plain.false)
