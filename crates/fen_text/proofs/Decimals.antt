-- Numbers and their decimal texts.
use Rattle.std.proofs.Common.{◌≡◌, ℕ, ◌+◌, ◌-◌, ◌*◌, ◌<◌, ◌≤◌, ◌^◌, ◌==◌, ◌⊎◌, inl, inr, true, not, List, length, get_or, Some, None, sym, ap, ◌∙◌, arith, rules, nat_le}
use Rattle.std.proofs.lemmas.Bool.{and_parts, and_from, cond-true, cases_eq, ne_eqb, eq-eqb, le-leb, leb-true, or_left, or_right, or_cases, eqb-true, eqb-false, not-true}
use Rattle.std.proofs.lemmas.Option.{cond_some}
use Rattle.std.proofs.lemmas.Str.Parse.{IsNumeralModel, numerals_by_fold, digits_value_short}
use Rattle.std.proofs.lemmas.Fmt.{digits_decimal, digits_value-decimal, length-decimal-le, decimal_nonempty, decimal_digit, first_decimal, decimal-digits_value}
use Rattle.std.specs.Fmt.{decimal}
use Rattle.std.specs.List.{list_all, fold}
use Rattle.board_base.specs.Texts.{is_digit}
use Rattle.fen_text.specs.Fen.{value}
use Rattle.fen_text.specs.Numbers.{is_plain, is_number, number}

pub model : IsNumeralModel (λ ds. list_all is_digit ds ≡ true) value
model = numerals_by_fold _ (search rules) (λ n ds. fold (λ k d. 10 * k + (d - 48)) n ds) (search rules)

plain_at : (n : ℕ) → n < 2 ^ 64 → (n ≡ 0) ⊎ (n ≡ 0 → ⊥) → is_plain (decimal n) ≡ true
plain_at n small (inl zero) = or_left _ _ (eq-eqb (length (decimal n)) 1 (ap length (ap decimal zero ∙ decimal_digit 0 (omega arith))))
plain_at n small (inr some) =
    let first = first_decimal n (omega arith) small in
    or_right _ _ (ap not (ne_eqb (get_or (decimal n) 0 0) 48 (λ e. omega arith)))

-- the decimal text of a number stands for it
pub number_back : (n : ℕ) → n ≤ 999999 → number (decimal n) ≡ Some n
unfolding number
number_back n few =
    let small : n < 2 ^ 64 = omega arith in
    let some = decimal_nonempty n small in
    let short = length-decimal-le 6 n (omega arith) (omega arith) small in
    let is : is_number (decimal n) ≡ true =
    and_from _ _ (and_from _ _ (and_from _ _ (le-leb 1 (length (decimal n)) (omega arith)) (le-leb (length (decimal n)) 6 short)) (plain_at n small (cases_eq n 0))) (digits_decimal model n small) in
    cond-true (is_number (decimal n)) (Some (value (decimal n))) None is ∙ ap (λ (k : ℕ). Some k) (digits_value-decimal model n small)

-- a text that stands for a number is its decimal text
pub record IsDecimal (text : List ℕ) (n : ℕ) : Type 0 where
  pub text_is : text ≡ decimal n
  pub few : n ≤ 999999

no_padding : (text : List ℕ) → is_plain text ≡ true → get_or text 0 0 ≡ 48 → length text ≡ 1
no_padding text plain first = elim (or_cases (length text == 1) _ plain) [
  | inl one ↦ eqb-true (length text) 1 one
  | inr other ↦ absurd (eqb-false (get_or text 0 0) 48 (not-true _ other) first)
]

pub number_read : (text : List ℕ) (n : ℕ) → number text ≡ Some n → IsDecimal text n
unfolding number
number_read text n e =
    let read = cond_some (is_number text) (value text) n e in
    let last = and_parts _ (list_all is_digit text) read.0 in
    let third = and_parts _ (is_plain text) last.0 in
    let first = and_parts (nat_le 1 (length text)) (nat_le (length text) 6) third.0 in
    let some = leb-true 1 (length text) first.0 in
    let short = leb-true (length text) 6 first.1 in
    let small : value text < 10 ^ 6 = digits_value_short model text 6 last.1 short in
    let is : decimal (value text) ≡ text = decimal-digits_value model text last.1 (omega arith) (no_padding text third.1) (omega arith) in
    record { text_is = sym is ∙ ap decimal read.1; few = let same = read.1 in omega arith }
