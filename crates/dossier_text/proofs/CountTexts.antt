-- The line that says how many bytes a part has, and its text.
use Rattle.std.proofs.Common.{◌≡◌, ℕ, ◌<◌, ◌≤◌, ◌^◌, ◌&&◌, true, false, nat_eq, nat_le, List, ◌∷◌, [], ◌++◌, length, drop, get_or, inl, inr, Option, Some, None, refl, sym, ap, ◌∙◌, arith}
use Rattle.std.specs.Prelude.{MatchOption, codes}
use Rattle.std.specs.Fmt.{decimal}
use Rattle.std.specs.List.{list_all, starts_with}
use Rattle.std.specs.Option.{option_and_then}
use Rattle.std.proofs.lemmas.Bool.{and_from, and_parts, cases_Bool, cases_eq, cond-false, cond-true, le-leb, leb-true}
use Rattle.std.proofs.lemmas.Bool.Decides.{Decides-eqb}
use Rattle.std.proofs.lemmas.Fmt.{decimal-digits_value, decimal_digit, decimal_nonempty, digits_decimal, digits_value-decimal, first_decimal, length-decimal-le}
use Rattle.std.proofs.lemmas.Option.{cond_some, option_and_then_some}
use Rattle.std.proofs.lemmas.Slice.Eq.{starts_is}
use Rattle.std.proofs.lemmas.Str.Parse.{digits_value_short}
use Rattle.general_lemmas.proofs.Options.{when}
use Rattle.board_base.specs.Texts.{is_digit}
use Rattle.fen_text.specs.Fen.{number, value}
use Rattle.fen_text.specs.Parts.{Free}
use Rattle.fen_text.proofs.Begun.{begun}
use Rattle.fen_text.proofs.Decimals.{model}
use Rattle.fen_text.proofs.NumberLemmas.{digits_free}
use Rattle.cert_text.specs.Lines.{ended, said}
use Rattle.cert_text.proofs.SpelledLines.{said_back, said_read}
use Rattle.dossier_text.specs.Dossiers.{count_line}
use Rattle.dossier_text.specs.HeadReading.{count_of, size_of, up_to_64_mi}

-- a text that begins with the digit 0

zero_starts : (text : List ℕ) → 1 ≤ length text → get_or text 0 0 ≡ 48 → starts_with nat_eq text (codes "0") ≡ true
zero_starts [] some first = absurd (omega arith)
zero_starts (b ∷ text) some first = (starts_is Decides-eqb (b ∷ text) (codes "0") (starts_with nat_eq (b ∷ text) (codes "0")) refl).1 text (ap (λ (n : ℕ). n ∷ text) first)

starts_plain : (text : List ℕ) → (get_or text 0 0 ≡ 48 → ⊥) → starts_with nat_eq text (codes "0") ≡ false
starts_plain text other = elim (cases_Bool (starts_with nat_eq text (codes "0"))) [
  | inl zero ↦ absurd (other (ap (λ (l : List ℕ). get_or l 0 0) (begun text (codes "0") zero)))
  | inr plain ↦ plain
]

-- the text of a size is read as it

number_back : (n : ℕ) → n ≤ 67108864 → number (decimal n) ≡ Some n
unfolding number
number_back n few =
    let small : n < 2 ^ 64 = omega arith in
    let some = decimal_nonempty n small in
    let short = length-decimal-le 9 n (omega arith) (omega arith) small in
    cond-true (nat_le 1 (length (decimal n)) && nat_le (length (decimal n)) 9 && list_all is_digit (decimal n)) (Some (value (decimal n))) None (and_from _ _ (and_from _ _ (le-leb 1 (length (decimal n)) (omega arith)) (le-leb (length (decimal n)) 9 short)) (digits_decimal model n small))
    ∙ ap (λ (k : ℕ). Some k) (digits_value-decimal model n small)

size_back : (n : ℕ) → 1 ≤ n → n ≤ 67108864 → size_of (decimal n) ≡ Some n
unfolding size_of
size_back n some few =
    let first = first_decimal n (omega arith) (omega arith) in
    cond-false (starts_with nat_eq (decimal n) (codes "0")) None (option_and_then up_to_64_mi (number (decimal n))) (starts_plain (decimal n) (λ e. omega arith))
    ∙ ap (option_and_then up_to_64_mi) (number_back n few) ∙ cond-true (nat_le n 67108864) (Some n) None (le-leb n 67108864 few)

count_back : (n : ℕ) → 1 ≤ n → n ≤ 67108864 → said count_of (count_line n) ≡ Some n
unfolding count_of
count_back n some few = said_back count_of (codes "part " ++ decimal n) n (size_back n some few)

-- and a text that is read as a size is its text

record IsDecimal (text : List ℕ) (n : ℕ) : Type 0 where
  text_is : text ≡ decimal n
  some : 1 ≤ n

digits_read : (text : List ℕ) (n : ℕ) → starts_with nat_eq text (codes "0") ≡ false → number text ≡ Some n → IsDecimal text n
unfolding number
digits_read text n plain e =
    let read = cond_some (nat_le 1 (length text) && nat_le (length text) 9 && list_all is_digit text) (value text) n e in
    let last = and_parts (nat_le 1 (length text) && nat_le (length text) 9) (list_all is_digit text) read.0 in
    let first = and_parts (nat_le 1 (length text)) (nat_le (length text) 9) last.0 in
    let some : 1 ≤ length text = leb-true 1 (length text) first.0 in
    let short : length text ≤ 9 = leb-true (length text) 9 first.1 in
    let small : value text < 10 ^ 9 = digits_value_short model text 9 last.1 short in
    let other : get_or text 0 0 ≡ 48 → ⊥ = λ zero. let starts = zero_starts text some zero in absurd cc in
    let is : decimal (value text) ≡ text = decimal-digits_value model text last.1 (omega arith) (λ zero. absurd (other zero)) (omega arith) in
    let text_is : text ≡ decimal n = sym is ∙ ap decimal read.1 in
    record {
      text_is = text_is;
      some = elim (cases_eq n 0) [
        | inl zero ↦ absurd (other (ap (λ (l : List ℕ). get_or l 0 0) (text_is ∙ ap decimal zero ∙ decimal_digit 0 (omega arith))))
        | inr more ↦ omega arith
      ];
    }

record IsSize (text : List ℕ) (n : ℕ) : Type 0 where
  text_is : text ≡ decimal n
  some : 1 ≤ n
  few : n ≤ 67108864

size_read : (text : List ℕ) (n : ℕ) → size_of text ≡ Some n → IsSize text n
unfolding size_of
size_read text n e = elim (cases_Bool (starts_with nat_eq text (codes "0"))) [
  | inl zero ↦ let none = sym (cond-true (starts_with nat_eq text (codes "0")) None (option_and_then up_to_64_mi (number text)) zero) ∙ e in absurd cc
  | inr plain ↦
      option_and_then_some up_to_64_mi (number text) n (sym (cond-false (starts_with nat_eq text (codes "0")) None (option_and_then up_to_64_mi (number text)) plain) ∙ e) (λ k is small.
      let read = cond_some (nat_le k 67108864) k n small in
      let digits = digits_read text k plain is in
      let some : 1 ≤ k = digits.some in
      let few : k ≤ 67108864 = leb-true k 67108864 read.0 in
      let same : k ≡ n = read.1 in
      record { text_is = digits.text_is ∙ ap decimal same; some = omega arith; few = omega arith })
]

record IsCount (line : List ℕ) (n : ℕ) : Type 0 where
  line_is : line ≡ count_line n
  some : 1 ≤ n
  few : n ≤ 67108864

count_read : (line : List ℕ) (n : ℕ) → said count_of line ≡ Some n → IsCount line n
unfolding count_of
count_read line n e =
    let says = said_read count_of line n e in
    let parts = when (starts_with nat_eq says.text (codes "part ")) (size_of (drop 5 says.text)) n says.stands in
    let size = size_read (drop 5 says.text) n parts.1 in
    record {
      line_is = says.line_is ∙ ap ended (begun says.text (codes "part ") parts.0 ∙ ap (λ (l : List ℕ). codes "part " ++ l) size.text_is);
      some = size.some;
      few = size.few;
    }

-- what is read of a line
pub counted : (line : List ℕ) (o : Option ℕ) → o ≡ said count_of line → MatchOption o ((n : ℕ) → 1 ≤ n → n ≤ 67108864 → line ≡ count_line n → ⊥) (λ n. (line ≡ count_line n) × (1 ≤ n) × (n ≤ 67108864))
counted line None e = λ n some few is. let read = e ∙ ap (said count_of) is ∙ count_back n some few in cc
counted line (Some n) e = let read = count_read line n (sym e) in (read.line_is, read.some, read.few)

-- a line says one number
pub one_count : (m n : ℕ) → m ≤ 67108864 → n ≤ 67108864 → decimal m ≡ decimal n → m ≡ n
one_count m n few less e = sym (digits_value-decimal model m (omega arith)) ∙ ap value e ∙ digits_value-decimal model n (omega arith)

pub count_free : (n : ℕ) → n ≤ 67108864 → Free 10 (codes "part " ++ decimal n)
count_free n few = digits_free 10 (decimal n) (omega arith) (digits_decimal model n (omega arith))
