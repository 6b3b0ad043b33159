-- Numbers from -64 to 64 and their texts.
use Rattle.std.proofs.Common.{◌≡◌, ℕ, zero, suc, ◌<◌, ◌≤◌, ◌&&◌, true, false, not, List, [], ◌∷◌, drop, Some, None, inl, inr, refl, sym, ap, ◌∙◌, arith, nat_eq, nat_le}
use Rattle.std.specs.Prelude.{codes, ℤ, pos, negsuc}
use Rattle.std.proofs.lemmas.Bool.{and_parts, and_from, and_left, cond-true, cond-false, cases_Bool, le-leb, leb-true, ne_eqb}
use Rattle.std.proofs.lemmas.Option.{cond_some, option_and_then_some}
use Rattle.std.proofs.lemmas.Fmt.{digits_decimal}
use Rattle.std.specs.Fmt.{decimal, signed_decimal}
use Rattle.std.specs.List.{list_all, starts_with}
use Rattle.std.specs.Option.{option_and_then}
use Rattle.board_base.specs.Texts.{is_digit}
use Rattle.fen_text.specs.Parts.{Free}
use Rattle.fen_text.proofs.NumberLemmas.{digits_free}
use Rattle.fen_text.specs.Numbers.{number}
use Rattle.cert_text.specs.Arguments.{negative, positive, signed}
use Rattle.cert_text.specs.Writable.{is_near}
use Rattle.fen_text.proofs.Decimals.{model, number_back, number_read}
use Rattle.fen_text.proofs.Begun.{begun}

no_dash : (text : List ℕ) → list_all is_digit text ≡ true → starts_with nat_eq text (codes "-") ≡ false
no_dash [] all = refl
no_dash (b ∷ text) all =
    let digit = (and_parts (is_digit b) (list_all is_digit text) all).0 in
    let high : 48 ≤ b = leb-true 48 b (and_parts (nat_le 48 b) (nat_le b 57) digit).0 in
    and_left _ _ (ne_eqb 45 b (λ e. omega arith))

-- the text of a number stands for it
pub signed_back : (x : ℤ) → is_near x ≡ true → signed (signed_decimal x) ≡ Some x
unfolding signed
signed_back (pos n) near =
    let few : n ≤ 64 = leb-true n 64 near in
    cond-false (starts_with nat_eq (decimal n) (codes "-")) (option_and_then negative (number (drop 1 (decimal n)))) (option_and_then positive (number (decimal n))) (no_dash (decimal n) (digits_decimal model n (omega arith)))
    ∙ ap (option_and_then positive) (number_back n (omega arith)) ∙ cond-true (nat_le n 64) (Some (pos n)) None near
signed_back (negsuc n) near =
    let few : suc n ≤ 64 = leb-true (suc n) 64 near in
    ap (option_and_then negative) (number_back (suc n) (omega arith)) ∙ cond-true (nat_le 1 (suc n) && nat_le (suc n) 64) (Some (negsuc n)) None (and_from _ _ (le-leb 1 (suc n) (omega arith)) near)

-- a text is the one of a number
pub record IsTextOfNumber (text : List ℕ) (x : ℤ) : Type 0 where
  pub text_is : text ≡ signed_decimal x
  pub near : is_near x ≡ true

after_dash : (text : List ℕ) (k : ℕ) (x : ℤ) → text ≡ 45 ∷ decimal k → negative k ≡ Some x → IsTextOfNumber text x
after_dash text zero x whole e = absurd cc
after_dash text (suc n) x whole e =
    let read = cond_some (nat_le 1 (suc n) && nat_le (suc n) 64) (negsuc n) x e in
    record { text_is = whole ∙ ap signed_decimal read.1; near = ap is_near (sym read.1) ∙ (and_parts (nat_le 1 (suc n)) (nat_le (suc n) 64) read.0).1 }

alone : (text : List ℕ) (k : ℕ) (x : ℤ) → text ≡ decimal k → positive k ≡ Some x → IsTextOfNumber text x
alone text k x whole e =
    let read = cond_some (nat_le k 64) (pos k) x e in
    record { text_is = whole ∙ ap signed_decimal read.1; near = ap is_near (sym read.1) ∙ read.0 }

pub signed_read : (text : List ℕ) (x : ℤ) → signed text ≡ Some x → IsTextOfNumber text x
unfolding signed
signed_read text x e = elim (cases_Bool (starts_with nat_eq text (codes "-"))) [
  | inl dashed ↦
      let here = sym (cond-true (starts_with nat_eq text (codes "-")) (option_and_then negative (number (drop 1 text))) (option_and_then positive (number text)) dashed) ∙ e in
      option_and_then_some negative (number (drop 1 text)) x here (λ k is stands. after_dash text k x (begun text (codes "-") dashed ∙ ap (λ (l : List ℕ). 45 ∷ l) (number_read (drop 1 text) k is).text_is) stands)
  | inr other ↦
      let here = sym (cond-false (starts_with nat_eq text (codes "-")) (option_and_then negative (number (drop 1 text))) (option_and_then positive (number text)) other) ∙ e in
      option_and_then_some positive (number text) x here (λ k is stands. alone text k x (number_read text k is).text_is stands)
]

-- no byte below - stands in the text of a number
pub signed_free : (c : ℕ) (x : ℤ) → c < 45 → is_near x ≡ true → Free c (signed_decimal x)
signed_free c (pos n) low near =
    let few : n ≤ 64 = leb-true n 64 near in
    digits_free c (decimal n) (omega arith) (digits_decimal model n (omega arith))
signed_free c (negsuc n) low near =
    let few : suc n ≤ 64 = leb-true (suc n) 64 near in
    and_from _ _ (ap not (ne_eqb 45 c (λ e. omega arith))) (digits_free c (decimal (suc n)) (omega arith) (digits_decimal model (suc n) (omega arith)))
