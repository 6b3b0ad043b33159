-- Numbers in range, and squares.
use Rattle.std.proofs.Common.{◌≡◌, ℕ, ◌<◌, ◌≤◌, true, ◌&&◌, List, Option, Some, None, sym, ap, ◌∙◌, arith, nat_le}
use Rattle.std.proofs.lemmas.Bool.{and_parts, and_from, cond-true, leb-true}
use Rattle.std.proofs.lemmas.Fmt.{digits_decimal}
use Rattle.std.proofs.lemmas.Option.{cond_some, option_and_then_some}
use Rattle.std.specs.Fmt.{decimal}
use Rattle.std.specs.Option.{option_and_then}
use Rattle.fen_text.specs.Numbers.{number}
use Rattle.fen_text.specs.Parts.{Free}
use Rattle.fen_text.proofs.Decimals.{model, number_back, number_read}
use Rattle.fen_text.proofs.NumberLemmas.{digits_free}
use Rattle.sketch_text.specs.Nodes.{number_within, within}

-- what an option gives, if anything, has the property
abbrev pub Only : {A : Type 0} → (A → Type 0) → Option A → Type 0
Only {A} P o = (a : A) → o ≡ Some a → P a

pub within_back : (least most n : ℕ) → nat_le least n ≡ true → nat_le n most ≡ true → most ≤ 999999 → number_within least most (decimal n) ≡ Some n
unfolding number_within
within_back least most n from to few =
    let under = leb-true n most to in
    ap (option_and_then (within least most)) (number_back n (omega arith)) ∙ cond-true (nat_le least n && nat_le n most) (Some n) None (and_from _ _ from to)

-- a text is that of a number in range
pub record IsWithin (least most : ℕ) (text : List ℕ) (n : ℕ) : Type 0 where
  pub text_is : text ≡ decimal n
  pub from : nat_le least n ≡ true
  pub to : nat_le n most ≡ true

pub within_read : (least most : ℕ) (text : List ℕ) → Only (IsWithin least most text) (number_within least most text)
unfolding number_within
within_read least most text n e =
    option_and_then_some (within least most) (number text) n e (λ k stands made.
    let in_range = cond_some (nat_le least k && nat_le k most) k n made in
    let parts = and_parts (nat_le least k) (nat_le k most) in_range.0 in
    record {
      text_is = (number_read text k stands).text_is ∙ ap decimal in_range.1;
      from = ap (nat_le least) (sym in_range.1) ∙ parts.0;
      to = ap (λ (x : ℕ). nat_le x most) (sym in_range.1) ∙ parts.1;
    })

pub decimal_free : (c n : ℕ) → c < 48 → n ≤ 999999 → Free c (decimal n)
decimal_free c n low few = digits_free c (decimal n) low (digits_decimal model n (omega arith))
