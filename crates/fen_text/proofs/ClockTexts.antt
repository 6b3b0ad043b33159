-- The line of a clock is read as this clock.
use Rattle.std.proofs.Common.{◌≡◌, ℕ, ◌≤◌, Option, List, ◌++◌, drop, Some, None, inl, inr, refl, sym, ap, ◌∙◌, arith, nat_eq, nat_le}
use Rattle.std.specs.Prelude.{◌↔◌, codes}
use Rattle.std.proofs.lemmas.Bool.{cases_Bool, cond-true, cond-false, le-leb, leb-true}
use Rattle.std.proofs.lemmas.Option.{cond_some}
use Rattle.std.specs.Fmt.{decimal}
use Rattle.std.specs.List.{starts_with}
use Rattle.std.specs.Option.{option_and_then}
use Rattle.fen_text.specs.Numbers.{number}
use Rattle.fen_text.specs.ClockLines.{clock_line, clock_of, clock_text}
use Rattle.fen_text.proofs.Begun.{begun}
use Rattle.fen_text.proofs.Decimals.{number_back, number_read}

pub clock_back : (n : ℕ) → n ≤ 9999 → clock_line (clock_text n) ≡ Some n
unfolding clock_line
clock_back n short =
    ap (option_and_then clock_of) (number_back n (omega arith)) ∙ cond-true (nat_le n 9999) (Some n) None (le-leb n 9999 short)

-- and no other line is
pub record IsClockText (text : List ℕ) (n : ℕ) : Type 0 where
  pub text_is : text ≡ clock_text n
  pub short : n ≤ 9999

after_word : (text : List ℕ) (n : ℕ) (o : Option ℕ) → number (drop 6 text) ≡ o → text ≡ codes "clock " ++ drop 6 text → option_and_then clock_of o ≡ Some n → IsClockText text n
after_word text n None is whole e = cc
after_word text n (Some k) is whole e =
    let read = cond_some (nat_le k 9999) k n e in
    record {
      text_is = whole ∙ ap (λ (t : List ℕ). codes "clock " ++ t) ((number_read (drop 6 text) k is).text_is ∙ ap decimal read.1);
      short = let few = leb-true k 9999 read.0 in let same = read.1 in omega arith;
    }

pub clock_read : (text : List ℕ) (n : ℕ) → clock_line text ≡ Some n → IsClockText text n
unfolding clock_line
clock_read text n e = elim (cases_Bool (starts_with nat_eq text (codes "clock "))) [
  | inl starts ↦
      after_word text n (number (drop 6 text)) refl (begun text (codes "clock ") starts) (sym (cond-true (starts_with nat_eq text (codes "clock ")) (option_and_then clock_of (number (drop 6 text))) None starts) ∙ e)
  | inr other ↦ let none = sym (cond-false (starts_with nat_eq text (codes "clock ")) (option_and_then clock_of (number (drop 6 text))) None other) ∙ e in cc
]

pub clock_law : (text : List ℕ) (n : ℕ) → clock_line text ≡ Some n ↔ ((n ≤ 9999) × (text ≡ clock_text n))
clock_law text n = (λ e. let line = clock_read text n e in (line.short, line.text_is), λ h. ap clock_line h.1 ∙ clock_back n h.0)
