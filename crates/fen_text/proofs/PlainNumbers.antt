-- Numbers of one to six digits.
use Rattle.std.proofs.Common.{◌≡◌, ℕ, ◌<◌, ◌≤◌, Bool, true, false, ◌&&◌, cond, Some, None, List, length, refl, ap, sym, ◌∙◌, arith}
use Rattle.std.proofs.lemmas.Bool.{and_left, and_right, le-leb, lt-leb, cond-false}
use Rattle.std.specs.List.{list_all}
use Rattle.board_base.specs.Texts.{is_digit}
use Rattle.general_lemmas.proofs.Truth.{both_true}
use Rattle.fen_text.specs.Fen.{value, number as digits}
use Rattle.fen_text.specs.Numbers.{is_plain, is_number, number}

no_number : (text : List ℕ) → is_number text ≡ false → number text ≡ None
unfolding number
no_number text e = cond-false (is_number text) (Some (value text)) None e

pub number_empty : (text : List ℕ) → length text < 1 → number text ≡ None
number_empty text empty = no_number text (and_left _ _ (and_left _ _ (and_left _ _ (lt-leb 1 (length text) empty))))

pub number_long : (text : List ℕ) → 6 < length text → number text ≡ None
number_long text long = no_number text (and_left _ _ (and_left _ _ (and_right _ _ (lt-leb (length text) 6 long))))

pub number_padded : (text : List ℕ) → is_plain text ≡ false → number text ≡ None
number_padded text padded = no_number text (and_left _ _ (and_right _ _ padded))

last_of : (a b c d : Bool) → a ≡ true → b ≡ true → c ≡ true → (a && b && c && d) ≡ d
last_of a b c d p q r = rw (p, q, r) refl

-- with no leading zero, one to six digits stand for their value
pub number_digits : (text : List ℕ) → 1 ≤ length text → length text ≤ 6 → is_plain text ≡ true → digits text ≡ number text
unfolding number digits
number_digits text some few plain =
    ap (λ (b : Bool). cond b (Some (value text)) None) (both_true _ _ (list_all is_digit text) (le-leb 1 (length text) some) (le-leb (length text) 9 (omega arith))
    ∙ sym (last_of _ _ (is_plain text) (list_all is_digit text) (le-leb 1 (length text) some) (le-leb (length text) 6 few) plain))
