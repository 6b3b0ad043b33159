-- Sets of squares and their texts.
use Rattle.std.proofs.Common.{◌≡◌, ℕ, zero, suc, ◌+◌, ◌*◌, ◌/◌, ◌%◌, ◌^◌, ◌<◌, ◌≤◌, ◌==◌, Bool, true, false, cond, not, List, [], ◌∷◌, ◌++◌, length, take, get_or, Some, None, refl, sym, ap, ◌∙◌, subst, arith, append-nil, take_all}
use Rattle.std.proofs.Math.Nat.{pow-suc, pow-le-pow_right}
use Rattle.std.proofs.lemmas.Bool.{and_parts, and_from, and_left, and_right, cond-true, cond-false, eq-eqb, eqb-true, ne_eqb}
use Rattle.std.proofs.lemmas.Bool.Decides.{nat_tests}
use Rattle.std.proofs.lemmas.List.{take_more}
use Rattle.std.proofs.lemmas.List.Folds.{list_all-append}
use Rattle.std.proofs.lemmas.Option.{cond_some}
use Rattle.std.specs.List.{list_all}
use Rattle.board_base.specs.Squares.{number_of, squares_of}
use Rattle.board_base.specs.SquareNumbers.{length-squares_of, number_of-lt, number_of-squares_of}
use Rattle.fen_text.specs.Parts.{Free}
use Rattle.fen_text.specs.Sets.{hex_from, hex_value, is_hex, is_set, is_whole, set_of, set_text}
use Rattle.fen_text.specs.WrittenDigits.{hex_digit, hex_onto}
use Rattle.fen_text.proofs.HexDigits.{set_digits}

-- digits

hex_low : (b : ℕ) → is_hex b ≡ true → hex_value b < 16
hex_low b h = grind (arith, nat_tests)

hex_high : (b : ℕ) → is_hex b ≡ true → 48 ≤ b
hex_high b h = grind (arith, nat_tests)

hex_same : (b : ℕ) → is_hex b ≡ true → hex_digit (hex_value b) ≡ b
hex_same b h = grind (arith, nat_tests)

hex_is : (d : ℕ) → d < 16 → is_hex (hex_digit d) ≡ true
hex_is d low = grind (arith, nat_tests)

hex_again : (d : ℕ) → d < 16 → hex_value (hex_digit d) ≡ d
hex_again d low = grind (arith, nat_tests)

-- numbers

hex_read : (text : List ℕ) (k n : ℕ) (rest : List ℕ) → list_all is_hex text ≡ true → hex_onto (k + length text) (hex_from n text) rest ≡ hex_onto k n (text ++ rest)
hex_read [] k n rest all = ap (λ (j : ℕ). hex_onto j n rest) (let e : k + 0 ≡ k = omega arith in e)
hex_read (b ∷ text) k n rest all =
    let parts = and_parts (is_hex b) (list_all is_hex text) all in
    let v : ℕ = hex_value b in
    let low : v < 16 = hex_low b parts.0 in
    let size : k + length (b ∷ text) ≡ suc k + length text = omega arith in
    let above : (16 * n + v) / 16 ≡ n = omega arith in
    let last : (16 * n + v) % 16 ≡ v = omega arith in
    ap (λ (j : ℕ). hex_onto j (hex_from (16 * n + v) text) rest) size ∙ hex_read text (suc k) (16 * n + v) rest parts.1
    ∙ ap (λ (m : ℕ). hex_onto k m (hex_digit ((16 * n + v) % 16) ∷ (text ++ rest))) above ∙ ap (λ (m : ℕ). hex_onto k n (hex_digit m ∷ (text ++ rest))) last
    ∙ ap (λ (d : ℕ). hex_onto k n (d ∷ (text ++ rest))) (hex_same b parts.0)

hex_below : (text : List ℕ) (k n : ℕ) → n < 16 ^ k → list_all is_hex text ≡ true → hex_from n text < 16 ^ (k + length text)
hex_below [] k n low all = let e : k + 0 ≡ k = omega arith in rw e low
hex_below (b ∷ text) k n low all =
    let parts = and_parts (is_hex b) (list_all is_hex text) all in
    let digit : hex_value b < 16 = hex_low b parts.0 in
    let size : k + length (b ∷ text) ≡ suc k + length text = omega arith in
    let more : 16 * n + hex_value b < 16 ^ suc k = omega (arith, pow-suc 16 k) in
    rw size (hex_below text (suc k) (16 * n + hex_value b) more parts.1)

hex_back : (k n : ℕ) (rest : List ℕ) → n < 16 ^ k → hex_from 0 (hex_onto k n rest) ≡ hex_from n rest
hex_back zero n rest low = let e : 0 ≡ n = omega arith in ap (λ (m : ℕ). hex_from m rest) e
hex_back (suc k) n rest low =
    let less : n / 16 < 16 ^ k = omega (arith, pow-suc 16 k) in
    let digit : hex_value (hex_digit (n % 16)) ≡ n % 16 = hex_again (n % 16) (omega arith) in
    let whole : 16 * (n / 16) + hex_value (hex_digit (n % 16)) ≡ n = omega arith in
    hex_back k (n / 16) (hex_digit (n % 16) ∷ rest) less ∙ ap (λ (m : ℕ). hex_from m rest) whole

hex_all : (k n : ℕ) (rest : List ℕ) → list_all is_hex rest ≡ true → list_all is_hex (hex_onto k n rest) ≡ true
hex_all zero n rest all = all
hex_all (suc k) n rest all = hex_all k (n / 16) (hex_digit (n % 16) ∷ rest) (and_from _ _ (hex_is (n % 16) (omega arith)) all)

hex_length : (k n : ℕ) (rest : List ℕ) → length (hex_onto k n rest) ≡ k + length rest
hex_length zero n rest = let e : length rest ≡ 0 + length rest = omega arith in e
hex_length (suc k) n rest = let more = hex_length k (n / 16) (hex_digit (n % 16) ∷ rest) in omega arith

pub set_length : (set : List Bool) → length (set_text set) ≡ 16
set_length set = ap length (set_digits set) ∙ hex_length 16 (number_of set) []

-- sets of 64 truth values are told by their numbers

double-of : (x y : ℕ) (a b : Bool) → cond a 1 0 + 2 * x ≡ cond b 1 0 + 2 * y → (a ≡ b) × (x ≡ y)
double-of x y true true e = (refl, omega arith)
double-of x y true false e = absurd (omega arith)
double-of x y false true e = absurd (omega arith)
double-of x y false false e = (refl, omega arith)

same_set : (a b : List Bool) → length a ≡ length b → number_of a ≡ number_of b → a ≡ b
unfolding number_of
same_set [] [] size e = refl
same_set [] (y ∷ b) size e = absurd (omega arith)
same_set (x ∷ a) [] size e = absurd (omega arith)
same_set (x ∷ a) (y ∷ b) size e =
    let parts = double-of (number_of a) (number_of b) x y e in
    ap (λ (t : Bool). t ∷ a) parts.0 ∙ ap (λ (l : List Bool). y ∷ l) (same_set a b (omega arith) parts.1)

number_fits : (set : List Bool) → length set ≡ 64 → number_of set < 2 ^ 64
number_fits set size = subst (λ (k : ℕ). number_of set < 2 ^ k) size (number_of-lt set)

squares_again : (set : List Bool) → length set ≡ 64 → squares_of (number_of set) ≡ set
squares_again set size =
    same_set (squares_of (number_of set)) set (length-squares_of (number_of set) ∙ sym size) (number_of-squares_of (number_of set) (number_fits set size))

-- the text of a set stands for it
pub set_back : (set : List Bool) → is_whole set ≡ true → set_of (set_text set) ≡ Some set
unfolding set_of
set_back set whole =
    let size : length set ≡ 64 = eqb-true (length set) 64 whole in
    let n : ℕ = number_of set in
    let low : n < 16 ^ 16 = number_fits set size in
    let is : is_set (hex_onto 16 n []) ≡ true = and_from _ _ (eq-eqb (length (hex_onto 16 n [])) 16 (hex_length 16 n [])) (hex_all 16 n [] refl) in
    ap set_of (set_digits set) ∙ cond-true (is_set (hex_onto 16 n [])) (Some (squares_of (hex_from 0 (hex_onto 16 n [])))) None is
    ∙ ap (λ (m : ℕ). Some (squares_of m)) (hex_back 16 n [] low) ∙ ap (λ (l : List Bool). Some l) (squares_again set size)

-- a text is the one of a set
pub record IsTextOfSet (text : List ℕ) (set : List Bool) : Type 0 where
  pub text_is : text ≡ set_text set
  pub whole : is_whole set ≡ true

pub set_read : (text : List ℕ) (set : List Bool) → set_of text ≡ Some set → IsTextOfSet text set
unfolding set_of
set_read text set e =
    let read = cond_some (is_set text) (squares_of (hex_from 0 text)) set e in
    let parts = and_parts (length text == 16) (list_all is_hex text) read.0 in
    let size : length text ≡ 16 = eqb-true (length text) 16 parts.0 in
    let below : hex_from 0 text < 16 ^ (0 + length text) = hex_below text 0 0 (omega arith) parts.1 in
    let sixteen : 0 + length text ≡ 16 = omega arith in
    let low : hex_from 0 text < 2 ^ 64 = rw sixteen at below in
    let number : number_of set ≡ hex_from 0 text = ap number_of (sym read.1) ∙ number_of-squares_of (hex_from 0 text) low in
    record {
      text_is = sym (set_digits set ∙ ap (λ (m : ℕ). hex_onto 16 m []) number ∙ ap (λ (k : ℕ). hex_onto k (hex_from 0 text) []) (sym sixteen) ∙ hex_read text 0 0 [] parts.1 ∙ append-nil text);
      whole = eq-eqb (length set) 64 (ap length (sym read.1) ∙ length-squares_of (hex_from 0 text));
    }

-- no byte below that of 0 stands in the text of a set
hexes_free : (c : ℕ) (text : List ℕ) → c < 48 → list_all is_hex text ≡ true → Free c text
hexes_free c [] low all = refl
hexes_free c (b ∷ text) low all =
    let parts = and_parts (is_hex b) (list_all is_hex text) all in
    let high : 48 ≤ b = hex_high b parts.0 in
    and_from _ _ (ap not (ne_eqb b c (λ e. omega arith))) (hexes_free c text low parts.1)

pub set_free : (c : ℕ) (set : List Bool) → c < 48 → Free c (set_text set)
set_free c set low = subst (Free c) (sym (set_digits set)) (hexes_free c (hex_onto 16 (number_of set) []) low (hex_all 16 (number_of set) [] refl))

-- reading

-- how far a set was read
pub record SetSoFar (text : List ℕ) (i bits : ℕ) : Type 0 where
  pub digits : list_all is_hex (take i text) ≡ true
  pub is : bits ≡ hex_from 0 (take i text)
  pub small : bits < 16 ^ i

hex_more : (text : List ℕ) (n b : ℕ) → hex_from n (text ++ b ∷ []) ≡ 16 * hex_from n text + hex_value b
hex_more [] n b = refl
hex_more (a ∷ text) n b = hex_more text (16 * n + hex_value a) b

pub set_none : (text : List ℕ) → is_set text ≡ false → set_of text ≡ None
unfolding set_of
set_none text e = cond-false (is_set text) (Some (squares_of (hex_from 0 text))) None e

pub set_size : (text : List ℕ) → (length text ≡ 16 → ⊥) → set_of text ≡ None
set_size text other = set_none text (and_left _ _ (ne_eqb (length text) 16 other))

bad_inside : (text : List ℕ) (i : ℕ) → i < length text → is_hex (get_or text i 0) ≡ false → list_all is_hex text ≡ false
bad_inside [] i inside bad = absurd (omega arith)
bad_inside (b ∷ text) zero inside bad = and_left _ _ bad
bad_inside (b ∷ text) (suc i) inside bad = and_right (is_hex b) _ (bad_inside text i (omega arith) bad)

pub set_bad : (text : List ℕ) (i : ℕ) → i < length text → is_hex (get_or text i 0) ≡ false → set_of text ≡ None
set_bad text i inside bad = set_none text (and_right (length text == 16) _ (bad_inside text i inside bad))

pub set_begun : (text : List ℕ) → SetSoFar text 0 0
set_begun text = record { digits = refl; is = refl; small = omega arith }

pub set_next : (text : List ℕ) (i bits : ℕ) → i < length text → is_hex (get_or text i 0) ≡ true → SetSoFar text i bits → SetSoFar text (i + 1) (16 * bits + hex_value (get_or text i 0))
set_next text i bits inside good s =
    let more : take (i + 1) text ≡ take i text ++ get_or text i 0 ∷ [] = take_more text i 0 inside in
    let low : hex_value (get_or text i 0) < 16 = hex_low (get_or text i 0) good in
    let size : i + 1 ≡ suc i = omega arith in
    let power : 16 ^ (i + 1) ≡ 16 * 16 ^ i = ap (λ (k : ℕ). 16 ^ k) size ∙ pow-suc 16 i ∙ (let turned : 16 ^ i * 16 ≡ 16 * 16 ^ i = omega arith in turned) in
    let small = s.small in
    record {
      digits = ap (list_all is_hex) more ∙ list_all-append is_hex (take i text) (get_or text i 0 ∷ []) ∙ and_from _ _ s.digits (and_from _ _ good refl);
      is = ap (λ (n : ℕ). 16 * n + hex_value (get_or text i 0)) s.is ∙ sym (hex_more (take i text) 0 (get_or text i 0)) ∙ ap (hex_from 0) (sym more);
      small = omega arith;
    }

-- sixteen digits fit
pub set_room : (text : List ℕ) (i bits : ℕ) → i < 16 → SetSoFar text i bits → 16 * bits + 15 < 2 ^ 64
set_room text i bits low s =
    let most : 16 ^ i ≤ 16 ^ 15 = pow-le-pow_right {n = 16} (omega arith) {i = i} {j = 15} (omega arith) in
    let top : 16 * 16 ^ 15 ≡ 2 ^ 64 = refl in
    let small = s.small in
    omega arith

pub set_done : (text : List ℕ) (i bits : ℕ) → length text ≡ 16 → length text ≤ i → SetSoFar text i bits → set_of text ≡ Some (squares_of bits)
unfolding set_of
set_done text i bits size end s =
    let all : take i text ≡ text = take_all i text end in
    cond-true (is_set text) (Some (squares_of (hex_from 0 text))) None (and_from _ _ (eq-eqb (length text) 16 size) (ap (list_all is_hex) (sym all) ∙ s.digits))
    ∙ ap (λ (n : ℕ). Some (squares_of n)) (ap (hex_from 0) (sym all) ∙ sym s.is)
