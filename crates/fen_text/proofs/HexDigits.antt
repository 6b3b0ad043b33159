-- The digits of a set, as they are written from the last on.
use Rattle.std.proofs.Common.{◌≡◌, ℕ, zero, suc, ◌*◌, ◌/◌, ◌%◌, ◌^◌, ◌<◌, ◌==◌, Bool, List, [], ◌∷◌, ◌++◌, map, refl, sym, ap, ◌∙◌, arith, append_assoc, append-nil}
use Rattle.std.proofs.Math.Nat.{div-div-eq-div-mul, pow-suc}
use Rattle.std.proofs.lemmas.Bool.{eqb-true}
use Rattle.std.specs.Prelude.{codes, slice_index_or}
use Rattle.general_lemmas.proofs.Ranges.{all_in_range}
use Rattle.board_base.specs.Squares.{number_of}
use Rattle.fen_text.specs.Sets.{set_text}
use Rattle.fen_text.specs.WrittenDigits.{hex_digit, hex_onto}

-- the numbers below this one, the highest first
abbrev falling : ℕ → List ℕ
falling zero = []
falling (suc k) = k ∷ falling k

last_apart : (f : ℕ → ℕ) (k : ℕ) → map f (falling (suc k)) ≡ map (λ j. f (suc j)) (falling k) ++ f 0 ∷ []
last_apart f zero = refl
last_apart f (suc k) = ap (λ (l : List ℕ). f (suc k) ∷ l) (last_apart f k)

abbrev letter_of : ℕ → ℕ
letter_of d = slice_index_or (codes "0123456789abcdef") d 48

lettered : (d : ℕ) → d < 16 → hex_digit d ≡ letter_of d
lettered d low = eqb-true (hex_digit d) (letter_of d) (all_in_range (λ d. hex_digit d == letter_of d) 0 16 d refl (omega arith) (omega arith))

abbrev digit_at : ℕ → ℕ → ℕ
digit_at n k = letter_of (n / 16 ^ k % 16)

further : (n j : ℕ) → n / 16 / 16 ^ j ≡ n / 16 ^ suc j
further n j =
    let power : 16 * 16 ^ j ≡ 16 ^ suc j = omega (arith, pow-suc 16 j) in
    div-div-eq-div-mul n 16 (16 ^ j) ∙ ap (λ (m : ℕ). n / m) power

digits : (k n : ℕ) (rest : List ℕ) → hex_onto k n rest ≡ map (digit_at n) (falling k) ++ rest
digits zero n rest = refl
digits (suc k) n rest =
    let upper : List ℕ = map (λ j. digit_at n (suc j)) (falling k) in
    let low : hex_digit (n % 16) ≡ letter_of (n % 16) = lettered (n % 16) (omega arith) in
    let whole : n ≡ n / 16 ^ 0 = omega arith in
    digits k (n / 16) (hex_digit (n % 16) ∷ rest) ∙ (λ i. map (λ (j : ℕ). letter_of (further n j i % 16)) (falling k) ++ low i ∷ rest)
    ∙ ap (λ (m : ℕ). upper ++ letter_of (m % 16) ∷ rest) whole ∙ sym (append_assoc upper (digit_at n 0 ∷ []) rest) ∙ ap (λ (l : List ℕ). l ++ rest) (sym (last_apart (digit_at n) k))

-- the text of a set is its number's sixteen digits
pub set_digits : (set : List Bool) → set_text set ≡ hex_onto 16 (number_of set) []
unfolding set_text
set_digits set = sym (digits 16 (number_of set) [] ∙ append-nil _)
