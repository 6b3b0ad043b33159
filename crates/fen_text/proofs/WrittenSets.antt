-- The text of a set, as it is written.
use Rattle.std.proofs.Common.{◌≡◌, ℕ, suc, ◌+◌, ◌/◌, ◌%◌, ◌<◌, Bool, List, [], ◌∷◌, length, drop, set, sym, ap, ◌∙◌, arith}
use Rattle.std.proofs.lemmas.List.{drop-set, length-set}
use Rattle.board_base.specs.Squares.{number_of}
use Rattle.fen_text.specs.Sets.{set_text}
use Rattle.fen_text.specs.WrittenDigits.{hex_digit, hex_onto}
use Rattle.fen_text.proofs.HexDigits.{set_digits}

-- how far the digits of a set were written, the last ones first
pub record DigitsSoFar (members : List Bool) (place bits : ℕ) (text : List ℕ) : Type 0 where
  pub size : length text ≡ 16
  pub rest : hex_onto place bits (drop place text) ≡ set_text members

pub digits_begun : (members : List Bool) (bits : ℕ) (text : List ℕ) → bits ≡ number_of members → length text ≡ 16 → drop 16 text ≡ [] → DigitsSoFar members 16 bits text
digits_begun members bits text e size none =
    record { size = size; rest = ap (λ (n : ℕ). hex_onto 16 n (drop 16 text)) e ∙ ap (hex_onto 16 (number_of members)) none ∙ sym (set_digits members) }

pub digits_next : (members : List Bool) (place bits digit : ℕ) (text : List ℕ) → place < 16 → digit ≡ hex_digit (bits % 16) → DigitsSoFar members (suc place) bits text → DigitsSoFar members place (bits / 16) (set text place digit)
digits_next members place bits digit text low e s =
    let size = s.size in
    let inside : place < length text = omega arith in
    let next : place + 1 ≡ suc place = omega arith in
    record {
      size = length-set text place digit ∙ s.size;
      rest = ap (hex_onto place (bits / 16)) (drop-set text place digit inside ∙ ap (λ (d : ℕ). d ∷ drop (place + 1) text) e ∙ ap (λ (k : ℕ). hex_digit (bits % 16) ∷ drop k text) next) ∙ s.rest;
    }

pub digits_done : (members : List Bool) (place bits : ℕ) (text : List ℕ) → place ≡ 0 → DigitsSoFar members place bits text → text ≡ set_text members
digits_done members place bits text none s = sym (ap (λ (k : ℕ). hex_onto k bits (drop k text)) none) ∙ s.rest
