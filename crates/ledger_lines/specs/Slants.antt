-- Ways of pawns who go to another file with each step.
use Rattle.std.specs.Prelude.{ℕ, ◌+◌, ◌==◌, ◌&&◌, Bool, cond, List, [], ◌++◌, map, nat_lt}
use Rattle.std.specs.List.{flat_map, list_any, range_with_len}
use Rattle.board_base.specs.Attacks.{files_apart, on_the_way, ranks_apart}
use Rattle.board_base.specs.Board.{is_in}
use Rattle.board_base.specs.Texts.{square_text}
use Rattle.capture_prices.specs.Prices.{class_of}
use Rattle.ledger_lines.specs.Known.{number_in}

-- Article 3.7: from h to s a pawn goes to another file with each step, and it captures with each
abbrev pub is_slant : ℕ → ℕ → Bool
is_slant h s = nat_lt 0 (files_apart h s) && (files_apart h s == ranks_apart h s)

-- the squares of these steps, in order
unfoldable pub slant : ℕ → ℕ → List ℕ
slant h s = map (λ k. on_the_way h s (k + 1)) (range_with_len 0 (files_apart h s))

-- their text, each behind some letters
unfoldable pub slant_words : List ℕ → ℕ → ℕ → List ℕ
slant_words before h s = flat_map (λ k. before ++ square_text (on_the_way h s (k + 1))) (range_with_len 0 (files_apart h s))

-- so a pawn goes to s from this square of the set
abbrev pub is_slant_from : List Bool → ℕ → ℕ → Bool
is_slant_from homes s h = is_in homes h && is_slant h s

-- the same text for each of the set
unfoldable pub way_words : List ℕ → List Bool → ℕ → List ℕ
way_words before homes s = flat_map (λ h. cond (is_slant_from homes s h) (slant_words before h s) []) (range_with_len 0 64)

-- so it goes from some square of the set
unfoldable pub has_slant : List Bool → ℕ → Bool
has_slant homes s = list_any (is_slant_from homes s) (range_with_len 0 64)

-- from its only one
abbrev pub tells_way : List Bool → ℕ → Bool
tells_way homes s = (number_in homes == 1) && has_slant homes s

-- one of the steps from h to s ends on a square of this class
unfoldable pub is_slant_on : ℕ → ℕ → ℕ → Bool
is_slant_on class h s = list_any (λ k. class_of (on_the_way h s (k + 1)) == class) (range_with_len 0 (files_apart h s))

-- so a pawn goes to s from this square of the set, over a square of the class
abbrev pub is_slant_from_on : ℕ → List Bool → ℕ → ℕ → Bool
is_slant_from_on class homes s h = is_slant_from homes s h && is_slant_on class h s

-- from some square of the set
unfoldable pub has_slant_on : ℕ → List Bool → ℕ → Bool
has_slant_on class homes s = list_any (is_slant_from_on class homes s) (range_with_len 0 64)

-- from its only one: his way tells a capture on the class
abbrev pub tells_class : ℕ → List Bool → ℕ → Bool
tells_class class homes s = (number_in homes == 1) && has_slant_on class homes s
