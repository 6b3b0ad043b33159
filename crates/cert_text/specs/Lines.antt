-- Texts as lists of lines.
use Rattle.std.specs.Prelude.{ℕ, ◌-◌, cond, ◌==◌, nat_eq, List, [], ◌∷◌, ◌++◌, length, take, Option, Some, None}
use Rattle.std.specs.List.{onto_first, ends_with}
use Rattle.std.specs.Option.{option_and_then}

-- the bytes, cut after each line end; a last piece with no line end is a line too
abbrev pub cut : List ℕ → List (List ℕ)
cut [] = []
cut (b ∷ bytes) = cond (b == 10) ((b ∷ []) ∷ cut bytes) (onto_first b (cut bytes))

-- the text with a line end
abbrev pub ended : List ℕ → List ℕ
ended text = text ++ 10 ∷ []

-- what stands before the line end, if there is one
abbrev pub without_end : List ℕ → Option (List ℕ)
without_end line = cond (ends_with nat_eq line (10 ∷ [])) (Some (take (length line - 1) line)) None

-- what a grammar of texts without their ends makes of a line
unfoldable pub said : {A : Type 0} → (List ℕ → Option A) → List ℕ → Option A
said grammar line = option_and_then grammar (without_end line)
