-- Inputs that are read to their end.
use Rattle.std.specs.Prelude.{ℕ, ◌≤◌, List, length, Option}
use Rattle.std.specs.Io.KnownBytes.{Consumes, IsAtEnd}

-- An input of at most so many bytes was read to its end, and this holds of it. Where the source tells its bytes, it is all of
-- them.
abbrev pub ReadsAll : ℕ → Option (List ℕ) → Option (List ℕ) → (List ℕ → Type 0) → Type 0
ReadsAll limit old new holds = (input : List ℕ) × Consumes old new input × IsAtEnd new × (length input ≤ limit) × holds input
