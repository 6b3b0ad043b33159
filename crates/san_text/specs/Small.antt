-- Numbers of files and ranks.
use Rattle.std.specs.Prelude.{ℕ, ◌<◌, Option, Some, None}

-- a number that is told is one of eight
abbrev pub IsSmall : Option ℕ → Type 0
IsSmall None = Unit {0}
IsSmall (Some n) = n < 8
