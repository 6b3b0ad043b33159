-- Inner: no public clause cites this file.
-- The first bytes of a source that was read to its end.
use Rattle.std.specs.Prelude.{ℕ, ◌≡◌, ◌≤◌, List, length, take, Option}
use Rattle.std.specs.Io.KnownBytes.{Consumes, IsAtEnd}
use Rattle.retro_ports.specs.declared.piecewise.TheConstants.{MOST_BYTES}

-- the bytes of the source were read to their end, and the first 512 are these
pub record ReadsFront (before now : Option (List ℕ)) (front : List ℕ) : Type 0 where
  pub bytes : List ℕ
  pub read : Consumes before now bytes
  pub ended : IsAtEnd now
  pub fits : length bytes ≤ MOST_BYTES
  pub kept : front ≡ take 512 bytes
