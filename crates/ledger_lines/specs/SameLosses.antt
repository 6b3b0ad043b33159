-- Inner: no public clause cites this file.
-- Losses compared.
use Rattle.std.specs.Prelude.{◌==◌, ◌&&◌, Bool}
use Rattle.ledger_lines.specs.declared.losses.Losses.{Losses}

-- the same numbers
abbrev pub are_same : Losses → Losses → Bool
are_same x y = (x.queens == y.queens) && (x.rooks == y.rooks) && (x.dark_bishops == y.dark_bishops) && (x.light_bishops == y.light_bishops) && (x.knights == y.knights) && (x.pawns == y.pawns)
