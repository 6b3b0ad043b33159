-- Trees that prove a query below some ancestors.
use Rattle.std.specs.Prelude.{List}
use Rattle.query_base.specs.Asked.{Asked}
use Rattle.cert_text.specs.Tree.{Tree}
use Rattle.cert_checker.specs.Proving.{Proves}

-- the tree proves the query below some ancestors
abbrev pub IsProvedBelow : Tree → Asked → Type 0
IsProvedBelow t q = (ancestors : List Asked) × Proves t q ancestors
