-- Inner: no public clause cites this file.
-- Which suppositions count captures.
use Rattle.std.specs.Prelude.{Bool, true, false}
use Rattle.ledger_facts.specs.declared.suppositions.Supposition.{Supposition}
use Rattle.ledger_facts.specs.declared.suppositions.Supposition.TheVariants.{Began, Went, Stands, Gone, AtMost, AtLeast}

-- the supposition counts captures
abbrev pub is_count : Supposition → Bool
is_count (Began t homes) = false
is_count (Went t straight) = false
is_count (Stands k promoted) = false
is_count (Gone k promoted struck) = false
is_count (AtMost side squares n) = true
is_count (AtLeast side squares n) = true
