use Rattle.std.proofs.Common.{◌≡◌, drop}
use Rattle.ledger_prose.specs.Words.{are_more}
use Rattle.ledger_prose.proofs.captures.are_more.Given as goal

abbrev pub invariant-loop-way : goal.invariant-loop-way
invariant-loop-way l = are_more l.left (drop l.way-index l.ways) ≡ are_more l.n l.ways
