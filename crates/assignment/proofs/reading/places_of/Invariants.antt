use Rattle.assignment.specs.Pairings.{ArePlaces}
use Rattle.assignment.proofs.reading.places_of.Given as goal

abbrev pub invariant-loop-i : goal.invariant-loop-i
invariant-loop-i g l = ArePlaces g.row.W l.i l.numbers l.places.items
