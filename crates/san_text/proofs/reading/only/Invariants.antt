use Rattle.san_text.specs.Candidates.{candidate}
use Rattle.san_text.specs.Fits.{fits}
use Rattle.san_text.proofs.Search.{FoundBelow}
use Rattle.san_text.proofs.reading.only.Given as goal

abbrev pub invariant-loop-i : goal.invariant-loop-i
invariant-loop-i l = FoundBelow (fits l.said l.state) (candidate l.state.turn l.said) l.i l.found
