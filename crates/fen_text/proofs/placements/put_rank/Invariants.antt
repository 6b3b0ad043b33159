use Rattle.fen_text.proofs.PlacementLemmas.{IsFilled}
use Rattle.fen_text.proofs.placements.put_rank.Given as goal

abbrev pub invariant-loop-file : goal.invariant-loop-file
invariant-loop-file l = IsFilled l.fn.board l.board l.places l.rank l.file
