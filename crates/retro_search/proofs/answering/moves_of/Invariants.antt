use Rattle.std.proofs.Common.{◌≡◌, map, take}
use Rattle.retro_search.proofs.answering.moves_of.Given as goal

abbrev pub invariant-loop-unmove : goal.invariant-loop-unmove
invariant-loop-unmove l = l.moves ≡ map (λ u. u.mv) (take l.unmove-index l.unmoves)
