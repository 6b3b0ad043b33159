use Rattle.check_origins.specs.Near.{is_near_checker}
use Rattle.check_origins.proofs.Alone.{IsAlone}
use Rattle.check_origins.proofs.arrivals.origins.Given as goal

-- of the squares so far, the near checker stands on the one found
abbrev pub invariant-loop-i : goal.invariant-loop-i
invariant-loop-i l = IsAlone l.found (λ s. is_near_checker l.board l.turn s) l.i
