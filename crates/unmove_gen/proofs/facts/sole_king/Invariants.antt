use Rattle.board_base.specs.Board.{at, is_the}
use Rattle.board_base.specs.declared.men.Kind.TheVariants.{King}
use Rattle.check_origins.proofs.Alone.{IsAlone}
use Rattle.unmove_gen.proofs.facts.sole_king.Given as goal

-- of the squares so far, the king stands on the one found
abbrev pub invariant-loop-i : goal.invariant-loop-i
invariant-loop-i l = IsAlone l.found (λ s. is_the l.colour King (at l.board s)) l.i
