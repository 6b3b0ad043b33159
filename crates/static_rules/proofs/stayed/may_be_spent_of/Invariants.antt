use Rattle.std.proofs.Common.{◌≡◌}
use Rattle.static_rules.proofs.AtHome.{may_spend}
use Rattle.static_rules.proofs.stayed.may_be_spent_of.Given as goal

abbrev pub invariant-loop-i : goal.invariant-loop-i
invariant-loop-i l = l.n ≡ may_spend l.first l.side l.board l.set l.i
