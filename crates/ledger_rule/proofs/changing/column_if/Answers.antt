use Rattle.std.proofs.Common.{sym, arith}
use Rattle.ledger_rule.proofs.changing.column_if.Goals as goal

pub returns : goal.returns
returns c = λ o p set side is r low. let past = c.loop-r-test.false in sym (c.loop-r.invariant.done o p set side is r (omega (arith, low, past)))
