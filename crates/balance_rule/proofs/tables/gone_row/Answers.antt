use Rattle.std.proofs.Common.{ℕ, arith}
use Rattle.std.proofs.lemmas.List.FromFn.{fill_by_all}
use Rattle.board_base.specs.Board.{array_of, at, home_of}
use Rattle.balance_rule.specs.Balance.{gone_row}
use Rattle.balance_rule.specs.Costs.{gone}
use Rattle.balance_rule.proofs.tables.gone_row.Goals as goal

pub returns-clause-value : goal.returns-clause-value
unfolding gone_row
returns-clause-value c = λ o p ground.
    let past = c.loop-j.auto.j-end in
    fill_by_all (λ (j : ℕ). gone p c.args.ground.now.frozen c.args.ground.now.side (at (array_of o) (home_of c.args.ground.now.side j)) (home_of c.args.ground.now.side j)) _ 16 0 c.loop-j.invariant.size (λ k low. c.loop-j.invariant.done o p ground k (omega arith))
