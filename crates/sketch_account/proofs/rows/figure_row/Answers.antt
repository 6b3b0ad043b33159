use Rattle.std.proofs.Common.{ℕ, arith}
use Rattle.std.proofs.lemmas.List.FromFn.{fill_by_all}
use Rattle.board_base.specs.Board.{array_of, at, home_of}
use Rattle.sketch_grounds.specs.Account.{figure_comes, figure_row}
use Rattle.sketch_account.specs.Rows.{counted}
use Rattle.sketch_account.proofs.rows.figure_row.Goals as goal

pub returns-clause-value : goal.returns-clause-value
unfolding figure_row
returns-clause-value c = λ o p R x ground comer.
    let past = c.loop-j.auto.j-end in
    fill_by_all (λ (j : ℕ). figure_comes p c.args.ground.now.base.frozen R (at (array_of o) (home_of c.args.ground.now.base.side j)) (home_of c.args.ground.now.base.side j) (counted c.args.x.now.figure x)) _ 16 0 c.loop-j.invariant.size (λ k low. c.loop-j.invariant.done o p R x ground comer k (omega arith))
