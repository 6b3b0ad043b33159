use Rattle.std.proofs.Common.{ℕ, arith}
use Rattle.std.proofs.lemmas.List.FromFn.{fill_by_all}
use Rattle.board_base.specs.Board.{array_of, at, home_of}
use Rattle.sketch_grounds.specs.Account.{lost_row}
use Rattle.sketch_grounds.specs.Limits.{lost}
use Rattle.sketch_account.proofs.losses.lost_row.Goals as goal

pub returns-clause-value : goal.returns-clause-value
unfolding lost_row
returns-clause-value c = λ o p R ground.
    let past = c.loop-j.auto.j-end in
    fill_by_all (λ (j : ℕ). lost p c.args.ground.now.base.frozen R c.args.ground.now.base.side (at (array_of o) (home_of c.args.ground.now.base.side j)) (home_of c.args.ground.now.base.side j)) _ 16 0 c.loop-j.invariant.size (λ k low. c.loop-j.invariant.done o p R ground k (omega arith))
