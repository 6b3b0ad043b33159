use Rattle.std.proofs.Common.{ℕ, ap, arith, ◌∙◌}
use Rattle.std.specs.Prelude.{Option}
use Rattle.std.proofs.lemmas.List.FromFn.{fill_by_all}
use Rattle.board_base.specs.Board.{array_of, at, home_of}
use Rattle.board_base.specs.declared.men.Man.{Man}
use Rattle.balance_rule.specs.Balance.{stand_row}
use Rattle.balance_rule.specs.Costs.{stands}
use Rattle.balance_rule.proofs.tables.stand_row.Goals as goal

pub returns-clause-value : goal.returns-clause-value
unfolding stand_row
returns-clause-value c = λ o p ground.
    let past = c.loop-j.auto.j-end in
    fill_by_all (λ (j : ℕ). stands p c.args.ground.now.frozen c.args.ground.now.side (at (array_of o) (home_of c.args.ground.now.side j)) (home_of c.args.ground.now.side j) (at c.args.board.now c.args.s) c.args.s) _ 16 0 c.loop-j.invariant.size (λ k low.
    c.loop-j.invariant.done o p ground k (omega arith)
    ∙ ap (λ (m : Option Man). stands p c.args.ground.now.frozen c.args.ground.now.side (at (array_of o) (home_of c.args.ground.now.side k)) (home_of c.args.ground.now.side k) m c.args.s) c.at-place.ensures.man)
