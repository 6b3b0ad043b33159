use Rattle.std.proofs.Common.{ℕ, arith}
use Rattle.std.proofs.lemmas.Grind.{get_or_default_zero}
use Rattle.std.proofs.lemmas.List.FromFn.{fill_by_all}
use Rattle.board_base.specs.Board.{home_of}
use Rattle.length_bound.specs.SideBounds.{place_cost}
use Rattle.length_bound.proofs.rows.man_row.Goals as goal

pub returns-clause-value : goal.returns-clause-value
returns-clause-value c =
    let f : ℕ → ℕ = λ j. place_cost c.args.odds c.args.place c.args.s (home_of c.args.side j) in
    let past = c.loop-j.auto.j-end in
    fill_by_all f (c.loop-j.row) 16 0 c.loop-j.invariant.size (λ k low. c.loop-j.invariant.done k (omega arith))

pub returns-clause-small : goal.returns-clause-small
returns-clause-small c = λ k d inside. let size = c.loop-j.invariant.size in omega (arith, size, get_or_default_zero c.loop-j.row k d inside, c.loop-j.invariant.small k (omega (arith, size, inside)), c.loop-j.auto.j-end)
