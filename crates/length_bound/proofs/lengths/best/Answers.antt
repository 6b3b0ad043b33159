use Rattle.std.proofs.Common.{rules, ◌≤◌, true, length, refl, arith}
use Rattle.std.proofs.lemmas.Bool.{both_ways}
use Rattle.board_base.specs.Board.{men_squares}
use Rattle.length_bound.proofs.Shown.{not-few}
use Rattle.length_bound.proofs.lengths.best.Goals as goal

pub returns-in-Some-clause-none : goal.returns-in-Some-clause-none
returns-in-Some-clause-none c =
    let few : length (men_squares c.args.side c.args.query.now.board) ≤ 16 = search rules in
    (λ e. absurd (both_ways true e refl), λ above. absurd (omega arith))

pub returns-in-None-clause-none : goal.returns-in-None-clause-none
returns-in-None-clause-none c =
    let many : length (men_squares c.args.side c.args.query.now.board) ≤ 16 → ⊥ = search rules in
    (λ e. not-few _ many, λ above. refl)
