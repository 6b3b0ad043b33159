use Rattle.std.proofs.Common.{◌≡◌, ◌<◌, ◌≤◌, ℕ, length, ap, sym, arith, ◌∙◌}
use Rattle.std.proofs.lemmas.List.{length-set}
use Rattle.std.proofs.lemmas.List.FromFn.{fill_by_all}
use Rattle.board_base.specs.Board.{array_of, at, home_of}
use Rattle.balance_rule.specs.Costs.{gone, never}
use Rattle.ledger_facts.specs.Accounts.{gone_if, gone_row_if}
use Rattle.ledger_rule.proofs.Rowed.{gone-cell, row-more, row-small}
use Rattle.ledger_rule.proofs.tables.gone_row_if.Goals as goal

pub loop-j-preserved : goal.loop-j-preserved
loop-j-preserved c =
    let g = c.args.ground.now in
    let inside : c.loop-j.j < length c.loop-j.row = omega (arith, c.loop-j-test.true, c.loop-j.invariant.size) in
    record {
      size = length-set c.loop-j.row c.loop-j.j c.gone_if.result ∙ c.loop-j.invariant.size;
      small = row-more (λ k n. n ≤ never) c.loop-j.row c.loop-j.j c.gone_if.result inside c.loop-j.invariant.small c.gone_if.ensures.small;
      done = λ o p ground.
          let plain = gone-cell p g.frozen g.side (array_of o) c.gone_row-plain.result c.loop-j.j c.loop-j-test.true (c.gone_row-plain.ensures.value o p ground) in
          row-more (λ k n. n ≡ gone_if c.args.supposition.now p g.frozen g.side (at (array_of o) (home_of g.side k)) (home_of g.side k)) c.loop-j.row c.loop-j.j c.gone_if.result inside (c.loop-j.invariant.done o p ground)
          (c.gone_if.ensures.value o p ground (plain ∙ ap (λ (h : ℕ). gone p g.frozen g.side (at (array_of o) h) h) (sym c.number_of_home.ensures.home)) ∙ ap (λ (h : ℕ). gone_if c.args.supposition.now p g.frozen g.side (at (array_of o) h) h) c.number_of_home.ensures.home);
    }

pub returns-clause-small : goal.returns-clause-small
returns-clause-small c = row-small c.loop-j.row c.loop-j.j c.loop-j.invariant.size c.loop-j-test.false c.loop-j.invariant.small

pub returns-clause-value : goal.returns-clause-value
unfolding gone_row_if
returns-clause-value c = λ o p ground.
    let past = c.loop-j.auto.j-end in
    fill_by_all (λ (j : ℕ). gone_if c.args.supposition.now p c.args.ground.now.frozen c.args.ground.now.side (at (array_of o) (home_of c.args.ground.now.side j)) (home_of c.args.ground.now.side j)) _ 16 0 c.loop-j.invariant.size (λ k low. c.loop-j.invariant.done o p ground k (omega arith))
