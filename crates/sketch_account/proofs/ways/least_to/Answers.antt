use Rattle.std.proofs.Common.{◌≡◌, ◌<◌, ◌∙◌, ℕ, cond, min, nat_lt, slice_index, ap, arith}
use Rattle.balance_rule.specs.Costs.{never}
use Rattle.balance_rule.specs.LeastWays.{seen_by}
use Rattle.sketch_account.proofs.Coming.{goals-all, goals-more, goals-none}
use Rattle.sketch_account.proofs.ways.least_to.Goals as goal

pub goals-init : goal.goals-init
goals-init c = record {
  small = omega arith;
  here = c.next_from-i.ensures.found;
  least = λ p set h on_board reach. goals-none p set c.args.side h c.args.goals c.args.plain c.args.other on_board c.next_from-i.result (λ s low. c.next_from-i.ensures.none s (omega arith) low);
}

pub goals-preserved : goal.goals-preserved
goals-preserved c =
    let i : ℕ = c.goals.i in
    let inside : i < 64 = c.goals-test.true in
    let number : c.number_of.result ≡ seen_by c.args.side i = c.number_of.ensures.value ∙ ap (seen_by c.args.side) c.known.ensures in
    let is = c.toll_by.ensures ∙ ap (λ (n : ℕ). min (cond (cond (nat_lt n 56) c.args.plain c.args.other) (slice_index c.args.reach.now.straight n) never) (cond c.args.other (slice_index c.args.reach.now.aside n) never)) number in
    record {
      small = omega (arith, c.min-least.ensures, c.goals.invariant.small);
      here = c.next_from-i-in-goals.ensures.found;
      least = λ p set h on_board reach.
          rw c.min-least.ensures (goals-more p set c.args.side h c.args.goals c.args.plain c.args.other on_board c.args.reach.now i c.next_from-i-in-goals.result c.goals.least c.toll_by.result inside (omega (arith, c.next_from-i-in-goals.ensures.high)) (c.goals.invariant.here inside) c.next_from-i-in-goals.ensures.none reach is (c.goals.invariant.least p set h on_board reach));
    }

pub returns-clause-least : goal.returns-clause-least
returns-clause-least c = λ p set h on_board reach. goals-all p set c.args.side h c.args.goals c.args.plain c.args.other on_board c.goals.i c.goals.least c.goals-test.false (c.goals.invariant.least p set h on_board reach)
