use Rattle.std.proofs.Common.{arith, rules, refl, ap, drop, length, ℕ, ◌≡◌, ◌-◌, ◌∙◌}
use Rattle.capture_prices.specs.Prices.{toll_at}
use Rattle.balance_rule.specs.LeastWays.{seen_by}
use Rattle.balance_rule.proofs.Gates.{gate-inside, gates-more, gates-start}
use Rattle.balance_rule.proofs.tariffs.gates_seen.Goals as goal

pub known-requires : goal.known-requires
known-requires c = gate-inside 0 c.args.gates.now _ _ c.requires.ascending (omega arith)

pub loop-k-init : goal.loop-k-init
loop-k-init c = record { size = refl; number = refl; done = λ i inside. gates-start c.args.side c.args.gates.now _ i (omega arith) inside }

pub loop-k-preserved : goal.loop-k-preserved
loop-k-preserved c = record {
  size = search rules;
  number = search rules;
  done = gates-more c.args.side c.args.gates.now c.loop-k.seen _ _ c.loop-k.k c.number_of.result _ refl c.loop-k-test.true c.loop-k.invariant.size (gate-inside 0 c.args.gates.now _ _ c.requires.ascending (omega arith)) (c.number_of.ensures.value ∙ ap (seen_by c.args.side) c.known.ensures) refl c.loop-k.invariant.done;
}

pub returns : goal.returns
returns c = λ i inside. let e : length c.args.gates.now - c.loop-k.k ≡ 0 = omega arith in c.loop-k.invariant.done i inside ∙ ap (λ (n : ℕ). toll_at (drop n c.args.gates.now) (seen_by c.args.side i)) e
