use Rattle.std.proofs.Common.{SomeIff, sym, subst}
use Rattle.std.specs.Prelude.{IsTrue}
use Rattle.capture_prices.specs.Prices.{are_prices}
use Rattle.ledger_facts.specs.Accounts.{list_for}
use Rattle.ledger_facts.specs.declared.suppositions.Supposition.{Supposition}
use Rattle.ledger_rule.proofs.lists.list_for.Goals as goal

pub returns-in-Began : goal.returns-in-Began
returns-in-Began c = subst (λ (x : Supposition). SomeIff c.same.result (IsTrue (are_prices (list_for x c.args.prices.now c.args.side))) (list_for x c.args.prices.now c.args.side)) (sym c.in-Began.is) c.same.ensures

pub returns-in-Went : goal.returns-in-Went
returns-in-Went c = subst (λ (x : Supposition). SomeIff c.same-in-Went.result (IsTrue (are_prices (list_for x c.args.prices.now c.args.side))) (list_for x c.args.prices.now c.args.side)) (sym c.in-Went.is) c.same-in-Went.ensures

pub returns-in-Stands : goal.returns-in-Stands
returns-in-Stands c = subst (λ (x : Supposition). SomeIff c.same-in-Stands.result (IsTrue (are_prices (list_for x c.args.prices.now c.args.side))) (list_for x c.args.prices.now c.args.side)) (sym c.in-Stands.is) c.same-in-Stands.ensures

pub returns-in-Gone : goal.returns-in-Gone
returns-in-Gone c = subst (λ (x : Supposition). SomeIff c.same-in-Gone.result (IsTrue (are_prices (list_for x c.args.prices.now c.args.side))) (list_for x c.args.prices.now c.args.side)) (sym c.in-Gone.is) c.same-in-Gone.ensures
