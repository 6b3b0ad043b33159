use Rattle.std.proofs.Common.{ℕ, ◌+◌, cond, slice_index, arith}
use Rattle.std.proofs.lemmas.List.FromFn.{fill_by_all}
use Rattle.ledger_facts.specs.Accounts.{charge, dearer}
use Rattle.ledger_facts.specs.Supposed.{has_class}
use Rattle.ledger_rule.proofs.lists.dearer.Goals as goal

pub returns : goal.returns
unfolding dearer
returns c =
    let past = c.loop-k.auto.k-end in
    fill_by_all (λ (j : ℕ). slice_index c.args.takes.now j + cond (has_class c.args.squares j) charge 0) _ 16 0 c.loop-k.invariant.size (λ j low. c.loop-k.invariant.done j (omega arith))
