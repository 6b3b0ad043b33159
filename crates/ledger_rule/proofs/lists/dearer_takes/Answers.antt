use Rattle.std.proofs.Common.{◌≤◌, ℕ, List, slice_index, ap, sym, subst, ◌∙◌}
use Rattle.ledger_facts.specs.Accounts.{dearer}
use Rattle.ledger_rule.proofs.Priced.{takes-low}
use Rattle.ledger_rule.proofs.lists.dearer_takes.Goals as goal

pub dearer-requires : goal.dearer-requires
dearer-requires c = subst (λ (l : List ℕ). (k : ℕ) → slice_index l k ≤ 96) (sym c.takes.ensures.value) (takes-low c.args.prices.now c.args.side c.takes.ensures.range)

pub returns : goal.returns
returns c = c.dearer.ensures ∙ ap (dearer c.args.squares) c.takes.ensures.value
