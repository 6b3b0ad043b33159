use Rattle.std.proofs.Common.{ℕ, List, length, slice_index, ap, ◌∙◌}
use Rattle.ledger_pairings.proofs.Injected.{injection-same}
use Rattle.ledger_pairings.proofs.exchanges.pairs_of.Goals as goal

pub filled-columns-requires : goal.filled-columns-requires
filled-columns-requires c = ap (λ (l : List ℕ). length l) c.as_slice.ensures.value ∙ c.requires.size

pub returns : goal.returns
returns c = injection-same c.args.solution.now.columns.items c.filled-columns.result c.requires c.filled-columns.ensures.size (λ k low. c.filled-columns.ensures.same k low ∙ ap (λ (l : List ℕ). slice_index l k) c.as_slice.ensures.value)
