use Rattle.std.proofs.Common.{ℕ, List, ◌≡◌, ◌+◌, ◌*◌, [], ◌∷◌, ◌++◌, length, reverse}
use Rattle.query_base.specs.Asked.{Asked}
use Rattle.retro_search.specs.Good.{IsGoodBelow}
use Rattle.retro_search.specs.declared.runs.Reasons.TheVariants.{RuleLines}
use Rattle.retro_search.proofs.Expansions.{Expands}
use Rattle.retro_search.proofs.Sizing.{IsSized}
use Rattle.retro_search.proofs.Bound.GoodSteps.{GoodSoFar}
use Rattle.retro_search.proofs.searching.+searching.Given as goal

abbrev pub decreases-search : goal.decreases-search
decreases-search l = 2 * l.depth

abbrev pub decreases-expand : goal.decreases-expand
decreases-expand l = 2 * l.below + 1

abbrev pub decreases-expand-loop-unmove : goal.decreases-expand-loop-unmove
decreases-expand-loop-unmove l = length l.unmoves

abbrev pub invariant-expand-loop-unmove : goal.invariant-expand-loop-unmove
invariant-expand-loop-unmove l = record {
  expands : Expands l.query l.below (reverse l.fn.ancestors.items) l.unmoves l.children l.run l.fn.run;
  well : l.fn.run.reasons ≡ RuleLines → (ps : List Asked) (m : ℕ) → IsGoodBelow ps m l.query l.below (reverse l.fn.ancestors.items) l.fn.run
      → GoodSoFar ps m l.query l.below (reverse l.fn.ancestors.items) l.unmoves l.children l.run l.fn.run;
  sized : IsSized l.query l.below (reverse l.fn.ancestors.items) l.unmoves l.run.left l.fn.run.left;
  kept : l.ancestors.items ≡ l.fn.ancestors.items ++ l.query ∷ [];
}
