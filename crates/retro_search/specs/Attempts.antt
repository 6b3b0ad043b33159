-- Inner: no public clause cites this file.
-- What a search that begins at a query, below no ancestors, comes to.
use Rattle.std.specs.Prelude.{ℕ, ◌≡◌, ◌≤◌, ◌<◌, ◌⊎◌, List, [], IfErr, IfOk, Result, length, reverse}
use Rattle.query_base.specs.Asked.{Asked}
use Rattle.price_search.specs.FlatPrices.{FlatPricesSupport}
use Rattle.cert_text.specs.Seen.{tree_of}
use Rattle.retro_search.specs.Costs.{IsCost}
use Rattle.retro_search.specs.Lone.{AreExpanded, IsLoneSearch, unmoves_in_all}
use Rattle.retro_search.specs.RuleLines.{IsByRuleLines}
use Rattle.retro_search.specs.SearchSizes.{IsLargeSearch}
use Rattle.retro_search.specs.Unsettled.{IsUnpriced, WhereRefutable}
use Rattle.retro_search.specs.Unrefuted.{IfOpen, IfSpent, IfTooLarge}
use Rattle.retro_search.specs.Kept.{IsRefutation}
use Rattle.retro_search.specs.Searched.{IsOpen, IsUnsettled}
use Rattle.retro_search.specs.declared.refutations.Refutation.{Refutation}
use Rattle.retro_search.specs.declared.runs.Reasons.{Reasons}
use Rattle.retro_search.specs.declared.runs.Reasons.TheVariants.{All, RuleLines}
use Rattle.retro_search.specs.declared.unrefuted.Unrefuted.{Unrefuted}
use Rattle.retro_search.specs.declared.unrefuted.Unrefuted.TheVariants.{Memory}

-- The query is refuted; or a line of fewer unmoves than the nodes stays open, which is the first one where it is searched by rule lines
-- alone; or it costs more than the nodes, and its whole search is larger. By all reasons, a query that flat prices support is refuted where
-- any may be visited; and with at most 250,000 nodes they support no query on an open line.
pub record ComesTo (came : Result Refutation Unrefuted) (q : Asked) (depth nodes : ℕ) (reasons : Reasons) : Type 0 where
  pub refuted : IfOk came (λ found. IsRefutation found q depth [])
  pub lined : reasons ≡ RuleLines → IfOk came (λ found. IsByRuleLines (tree_of found.node))
  pub unsettled : IfErr came (λ why. IfOpen why (λ line. IsUnsettled line q depth []))
  pub first : reasons ≡ RuleLines → IfErr came (λ why. IfOpen why (λ line. IsOpen line q depth []))
  pub deep : IfErr came (λ why. IfOpen why (λ line. length line.back.items < nodes))
  pub spent : IfErr came (λ why. IfSpent why (WhereRefutable q depth (λ n. nodes < n)))
  pub outsized : IfErr came (λ why. IfSpent why (IsLargeSearch q depth nodes))
  pub dear : reasons ≡ RuleLines → IfErr came (λ why. IfSpent why ((n : ℕ) → IsCost q depth [] n → nodes < n))
  pub priced : reasons ≡ All → FlatPricesSupport q → IfErr came (λ why. (why ≡ Memory) ⊎ (nodes ≡ 0))
  pub unpriced : reasons ≡ All → nodes ≤ 250000 → IfErr came (λ why. IfOpen why (λ line. IsUnpriced q (reverse line.back.items)))

-- where the search of the query is lone, this holds of the queries that it expands
abbrev pub WhereLone : Asked → ℕ → (List Asked → Type 0) → Type 0
WhereLone q depth P = (ps : List Asked) (n : ℕ) → AreExpanded ps q depth → IsLoneSearch q depth n → P ps

-- where the search of the query is lone, it refutes it if and only if the nodes are as many as the memo cost
pub record IsPaidSearch (came : Result Refutation Unrefuted) (q : Asked) (depth nodes : ℕ) : Type 0 where
  pub afforded : IfOk came (λ found. WhereLone q depth (λ ps. unmoves_in_all ps < nodes))
  pub paid : IfErr came (λ why. WhereLone q depth (λ ps. IfSpent why (nodes ≤ unmoves_in_all ps)))
  pub small : IfErr came (λ why. WhereLone q depth (λ ps. IfTooLarge why ⊥))
