-- Whole searches that the nodes suffice for.
use Rattle.std.specs.Prelude.{ℕ, ◌≤◌, []}
use Rattle.query_base.specs.Asked.{Asked}
use Rattle.command_answers.specs.SearchSizes.{IsSearchSize}

-- the whole search of the query to the depth is no larger than the nodes
abbrev pub IsSmallSearch : Asked → ℕ → ℕ → Type 0
IsSmallSearch q depth nodes = (n : ℕ) × IsSearchSize q depth [] n × (n ≤ nodes)
