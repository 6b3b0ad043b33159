-- Inner: no public clause cites this file.
-- The children of a node, and their copies.
use Rattle.std.specs.Prelude.{◌⊎◌, List}
use Rattle.query_base.specs.Asked.{Asked}
use Rattle.unmove_gen.specs.Listed.{unmoves}
use Rattle.cert_text.specs.Tree.{Tree, Forest}
use Rattle.cert_checker.specs.Proving.{ProvesEach}
use Rattle.price_sharing.specs.Repriced.{IsNewLine, IsRepriced}

-- the labels are the unmoves of the query, and each child proves its predecessor, below some ancestors of the query
abbrev pub AreProvedBelow : Forest → Asked → Type 0
AreProvedBelow kids q = (ancestors : List Asked) × ProvesEach kids q (unmoves q) ancestors

-- the copy of a child of this query is the child but for lines of prices that are given by siblings, its own among them
abbrev pub IsGiven : Tree → Tree → Asked → Forest → Type 0
IsGiven t copy q siblings = IsRepriced t copy q ⊎ IsNewLine t copy q siblings
