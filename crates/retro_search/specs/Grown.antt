-- Inner: no public clause cites this file.
-- The children so far of a query that is expanded.
use Rattle.std.specs.Prelude.{ℕ, ◌≡◌, ◌≤◌, List, take}
use Rattle.board_base.specs.declared.unmoves.Unmove.{Unmove}
use Rattle.query_base.specs.Asked.{Asked}
use Rattle.sketch_findings.specs.Proving.{ProvesEach}
use Rattle.retro_search.specs.Heights.{height_of_all}
use Rattle.retro_search.specs.LineCounts.{lines_in_all}
use Rattle.retro_search.specs.SketchTexts.{HaveSketchTexts}
use Rattle.retro_search.specs.declared.refutations.Children.{Children}

-- the children prove the predecessors of the query by these unmoves, and have the height and the lines that are noted
pub record AreChildren (c : Children) (q : Asked) (done : List Unmove) (below : ℕ) (ancestors : List Asked) : Type 0 where
  pub each : ProvesEach c.kids q done (take c.lean ancestors)
  pub high : height_of_all c.kids ≡ c.highest
  pub low : c.highest ≤ below
  pub counted : lines_in_all c.kids ≡ c.lines
  pub few : c.lines ≤ 499999
  pub texts : HaveSketchTexts c.kids
