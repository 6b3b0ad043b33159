-- Queries of which one node of a sketch shows that no game comes to them.
use Rattle.query_base.specs.Asked.{Asked}
use Rattle.past_sketches.specs.Figures.{sketch_of}
use Rattle.sketch_search.specs.Plain.{IsPlain}
use Rattle.sketch_search.specs.Roots.{IsRoot}

-- Sketches may be asked about the query's board; and some man of its sketch who never moved isn't of the array, or its least closed sketch
-- can't be the array, and had no step before it. No exact files, prices or marks are needed.
pub record HasPlainSketch (q : Asked) : Type 0 where
  pub root : IsRoot q.odds q.board
  pub plain : IsPlain q.odds q.held (sketch_of q.board)
