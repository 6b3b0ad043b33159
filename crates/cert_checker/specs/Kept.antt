-- What the walk over lines keeps of a node some of whose children may be due.
use Rattle.std.specs.Prelude.{ℕ, List}
use Rattle.board_base.specs.declared.unmoves.Unmove.{Unmove}
use Rattle.query_base.specs.Asked.{Asked}

-- its query, its unmoves that no child had, how many of its children are due, and the number of its line
pub record Frame : Type 0 where
  pub query : Asked
  pub left : List Unmove
  pub due : ℕ
  pub line : ℕ
