-- Inner: no public clause cites this file.
-- What stands where the walk over lines keeps no node.
use Rattle.std.specs.Prelude.{[], None}
use Rattle.board_base.specs.Board.{no_men, no_odds}
use Rattle.board_base.specs.Rights.{no_rights}
use Rattle.board_base.specs.declared.men.Colour.TheVariants.{White}
use Rattle.query_base.specs.Asked.{Asked}
use Rattle.unmove_gen.specs.Listed.{AskedUnmoves}

-- a query of no man
abbrev pub nobody : Asked
nobody = record { board = no_men; turn = White; odds = no_odds; held = no_rights; only = None; barred = None; clock = None }

-- where no node is
abbrev pub no_unmoves : AskedUnmoves
no_unmoves = record { query = nobody; left = [] }
