-- The men that a castling needs at home.
use Rattle.std.specs.Prelude.{Bool, ◌&&◌, IsTrue}
use Rattle.board_base.specs.Board.{Places, at, is_the}
use Rattle.board_base.specs.Play.{side, king_home, rook_home}
use Rattle.board_base.specs.Rights.{Rights, holds}
use Rattle.board_base.specs.declared.castles.Castle.{Castle}
use Rattle.board_base.specs.declared.men.Kind.TheVariants.{Rook, King}

-- Article 3.8: the king and the rook of the castling, of its colour, stand at home
abbrev pub are_at_home : Places → Castle → Bool
are_at_home board x = is_the (side x) King (at board (king_home x)) && is_the (side x) Rook (at board (rook_home x))

-- Article 3.8: each right of the set has its king and its rook at home
abbrev pub HaveHomes : Places → Rights → Type 0
HaveHomes board held = (x : Castle) → IsTrue (holds held x) → IsTrue (are_at_home board x)
