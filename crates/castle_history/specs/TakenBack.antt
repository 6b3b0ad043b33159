-- The castling that a retraction takes back.
use Rattle.std.specs.Prelude.{ℕ, Bool, false, cond, ◌&&◌, ◌==◌, Option, Some, None}
use Rattle.board_base.specs.Board.{Places, at, same_colour, same_kind, rank}
use Rattle.board_base.specs.Attacks.{files_apart}
use Rattle.board_base.specs.Play.{side, castling_from}
use Rattle.board_base.specs.declared.men.Man.{Man}
use Rattle.board_base.specs.declared.men.Colour.{Colour}
use Rattle.board_base.specs.declared.men.Colour.TheVariants.{White, Black}
use Rattle.board_base.specs.declared.men.Kind.TheVariants.{King}
use Rattle.board_base.specs.declared.moves.Move.{Move}
use Rattle.board_base.specs.declared.castles.Castle.{Castle}

-- the castling, if it is one of this colour
abbrev pub of_side : Colour → Option Castle → Option Castle
of_side c None = None
of_side c (Some x) = cond (same_colour c (side x)) (Some x) None

-- the castling of the man on this place, if he is a king
abbrev pub of_king : Option Man → Option Castle → Option Castle
of_king None castle = None
of_king (Some man) castle = cond (same_kind King man.kind) (of_side man.colour castle) None

-- Article 3.8: the castling that the move was, on the board after it: the king on its target came there from its own home by a castling
abbrev pub castling_back : Places → Move → Option Castle
castling_back board m = of_king (at board m.to) (castling_from m.from m.to)

-- Article 2.3: where the king of this colour begins, e1 or e8
abbrev pub king_square : Colour → ℕ
king_square White = 4
king_square Black = 60

-- Article 3.8: two squares along the rank from where the king of this colour begins
abbrev pub goes_two : Colour → ℕ → ℕ → Bool
goes_two c from to = (from == king_square c) && (rank from == rank to) && (files_apart from to == 2)

-- the man is a king, and the move is his of two squares along his rank from his own home
abbrev pub goes_two_from_home : Option Man → Move → Bool
goes_two_from_home None m = false
goes_two_from_home (Some man) m = same_kind King man.kind && goes_two man.colour m.from m.to

-- Article 3.8: the king on the move's target went there two squares along its rank from its own home
abbrev pub has_castled : Places → Move → Bool
has_castled board m = goes_two_from_home (at board m.to) m
