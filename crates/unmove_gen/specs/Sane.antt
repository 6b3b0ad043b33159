-- Boards that pass the tests that each board of a game passes.
use Rattle.std.specs.Prelude.{Bool, ◌&&◌, not, ◌==◌, List}
use Rattle.board_base.specs.Board.{Places, opponent}
use Rattle.board_base.specs.Legal.{in_check}
use Rattle.play_rules.specs.Kings.{kings}
use Rattle.play_rules.specs.Laws.{has_no_pawn_on_ends}
use Rattle.men_account.specs.Account.{accounts_for}
use Rattle.board_base.specs.declared.men.Colour.{Colour}
use Rattle.board_base.specs.declared.men.Colour.TheVariants.{White, Black}

-- Article 2.2: the side has one king
abbrev pub has_one_king : Places → Colour → Bool
has_one_king board c = kings c board == 1

-- With c to move: each side has one king, no pawn stands on rank 1 or 8, no king of the other side is attacked by c, and neither
-- side has more pawns and men that must have been promoted than it began with pawns, where the array lacks the men on the squares of o.
unfoldable pub is_sane : List Bool → Places → Colour → Bool
is_sane o board c =
    has_one_king board White && accounts_for o board White && has_one_king board Black && accounts_for o board Black && has_no_pawn_on_ends board && not (in_check board (opponent c))
