-- What bars a retraction.
use Rattle.std.specs.Prelude.{ℕ, Bool, false, ◌&&◌, not, ◌==◌, Option, Some, None}
use Rattle.std.specs.List.{list_any, range_with_len}
use Rattle.board_base.specs.Attacks.{attacks_from}
use Rattle.board_base.specs.Board.{Places, at, is_empty, is_of, is_the, opponent}
use Rattle.board_base.specs.Game.{touches}
use Rattle.board_base.specs.Legal.{is_move}
use Rattle.board_base.specs.Rights.{holds}
use Rattle.board_base.specs.declared.men.Colour.{Colour}
use Rattle.board_base.specs.declared.men.Kind.TheVariants.{King}
use Rattle.board_base.specs.declared.moves.Move.{Move}
use Rattle.board_base.specs.declared.unmoves.Unmove.{Unmove}
use Rattle.men_account.specs.Account.{accounts_for}
use Rattle.query_base.specs.Asked.{Asked}
use Rattle.unmove_gen.specs.Listed.{answered, before, is_listed, mover, obeys_clock, obeys_only}
use Rattle.retraction_bars.specs.declared.bars.Bar.{Bar}
use Rattle.retraction_bars.specs.declared.bars.Bar.TheVariants.{Only, Check, Occupied, Itself, Held, Barred, Account, Clock, Passed, Otherwise}

-- the man on s attacks some king of the other side than c
unfoldable pub attacks_a_king : Places → Colour → ℕ → Bool
attacks_a_king board c s = list_any (λ k. is_the (opponent c) King (at board k) && attacks_from board s k) (range_with_len 0 64)

-- Article 3.9: a man of c stands on s and gives check
abbrev pub gives_check : Places → Colour → ℕ → Bool
gives_check board c s = is_of c (at board s) && attacks_a_king board c s

-- somebody stands on the square that the double step left, if there is one
abbrev pub is_left_full : Option Move → Places → Bool
is_left_full None board = false
is_left_full (Some d) board = not (is_empty (at board d.from))

-- Article 3.7: the move is marked en passant, and somebody stands where the pawn that it took began
abbrev pub is_late : Asked → Unmove → Bool
is_late q u = is_left_full (answered u (mover q)) (before q u)

-- This bars the retraction. Only: the last move had to be another. Check: with the move taken back and the mover to move, another
-- man, on this square, gives check. Occupied: somebody stands on the origin. Itself: from the origin the man gave check. Held: the move touches a
-- home of this right, which is held. Barred: the move is barred. Account: with the move taken back this side has too many men. Clock: the
-- clock doesn't allow the move. Passed: the pawn taken en passant can't have come by a double step. Otherwise: it isn't listed.
unfoldable pub bars : Bar → Asked → Unmove → Bool
bars Only q u = not (obeys_only q.only q.board u.mv)
bars (Check s) q u = not (s == u.mv.from) && gives_check (before q u) (mover q) s
bars Occupied q u = not (is_empty (at q.board u.mv.from))
bars Itself q u = gives_check (before q u) (mover q) u.mv.from
bars (Held x) q u = holds q.held x && touches u.mv x
bars Barred q u = is_move q.barred u.mv
bars (Account c) q u = not (accounts_for q.odds (before q u) c)
bars Clock q u = not (obeys_clock q u)
bars Passed q u = is_late q u
bars Otherwise q u = not (is_listed q u)
