-- The unmoves of a query.
use Rattle.std.specs.Prelude.{ℕ, zero, suc, Bool, true, false, cond, ◌&&◌, ◌||◌, not, is_some, List, [], ◌∷◌, Option, Some, None}
use Rattle.std.specs.List.{filter, flat_map, list_all, range_with_len}
use Rattle.std.specs.Bool.{beq}
use Rattle.board_base.specs.Board.{Places, at, is_empty, is_of, is_a, opponent, same_kind, same_place}
use Rattle.board_base.specs.Play.{play, all_castles, double_of}
use Rattle.board_base.specs.Legal.{legal_on, pawn_captures_en_passant, is_move}
use Rattle.board_base.specs.Game.{touches}
use Rattle.board_base.specs.Rights.{holds}
use Rattle.query_base.specs.Asked.{Asked}
use Rattle.play_rules.specs.Listed.{moves_between}
use Rattle.unmove_gen.specs.TakenBack.{taken_back}
use Rattle.unmove_gen.specs.Sane.{is_sane}
use Rattle.board_base.specs.declared.men.Colour.{Colour}
use Rattle.board_base.specs.declared.men.Kind.{Kind}
use Rattle.board_base.specs.declared.men.Kind.TheVariants.{Pawn, Knight, Bishop, Rook, Queen}
use Rattle.board_base.specs.declared.moves.Move.{Move}
use Rattle.board_base.specs.declared.castles.Castle.{Castle}
use Rattle.board_base.specs.declared.unmoves.Unmove.{Unmove}

-- the move with a capture of this kind, or none
abbrev pub taking : Move → Option Kind → Unmove
taking m captured = record { mv = m; captured = captured; ep = false }

-- Article 3.7: the move as a capture en passant
abbrev pub taking_en_passant : Move → Unmove
taking_en_passant m = record { mv = m; captured = Some Pawn; ep = true }

-- what a move may have captured: nothing, a pawn, a knight, a bishop, a rook, a queen, or a pawn en passant
abbrev pub unmoves_of : Move → List Unmove
unmoves_of m =
    taking m None ∷ taking m (Some Pawn) ∷ taking m (Some Knight) ∷ taking m (Some Bishop) ∷ taking m (Some Rook) ∷ taking m (Some Queen) ∷ taking_en_passant m ∷ []

-- the unmoves from one square to another
abbrev pub unmoves_between : ℕ → ℕ → List Unmove
unmoves_between to from = flat_map unmoves_of (moves_between from to)

-- the unmoves of moves to a square
abbrev pub unmoves_to : ℕ → List Unmove
unmoves_to to = flat_map (unmoves_between to) (range_with_len 0 64)

-- all unmoves that there may be, by target, then origin, then promotion, then captured man
unfoldable pub candidates : List Unmove
candidates = flat_map unmoves_to (range_with_len 0 64)

-- the boards have the same men on the same squares
unfoldable pub same_places : Places → Places → Bool
same_places [] [] = true
same_places (x ∷ xs) (y ∷ ys) = same_place x y && same_places xs ys
same_places _ _ = false

-- every castling is allowed
abbrev pub every_right : Castle → Bool
every_right x = true

-- the side that made the last move: the side not to move
abbrev pub mover : Asked → Colour
mover q = opponent q.turn

-- the board before the unmove's move
abbrev pub before : Asked → Unmove → Places
before q u = taken_back q.board u

-- Article 3.7: the double step that the move answered, if it is marked en passant
abbrev pub answered : Unmove → Colour → Option Move
answered u c = cond u.ep (double_of u.mv c) None

-- the unmove's origin is empty, and a man of the side that moved stands on its target
abbrev pub fits_ends : Asked → Unmove → Bool
fits_ends q u = is_empty (at q.board u.mv.from) && is_of (mover q) (at q.board u.mv.to)

-- Article 3.8: the move has neither its origin nor its target on a home square of a right that is held
abbrev pub keeps_held : Asked → Move → Bool
keeps_held q m = list_all (λ x. not (holds q.held x && touches m x)) all_castles

-- the move is the only one that is allowed, if one is given, and a pawn stands on its target
abbrev pub obeys_only : Option Move → Places → Move → Bool
obeys_only None board m = true
obeys_only (Some n) board m = is_move (Some n) m && is_a Pawn (at board m.to)

-- the move isn't the barred one
abbrev pub obeys_barred : Option Move → Move → Bool
obeys_barred barred m = not (is_move barred m)

-- the move meets what the query asks of the last move
abbrev pub obeys : Asked → Move → Bool
obeys q m = keeps_held q m && obeys_only q.only q.board m && obeys_barred q.barred m

-- it captured a pawn
abbrev pub took_pawn : Unmove → Bool
took_pawn u = elim u.captured [ None ↦ false | Some k ↦ same_kind Pawn k ]

-- Article 3.7: where a double step is given, the square that it left is empty
abbrev pub has_left : Option Move → Places → Bool
has_left None board = true
has_left (Some d) board = is_empty (at board d.from)

-- Article 3.7: it is marked en passant if and only if its move is such a capture, and then it took a pawn whose home is empty
abbrev pub is_marked : Places → Colour → Unmove → Bool
is_marked board c u =
    beq u.ep (pawn_captures_en_passant board c (answered u c) u.mv) && cond u.ep (took_pawn u && has_left (answered u c) board) true

-- Article 3: the move is legal on the board before it, with every castling allowed, after the double step that it answered
abbrev pub is_legal_before : Places → Colour → Unmove → Bool
is_legal_before board c u = legal_on board c every_right (answered u c) u.mv

-- playing the move on the board before it gives the query's board
abbrev pub leads_here : Places → Asked → Move → Bool
leads_here board q m = same_places (play board m) q.board

-- its move may have been the last of a game that reaches the query, but for the clock
unfoldable pub is_retraction : Asked → Unmove → Bool
is_retraction q u =
    fits_ends q u && obeys q u.mv && is_marked (before q u) (mover q) u && is_legal_before (before q u) (mover q) u && leads_here (before q u) q u.mv && is_sane q.odds (before q u) (mover q)

-- Article 9.3: the move sets the clock to 0: a pawn made it, or it captured
abbrev pub resets : Places → Unmove → Bool
resets board u = is_a Pawn (at board u.mv.to) || is_some u.mv.promo || is_some u.captured || u.ep

-- a clock of 0 comes after a move that sets it to 0, and a higher one after another
abbrev pub allows : Option ℕ → Bool → Bool
allows None reset = true
allows (Some zero) reset = reset
allows (Some (suc n)) reset = not reset

-- the move meets the clock that is demanded, if one is
abbrev pub obeys_clock : Asked → Unmove → Bool
obeys_clock q u = allows q.clock (resets q.board u)

-- the unmove is in the list of the query: its move may have been the last of a game that reaches it
unfoldable pub is_listed : Asked → Unmove → Bool
is_listed q u = is_retraction q u && obeys_clock q u

-- the unmoves of the query
unfoldable pub unmoves : Asked → List Unmove
unmoves q = filter (is_listed q) candidates

-- a query, and those of its unmoves that are left
pub record AskedUnmoves : Type 0 where
  pub query : Asked
  pub left : List Unmove
