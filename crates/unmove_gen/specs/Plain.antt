-- Inner: no public clause cites this file.
-- Moves that are no castling, no capture en passant and no promotion, taken back by hand.
use Rattle.std.specs.Prelude.{ℕ, ◌≡◌, ◌<◌, Bool, true, false, cond, ◌&&◌, ◌||◌, not, ◌==◌, nat_lt, length, List, [], ◌∷◌, map, slice_set, Option, None}
use Rattle.board_base.specs.Board.{Places, array_of, at, file, is_a, is_of, is_the, rank}
use Rattle.board_base.specs.Attacks.{attacks, is_open, kind_attacks, one_ahead, ranks_apart}
use Rattle.board_base.specs.Play.{castling_from}
use Rattle.board_base.specs.Legal.{in_check, man_moves, pawn_captures, pawn_doubles, pawn_rank, pawn_steps, promotion_fits}
use Rattle.men_account.specs.Account.{accounts_for, allowance_of, counts_of, excess_of, is_any, is_light}
use Rattle.men_account.specs.declared.tallies.Allowance.{Allowance}
use Rattle.men_account.specs.declared.tallies.Counts.{Counts}
use Rattle.unmove_gen.specs.declared.facts.QueryFacts.{QueryFacts}
use Rattle.play_rules.specs.Kings.{HasOneKingEach}
use Rattle.play_rules.specs.Laws.{HasNoPawnOnEnds, is_end}
use Rattle.query_base.specs.Asked.{Asked}
use Rattle.unmove_gen.specs.Listed.{is_listed, is_retraction, mover, unmoves_of}
use Rattle.board_base.specs.declared.castles.Castle.{Castle}
use Rattle.board_base.specs.declared.men.Colour.{Colour}
use Rattle.board_base.specs.declared.men.Kind.{Kind}
use Rattle.board_base.specs.declared.men.Kind.TheVariants.{Pawn, Knight, Bishop, Rook, Queen, King}
use Rattle.board_base.specs.declared.men.Man.{Man}
use Rattle.board_base.specs.declared.moves.Move.{Move}

-- the man on the target goes back to the origin, and this stands where he stood
abbrev pub put_back : Places → Move → Option Man → Places
put_back board m taken = slice_set (slice_set (slice_set board m.to None) m.from (at board m.to)) m.to taken

-- Articles 3.2 to 3.8: the man goes so by his own way, and no pawn is promoted but on the last rank
abbrev pub goes_plainly : Places → Colour → Move → Bool
goes_plainly board c m = promotion_fits board c m && (man_moves board m || pawn_steps board c m || pawn_doubles board c m || pawn_captures board c m)

-- the pawn on the target comes from rank 1 or 8
abbrev pub starts_on_end : Places → Move → Bool
starts_on_end board m = is_a Pawn (at board m.to) && is_end m.from

-- Article 3.7: a pawn of this colour goes two squares ahead so, but for who stands on the second
abbrev pub doubles : Places → Colour → ℕ → ℕ → Bool
doubles board c s t = (rank s == pawn_rank c) && (file s == file t) && (ranks_apart s t == 2) && is_open board s t

-- Articles 3.2 to 3.8: a man goes so by his own way, but for promotion, to a square that is empty
abbrev pub goes_to_empty : Places → Man → ℕ → ℕ → Bool
goes_to_empty board man s t = elim man.kind [
  | Pawn ↦ (one_ahead man.colour s t && (file s == file t)) || doubles board man.colour s t
  | Knight ↦ kind_attacks board man.colour Knight s t
  | Bishop ↦ kind_attacks board man.colour Bishop s t
  | Rook ↦ kind_attacks board man.colour Rook s t
  | Queen ↦ kind_attacks board man.colour Queen s t
  | King ↦ kind_attacks board man.colour King s t
]

-- the man who goes so leaves this king alone, and comes from no end as a pawn
abbrev pub goes_soundly : Places → Asked → ℕ → Move → Bool
goes_soundly before q king m = goes_plainly before (mover q) m && not (starts_on_end q.board m) && not (attacks before king (mover q))

-- the castling whose king goes so, if a king stands on the target
abbrev pub king_goes : Places → Move → Option Castle
king_goes board m = cond (is_a King (at board m.to)) (castling_from m.from m.to) None

-- Articles 2.2 and 2.3: of a man of this kind, who would stand on this square, the side began with more than it has
abbrev pub lacks : Allowance → Counts → Kind → ℕ → Bool
lacks a n Pawn s = false
lacks a n Knight s = nat_lt n.knights a.knights
lacks a n Bishop s = cond (is_light s) (nat_lt n.light_bishops a.light_bishops) (nat_lt n.dark_bishops a.dark_bishops)
lacks a n Rook s = nat_lt n.rooks a.rooks
lacks a n Queen s = nat_lt n.queens a.queens
lacks a n King s = false

-- a side that began with so many men has room for one man more of this kind, on this square
abbrev pub has_room : Allowance → Counts → Kind → ℕ → Bool
has_room a n k s = nat_lt (excess_of n a) a.pawns || ((excess_of n a == a.pawns) && lacks a n k s)

-- The facts are true of the query, whose board has one king each, no pawn on rank 1 or 8, no king open to capture and a side that moved
-- whose account holds at the query's odds.
pub record AreFacts (q : Asked) (f : QueryFacts) : Type 0 where
  pub whole : length q.board ≡ 64
  pub on_board : f.king < 64
  pub king_is : (s : ℕ) → s < 64 → is_the q.turn King (at q.board s) ≡ (s == f.king)
  pub kings : HasOneKingEach q.board
  pub ends : HasNoPawnOnEnds q.board
  pub safe : in_check q.board (mover q) ≡ false
  pub own : accounts_for q.odds q.board (mover q) ≡ true
  pub men_are : f.men ≡ counts_of q.turn q.board
  pub allowed_is : f.allowed ≡ allowance_of q.turn is_any (array_of q.odds)
  pub used_is : f.used ≡ excess_of f.men f.allowed
  pub checked_is : f.checked ≡ attacks q.board f.king (mover q)

-- a move that may be taken back by hand: of a man of c who goes to his square from an empty one, with no castling or promotion
pub record IsPlain (board : Places) (c : Colour) (m : Move) : Type 0 where
  pub whole : length board ≡ 64
  pub from : m.from < 64
  pub to : m.to < 64
  pub origin : at board m.from ≡ None
  pub own : is_of c (at board m.to) ≡ true
  pub promo : m.promo ≡ None
  pub king : king_goes board m ≡ None

-- a truth value for each candidate of the move says whether it is a retraction of the query, but for the clock
abbrev pub AreFitting : Asked → Move → List Bool → Type 0
AreFitting q m fitting = fitting ≡ map (is_retraction q) (unmoves_of m)

-- a truth value for each candidate of the move says whether it is listed
abbrev pub TellListed : Asked → Move → List Bool → Type 0
TellListed q m listed = listed ≡ map (is_listed q) (unmoves_of m)

-- it may be known that with the man on a square taken off no man of the side that moved attacks this king
abbrev pub KnowsAlone : Asked → ℕ → ℕ → Bool → Type 0
KnowsAlone q king to alone = alone ≡ true → attacks (slice_set q.board to None) king (mover q) ≡ false

-- of those that fit the listed, where a clock allows a quiet move or not, and a capture or not
abbrev pub kept_of : List Bool → Bool → Bool → List Bool
kept_of [] quiet takes = []
kept_of (first ∷ others) quiet takes = (first && quiet) ∷ map (λ b. b && takes) others
