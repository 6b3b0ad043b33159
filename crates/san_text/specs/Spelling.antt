-- The one text of a legal move.
use Rattle.std.specs.Prelude.{ℕ, ◌+◌, Bool, true, false, cond, ◌&&◌, not, ◌==◌, List, [], ◌∷◌, ◌++◌, Option, Some, None}
use Rattle.std.specs.List.{list_any, range_with_len}
use Rattle.board_base.specs.Board.{Places, at, is_a, opponent, file, rank}
use Rattle.board_base.specs.Rights.{Rights}
use Rattle.board_base.specs.Play.{castling, play}
use Rattle.board_base.specs.Legal.{in_check}
use Rattle.board_base.specs.Game.{touches}
use Rattle.board_base.specs.Texts.{square_text}
use Rattle.board_base.specs.declared.men.Man.{Man}
use Rattle.board_base.specs.declared.men.Kind.{Kind}
use Rattle.board_base.specs.declared.men.Kind.TheVariants.{Pawn, Knight, Bishop, Rook, Queen, King}
use Rattle.board_base.specs.declared.moves.Move.{Move}
use Rattle.board_base.specs.declared.castles.Castle.{Castle}
use Rattle.board_base.specs.declared.castles.Castle.TheVariants.{WhiteShort, WhiteLong, BlackShort, BlackLong}
use Rattle.play_rules.specs.Clocks.{counted, resets}
use Rattle.play_rules.specs.States.{Position, legal_at, crossed_by}
use Rattle.play_rules.specs.Listed.{move_of, moves_between}
use Rattle.san_text.specs.Fits.{captures}
use Rattle.san_text.specs.declared.grammar.San.{San}
use Rattle.san_text.specs.declared.grammar.San.TheVariants.{Short, Long, Goes}
use Rattle.san_text.specs.declared.grammar.Going.{Going}
use Rattle.san_text.specs.declared.naming.Shared.{Shared}
use Rattle.san_text.specs.declared.naming.Shared.TheVariants.{Board, File, Rank}
use Rattle.san_text.specs.declared.marks.Mark.{Mark}
use Rattle.san_text.specs.declared.marks.Mark.TheVariants.{Quiet, Check, Mate}

-- a piece's letter, and nothing for a pawn
abbrev pub capital : Kind → List ℕ
capital Pawn = []
capital Knight = 78 ∷ []
capital Bishop = 66 ∷ []
capital Rook = 82 ∷ []
capital Queen = 81 ∷ []
capital King = 75 ∷ []

-- the letter of a file that is told
abbrev pub file_text : Option ℕ → List ℕ
file_text None = []
file_text (Some f) = (97 + f) ∷ []

-- the digit of a rank that is told
abbrev pub rank_text : Option ℕ → List ℕ
rank_text None = []
rank_text (Some r) = (49 + r) ∷ []

-- x where the move captures
abbrev pub takes_text : Bool → List ℕ
takes_text false = []
takes_text true = 120 ∷ []

-- = and the letter of what a pawn becomes
abbrev pub promotion_text : Option Kind → List ℕ
promotion_text None = []
promotion_text (Some k) = 61 ∷ capital k

-- who goes, and from where
abbrev pub origin_text : Going → List ℕ
origin_text d = capital d.kind ++ file_text d.file ++ rank_text d.rank

-- whether he captures, where he goes, and what he becomes
abbrev pub end_text : Going → List ℕ
end_text d = takes_text d.takes ++ square_text d.to ++ promotion_text d.promo

-- the text of what is said of a move that isn't castling
abbrev pub going_text : Going → List ℕ
going_text d = origin_text d ++ end_text d

-- the text of what is said of a move
abbrev pub said_text : San → List ℕ
said_text Short = 79 ∷ 45 ∷ 79 ∷ []
said_text Long = 79 ∷ 45 ∷ 79 ∷ 45 ∷ 79 ∷ []
said_text (Goes d) = going_text d

-- what the square has in common with the origin
abbrev pub shares : Shared → ℕ → ℕ → Bool
shares Board s from = true
shares File s from = file s == file from
shares Rank s from = rank s == rank from

-- another man of this kind stands on the square, and may go to the same target
abbrev pub is_rival : Position → Kind → Move → ℕ → Bool
is_rival p k m s = not (s == m.from) && is_a k (at p.board s) && legal_at p (move_of s m.to m.promo)

-- there is such a man on a square that has this in common with the origin
unfoldable pub any_rival : Shared → Position → Kind → Move → Bool
any_rival shared p k m = list_any (λ s. shares shared s m.from && is_rival p k m s) (range_with_len 0 64)

-- what is told of a piece's origin: nothing, the file, the rank or both, the first of these that leaves no rival
abbrev pub told : Bool → Bool → Bool → ℕ → Option ℕ × Option ℕ
told false on_file on_rank s = (None, None)
told true false on_rank s = (Some (file s), None)
told true true false s = (None, Some (rank s))
told true true true s = (Some (file s), Some (rank s))

-- what is told of the origin, of a pawn the file where it captures
abbrev pub origin_of : Position → Kind → Move → Option ℕ × Option ℕ
origin_of p Pawn m = (cond (captures p.board m) (Some (file m.from)) None, None)
origin_of p k m = told (any_rival Board p k m) (any_rival File p k m) (any_rival Rank p k m) m.from

-- the kind of the man on a square
abbrev pub kind_of : Option Man → Kind
kind_of None = Pawn
kind_of (Some m) = m.kind

-- the kind of the man on a square of a board
abbrev pub kind_at : Places → ℕ → Kind
kind_at board s = kind_of (at board s)

-- what is said of a castling
abbrev pub named_castle : Castle → San
named_castle WhiteShort = Short
named_castle WhiteLong = Long
named_castle BlackShort = Short
named_castle BlackLong = Long

-- the man of a kind goes, of whose origin this is told
abbrev pub named_from : Position → Kind → Option ℕ × Option ℕ → Move → San
named_from p k from m = Goes (record { kind = k; file = from.0; rank = from.1; takes = captures p.board m; to = m.to; promo = m.promo })

-- what is said of a move of a man of this kind, with as much of its origin as tells it from its rivals
abbrev pub named_kind : Position → Kind → Move → San
named_kind p k m = named_from p k (origin_of p k m) m

-- what is said of a move that isn't castling
abbrev pub named_going : Position → Move → San
named_going p m = named_kind p (kind_at p.board m.from) m

-- what is said of a move: its castling, if it is one, and else who goes where
abbrev pub named_as : Option Castle → Position → Move → San
named_as None p m = named_going p m
named_as (Some x) p m = named_castle x

-- what the spelling of a move says of it
unfoldable pub named : Position → Move → San
named p m = named_as (castling p.board m) p m

-- the side to move has a legal move from this square
unfoldable pub has_move_from : Position → ℕ → Bool
has_move_from p from = list_any (λ to. list_any (legal_at p) (moves_between from to)) (range_with_len 0 64)

-- the side to move has a legal move
unfoldable pub has_move : Position → Bool
has_move p = list_any (has_move_from p) (range_with_len 0 64)

-- Articles 3.9 and 5.1: a king of the side to move is attacked, and it has a legal move or none
unfoldable pub mark_of : Position → Mark
mark_of p = cond (in_check p.board p.turn) (cond (has_move p) Check Mate) Quiet

-- nothing, + or #
abbrev pub mark_text : Mark → List ℕ
mark_text Quiet = []
mark_text Check = 43 ∷ []
mark_text Mate = 35 ∷ []

-- Article 3.8: the rights that the move leaves
abbrev pub kept : Rights → Move → Rights
kept rights m = record {
  white_short = rights.white_short && not (touches m WhiteShort);
  white_long = rights.white_long && not (touches m WhiteLong);
  black_short = rights.black_short && not (touches m BlackShort);
  black_long = rights.black_long && not (touches m BlackLong);
}

-- The state after a move: it `Follows` by the move, and no other does, so it is what `step` gives (`one_state_follows`).
abbrev pub next : Position → Move → Position
next p m = record {
  board = play p.board m;
  turn = opponent p.turn;
  rights = kept p.rights m;
  ep = crossed_by (play p.board m) (opponent p.turn) (Some m);
  clock = cond (resets p.board m) 0 (counted (p.clock + 1));
}

-- the one text of a legal move: what is said of it, and whether it gives check or mate
unfoldable pub spelling : Position → Move → List ℕ
spelling p m = said_text (named p m) ++ mark_text (mark_of (next p m))
