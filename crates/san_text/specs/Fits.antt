-- Which moves a text of algebraic notation fits.
use Rattle.std.specs.Prelude.{ℕ, ◌≡◌, ◌≢◌, Bool, true, false, ◌&&◌, ◌||◌, not, ◌==◌, IsTrue, List, Option, Some, None, is_none, is_some}
use Rattle.board_base.specs.Board.{Places, at, is_a, file, rank}
use Rattle.board_base.specs.Play.{castling, goes_en_passant, king_home, king_target}
use Rattle.board_base.specs.Legal.{same_promo}
use Rattle.board_base.specs.declared.men.Colour.{Colour}
use Rattle.board_base.specs.declared.men.Colour.TheVariants.{White, Black}
use Rattle.board_base.specs.declared.men.Kind.TheVariants.{King}
use Rattle.board_base.specs.declared.moves.Move.{Move}
use Rattle.board_base.specs.declared.castles.Castle.{Castle}
use Rattle.board_base.specs.declared.castles.Castle.TheVariants.{WhiteShort, WhiteLong, BlackShort, BlackLong}
use Rattle.play_rules.specs.States.{Position, legal_at}
use Rattle.san_text.specs.Grammar.{san_of}
use Rattle.san_text.specs.declared.grammar.San.{San}
use Rattle.san_text.specs.declared.grammar.San.TheVariants.{Short, Long, Goes}
use Rattle.san_text.specs.declared.grammar.Going.{Going}
use Rattle.san_text.specs.declared.reading.SanFault.{SanFault}
use Rattle.san_text.specs.declared.reading.SanFault.TheVariants.{BadText, NoMove, Many}

-- Article 3.8: this colour's castling with the rook of file h
abbrev pub short_of : Colour → Castle
short_of White = WhiteShort
short_of Black = BlackShort

-- Article 3.8: this colour's castling with the rook of file a
abbrev pub long_of : Colour → Castle
long_of White = WhiteLong
long_of Black = BlackLong

-- Articles 3.1 and 3.7: the move takes a man, en passant too
abbrev pub captures : Places → Move → Bool
captures board m = is_some (at board m.to) || goes_en_passant board m

-- a number is as the text gives it, if the text does
abbrev pub allows : Option ℕ → ℕ → Bool
allows None n = true
allows (Some told) n = told == n

-- both or neither
abbrev pub same_truth : Bool → Bool → Bool
same_truth true b = b
same_truth false b = not b

-- Article 3.8: a king goes from his home in this castling to his target
abbrev pub castles_by : Places → Castle → Move → Bool
castles_by board x m = is_a King (at board m.from) && (m.from == king_home x) && (m.to == king_target x)

-- the move isn't castling, and its man, its target, its promotion and its origin are as the text says, and it captures where the text has x
abbrev pub goes_by : Places → Going → Move → Bool
goes_by board d m =
    is_none (castling board m) && is_a d.kind (at board m.from) && (m.to == d.to) && same_promo d.promo m.promo && allows d.file (file m.from) && allows d.rank (rank m.from) && same_truth d.takes (captures board m)

-- a move of this colour is as the text says
abbrev pub agrees : Places → Colour → San → Move → Bool
agrees board c Short m = castles_by board (short_of c) m
agrees board c Long m = castles_by board (long_of c) m
agrees board c (Goes d) m = goes_by board d m

-- the move is legal, and is as the text says
unfoldable pub fits : San → Position → Move → Bool
fits said p m = legal_at p m && agrees p.board p.turn said m

-- what is said, if anything is, fits the move
abbrev pub fits_said : Option San → Position → Move → Bool
fits_said None p m = false
fits_said (Some said) p m = fits said p m

-- the text fits the move in this state
abbrev pub fits_text : List ℕ → Position → Move → Bool
fits_text text p m = fits_said (san_of text) p m

-- the move passes the test, and no other does
pub record IsOnly (test : Move → Bool) (m : Move) : Type 0 where
  pub passes : IsTrue (test m)
  pub alone : (n : Move) → IsTrue (test n) → n ≡ m

-- no move passes the test
abbrev pub HasNone : (Move → Bool) → Type 0
HasNone test = (m : Move) → test m ≡ false

-- two moves pass the test
pub record HasTwo (test : Move → Bool) : Type 0 where
  pub one : Move
  pub other : Move
  pub one_passes : IsTrue (test one)
  pub other_passes : IsTrue (test other)
  pub differ : one ≢ other

-- what a fault of the search says
abbrev pub IsFoundFault : SanFault → (Move → Bool) → Type 0
IsFoundFault BadText test = ⊥
IsFoundFault NoMove test = HasNone test
IsFoundFault Many test = HasTwo test

-- what a fault says of the text in this state
abbrev pub IsFaultOf : SanFault → List ℕ → Position → Type 0
IsFaultOf BadText text p = san_of text ≡ None
IsFaultOf NoMove text p = (san_of text ≢ None) × HasNone (fits_text text p)
IsFaultOf Many text p = HasTwo (fits_text text p)
