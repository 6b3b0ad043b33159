-- The forms of the grammar: what its texts are, each written by the parts that it tells.
use Rattle.std.specs.Prelude.{ℕ, ◌≡◌, ◌<◌, IsTrue, List, ◌++◌, Option, Some, None, is_some}
use Rattle.board_base.specs.declared.men.Kind.{Kind}
use Rattle.board_base.specs.declared.men.Kind.TheVariants.{Pawn, King}
use Rattle.san_text.specs.Grammar.{is_end}
use Rattle.san_text.specs.Small.{IsSmall}
use Rattle.san_text.specs.Spelling.{said_text}
use Rattle.san_text.specs.declared.grammar.Going.{Going}
use Rattle.san_text.specs.declared.grammar.San.{San}
use Rattle.san_text.specs.declared.grammar.San.TheVariants.{Short, Long, Goes}

-- Article 3.7: a pawn may become a queen, a rook, a bishop or a knight, or stay a pawn
abbrev pub CanBecome : Option Kind → Type 0
CanBecome (Some Pawn) = ⊥
CanBecome (Some King) = ⊥
CanBecome promo = Unit {0}

-- a pawn's text tells its file if and only if it captures, and never its rank
pub record IsPawnForm (d : Going) : Type 0 where
  pub rank : d.rank ≡ None
  pub takes : d.takes ≡ is_some d.file
  pub becomes : CanBecome d.promo

-- any other text tells no promotion
abbrev pub IsFormOf : Kind → Going → Type 0
IsFormOf Pawn d = IsPawnForm d
IsFormOf k d = d.promo ≡ None

-- the file, the rank and the target that are told are of the board
pub record IsOnBoard (d : Going) : Type 0 where
  pub file : IsSmall d.file
  pub rank : IsSmall d.rank
  pub to : d.to < 64

-- a text of the grammar can say this
abbrev pub IsForm : San → Type 0
IsForm Short = Unit {0}
IsForm Long = Unit {0}
IsForm (Goes d) = IsOnBoard d × IsFormOf d.kind d

-- the text says this by its parts in their order, and ends with one sign of check or mate, or none
abbrev pub SaysSo : List ℕ → San → Type 0
SaysSo text said = (sign : List ℕ) × IsTrue (is_end sign) × (text ≡ said_text said ++ sign)
