-- What is told of a position's ledger.
use Rattle.std.specs.Prelude.{ℕ, ◌≡◌, ◌⊎◌, zero, suc, List, [], ◌∷◌, ◌++◌, Bool, Option, Some, None, length}
use Rattle.std.specs.List.{flat_map}
use Rattle.board_base.specs.declared.men.Colour.{Colour}
use Rattle.board_base.specs.declared.men.Colour.TheVariants.{White, Black}
use Rattle.board_base.specs.declared.moves.Move.{Move}
use Rattle.play_rules.specs.Reach.{IsWithin}
use Rattle.query_base.specs.Asked.{Asked}
use Rattle.query_base.specs.Reach.{Reaches}
use Rattle.cage_rules.specs.Frozen.{IsAsArray, IsFrozen}
use Rattle.ledger_search.specs.Contradictions.{IsContradictory}
use Rattle.ledger_search.specs.Ledgers.{IsLedgerOf}
use Rattle.ledger_search.specs.declared.ledgers.Ledger.{Ledger}
use Rattle.ledger_lines.specs.Lines.{LineSays}
use Rattle.ledger_lines.specs.LineTexts.{line_text}
use Rattle.ledger_lines.specs.declared.lines.Line.{Line}
use Rattle.ledger_told.specs.Due.{IsSquareLine, IsWhole}
use Rattle.ledger_told.specs.declared.topics.Breed.TheVariants.{Queens, Rooks, DarkBishops, LightBishops, Knights}
use Rattle.ledger_told.specs.declared.topics.Group.TheVariants.{Ahead, Original}
use Rattle.ledger_told.specs.declared.topics.Whole.{Whole}
use Rattle.ledger_told.specs.declared.topics.Whole.TheVariants.{Unmoved, Lacks, Captures, Those, Among}
use Rattle.ledger_told.specs.declared.topics.Topic.{Topic}
use Rattle.ledger_told.specs.declared.topics.Topic.TheVariants.{Pawns, Men, Officers, Falls, Promotions}

-- a line with its end
abbrev pub whole_text : Line → List ℕ
whole_text x = line_text x ++ 10 ∷ []

-- lines one behind the other
unfoldable pub lines_text : List Line → List ℕ
lines_text xs = flat_map whole_text xs

-- a line or none
abbrev pub one_line : Option Line → List Line
one_line None = []
one_line (Some x) = x ∷ []

-- the line of what is told by one, if it is due
abbrev pub TellsWhole : Whole → Asked → Ledger → List Bool → List Line → Type 0
TellsWhole whole q l set xs = (line : Option Line) × IsWhole whole q l set line × (xs ≡ one_line line)

-- the lines of the first n squares
unfoldable pub TellsFirst : Topic → Asked → Ledger → ℕ → List Line → Type 0
TellsFirst topic q l zero xs = xs ≡ []
TellsFirst topic q l (suc n) xs = (front : List Line) × (line : Option Line) × TellsFirst topic q l n front × IsSquareLine topic q l n line × (xs ≡ front ++ one_line line)

-- some lines, and others behind them
pub record Then (P Q : List Line → Type 0) (xs : List Line) : Type 0 where
  pub front : List Line
  pub rest : List Line
  pub first : P front
  pub last : Q rest
  pub all : xs ≡ front ++ rest

-- how many officers of a side began as pawns, kind by kind
abbrev pub TellsAmong : Colour → Asked → Ledger → List Bool → List Line → Type 0
TellsAmong c q l set =
    Then (TellsWhole (Among c Queens) q l set)
    (Then (TellsWhole (Among c Rooks) q l set)
    (Then (TellsWhole (Among c DarkBishops) q l set)
    (Then (TellsWhole (Among c LightBishops) q l set)
    (TellsWhole (Among c Knights) q l set))))

-- the lines that are told, in order: what is one line of the whole board is told once, and the rest square by square
abbrev pub TellsAll : Asked → Ledger → List Bool → List Line → Type 0
TellsAll q l set =
    Then (TellsWhole Unmoved q l set)
    (Then (TellsWhole (Lacks White) q l set)
    (Then (TellsWhole (Lacks Black) q l set)
    (Then (TellsWhole (Captures White) q l set)
    (Then (TellsWhole (Captures Black) q l set)
    (Then (TellsFirst (Pawns White) q l 64)
    (Then (TellsFirst (Pawns Black) q l 64)
    (Then (TellsFirst (Men White) q l 64)
    (Then (TellsFirst (Men Black) q l 64)
    (Then (TellsWhole (Those Ahead) q l set)
    (Then (TellsWhole (Those Original) q l set)
    (Then (TellsFirst (Officers White) q l 64)
    (Then (TellsFirst (Officers Black) q l 64)
    (Then (TellsAmong White q l set)
    (Then (TellsAmong Black q l set)
    (Then (TellsFirst (Falls set) q l 64)
    (TellsFirst Promotions q l 64))))))))))))))))

-- the greatest frozen set that is as in the array at the query's odds
pub record IsGreatest (q : Asked) (set : List Bool) : Type 0 where
  pub whole : length set ≡ 64
  pub frozen : IsFrozen q set
  pub as_array : IsAsArray q.odds q.board set
  pub greatest : (other : List Bool) → IsFrozen q other → IsAsArray q.odds q.board other → IsWithin other set

-- The lines are those that are told of the query's ledger: none if this contradicts itself, and else all that are due.
pub record TellsLines (q : Asked) (lines : List Line) : Type 0 where
  pub ledger : Ledger
  pub ledger_is : IsLedgerOf q ledger
  pub set : List Bool
  pub set_is : IsGreatest q set
  pub told : (IsContradictory q ledger × (lines ≡ [])) ⊎ ((IsContradictory q ledger → ⊥) × TellsAll q ledger set lines)

-- the line is true of each game that reaches the query
abbrev pub IsLineTrue : Asked → Line → Type 0
IsLineTrue q x = (g : List Move) → Reaches g q → LineSays x q.odds g
