-- The lines of a query, read from the first on.
use Rattle.std.specs.Prelude.{ℕ, Bool, List, [], ◌∷◌, Option, Some, None}
use Rattle.std.specs.Option.{option_map}
use Rattle.board_base.specs.Board.{no_odds}
use Rattle.query_base.specs.Asked.{Asked}
use Rattle.fen_text.specs.OddsLines.{odds_line}
use Rattle.cert_text.specs.Certificate.{Lines, clock_demand, query_of}
use Rattle.cert_text.specs.Lines.{said}

-- the value that a line says, and the lines behind it; or the value that goes unsaid, and the line with those behind it
abbrev pub unless_said : {A : Type 0} → Option A → A → List ℕ → Lines → A × Lines
unless_said None unsaid line lines = (unsaid, line ∷ lines)
unless_said (Some value) unsaid line lines = (value, lines)

-- the value that the first line says, if it says one, and what is left
abbrev pub said_first : {A : Type 0} → (List ℕ → Option A) → A → Lines → A × Lines
said_first grammar unsaid [] = (unsaid, [])
said_first grammar unsaid (line ∷ lines) = unless_said (said grammar line) unsaid line lines

-- the query of the first line at these odds, with this clock, and what is left
abbrev pub fen_first : List Bool → Option ℕ → Lines → Option (Asked × Lines)
fen_first odds clock [] = None
fen_first odds clock (line ∷ lines) = option_map (λ q. (record q { odds = odds; clock = clock }, lines)) (said query_of line)

-- the query of the lines of the clock, if there is one, and of the FEN, and what is left
abbrev pub clock_first : List Bool → Lines → Option (Asked × Lines)
clock_first odds lines = fen_first odds (said_first clock_demand None lines).0 (said_first clock_demand None lines).1

-- the query of the lines of the odds and of the clock, each if there is one, and of the FEN, and what is left
abbrev pub query_first : Lines → Option (Asked × Lines)
query_first lines = clock_first (said_first odds_line no_odds lines).0 (said_first odds_line no_odds lines).1
