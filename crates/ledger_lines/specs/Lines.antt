-- Of which facts a line consists: what it says of a game, and when a ledger knows it.
use Rattle.std.specs.Prelude.{ℕ, ◌<◌, Bool, IsTrue, List, Option, Some, None, slice_index}
use Rattle.board_base.specs.Board.{is_in}
use Rattle.board_base.specs.declared.men.Colour.{Colour}
use Rattle.board_base.specs.declared.moves.Move.{Move}
use Rattle.query_base.specs.Asked.{Asked}
use Rattle.cage_rules.specs.Frozen.{IsFrozen}
use Rattle.cage_rules.specs.Laws.{KeepLabels}
use Rattle.ledger_facts.specs.declared.suppositions.Squares.{Squares}
use Rattle.ledger_facts.specs.declared.suppositions.Squares.TheVariants.{All, Dark, Class}
use Rattle.ledger_search.specs.Questions.{only}
use Rattle.ledger_search.specs.declared.counts.Range.{Range}
use Rattle.ledger_search.specs.declared.ledgers.Ledger.{Ledger}
use Rattle.ledger_lines.specs.Facts.{Says}
use Rattle.ledger_lines.specs.Known.{IsKnown}
use Rattle.ledger_lines.specs.declared.facts.Fact.{Fact}
use Rattle.ledger_lines.specs.declared.facts.Fact.TheVariants.{Began, Original as BeganOriginal, Promoted as BeganPawn, Took, TookAtMost, Slanted, Straight, Fell as Taken, FellToPawn, EscapedPawns, Became as WasPromoted, NeverBecame, Stayed, AtLeast, AtMost, Lacks as LacksMen, Among as PawnsAmong}
use Rattle.ledger_lines.specs.declared.lines.Line.{Line}
use Rattle.ledger_lines.specs.declared.lines.Line.TheVariants.{Unmoved, Lacks, Captures, Pawn, Man, Ahead, Original, Promoted, Among, Fell, Became}
use Rattle.ledger_lines.specs.declared.lines.Taker.{Taker}
use Rattle.ledger_lines.specs.declared.lines.Taker.TheVariants.{Anyone, Pawn as ByPawn, Officer}
use Rattle.ledger_lines.specs.declared.lines.Takings.{Takings}
use Rattle.ledger_lines.specs.declared.lines.Manner.{Manner}
use Rattle.ledger_lines.specs.declared.lines.Manner.TheVariants.{Anyhow, AsPawn, AsPromoted}

-- who took the man of h, and as what, if it is told
abbrev pub OfTaker : (Fact → Type 0) → ℕ → Taker → Type 0
OfTaker P h Anyone = Unit {0}
OfTaker P h ByPawn = P (FellToPawn h)
OfTaker P h Officer = P (EscapedPawns h)

-- P is so of the fact that says as what the man of h was taken, if that is known
abbrev pub OfManner : (Fact → Type 0) → ℕ → Manner → Type 0
OfManner P h Anyhow = Unit {0}
OfManner P h AsPawn = P (NeverBecame h)
OfManner P h AsPromoted = P (WasPromoted h)

-- where he was taken, if that is told: then his home is one of the squares
abbrev pub OfWithin : (Fact → Type 0) → ℕ → List Bool → Type 0
OfWithin P h within = IsTrue (is_in within h) → P (Stayed h within)

-- between which numbers the captures of a side's pawns lie, on some squares
abbrev pub OfRange : (Fact → Type 0) → Colour → Squares → Range → Type 0
OfRange P side squares range = P (AtLeast side squares range.least) × P (AtMost side squares range.most)

-- on dark squares, if it is told
abbrev pub OfDark : (Fact → Type 0) → Colour → Option Range → Type 0
OfDark P side None = Unit {0}
OfDark P side (Some range) = OfRange P side Dark range

-- in all, on dark squares, and at least so many on each class
abbrev pub OfTakings : (Fact → Type 0) → Colour → Takings → Type 0
OfTakings P side x = OfRange P side All x.all × OfDark P side x.dark × ((k : ℕ) → k < 16 → P (AtLeast side (Class k) (slice_index x.least_on k)))

-- each fact of the line is so, or its men stay
abbrev pub OfEach : (Fact → Type 0) → (List Bool → Type 0) → Line → Type 0
OfEach P F (Unmoved set) = F set
OfEach P F (Lacks side losses) = P (LacksMen side losses)
OfEach P F (Captures side x) = OfTakings P side x
OfEach P F (Pawn s homes n exact) = P (Began s homes) × P (Took s n) × (IsTrue exact → P (TookAtMost s n)) × P (Slanted s)
OfEach P F (Man s h) = P (Began s (only h))
OfEach P F (Ahead set) = (s : ℕ) → s < 64 → IsTrue (is_in set s) → P (Straight s)
OfEach P F (Original set) = (s : ℕ) → s < 64 → IsTrue (is_in set s) → P (BeganOriginal s)
OfEach P F (Promoted s homes) = P (BeganPawn s) × P (Began s homes)
OfEach P F (Among n set) = P (PawnsAmong set n)
OfEach P F (Fell h taker manner within) = P (Taken h) × OfTaker P h taker × OfManner P h manner × OfWithin P h within
OfEach P F (Became h) = P (WasPromoted h)

-- The line is true of a game: that the other side lacks so many men is a count on the board, and says nothing of a game.
abbrev pub LineSays : Line → List Bool → List Move → Type 0
LineSays x o g = OfEach (λ f. Says f o g) (KeepLabels o g) x

-- the ledger of a query knows the line; who stands on a frozen set never moved
abbrev pub IsLineKnown : Line → Asked → Ledger → Type 0
IsLineKnown x q l = OfEach (λ f. IsKnown f q l) (IsFrozen q) x

-- its squares are on the board
abbrev pub IsLineOnBoard : Line → Type 0
IsLineOnBoard (Unmoved set) = Unit {0}
IsLineOnBoard (Lacks side losses) = Unit {0}
IsLineOnBoard (Captures side x) = Unit {0}
IsLineOnBoard (Pawn s homes n exact) = s < 64
IsLineOnBoard (Man s h) = s < 64
IsLineOnBoard (Ahead set) = Unit {0}
IsLineOnBoard (Original set) = Unit {0}
IsLineOnBoard (Promoted s homes) = s < 64
IsLineOnBoard (Among n set) = Unit {0}
IsLineOnBoard (Fell h taker manner within) = h < 64
IsLineOnBoard (Became h) = h < 64
