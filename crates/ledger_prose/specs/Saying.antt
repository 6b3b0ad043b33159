-- What each kind of sentence says of a game.
use Rattle.std.specs.Prelude.{ℕ, ◌≡◌, ◌<◌, Bool, IsTrue, List, Some}
use Rattle.std.specs.List.{All, Contains}
use Rattle.board_base.specs.Board.{array_of, at, is_of, is_the}
use Rattle.board_base.specs.declared.men.Colour.{Colour}
use Rattle.board_base.specs.declared.men.Colour.TheVariants.{White, Black}
use Rattle.board_base.specs.declared.men.Kind.TheVariants.{Pawn as APawn}
use Rattle.board_base.specs.declared.moves.Move.{Move}
use Rattle.men_account.specs.Labels.{label_at, labels_after}
use Rattle.query_base.specs.Asked.{Asked}
use Rattle.cage_rules.specs.Laws.{Begins}
use Rattle.ledger_facts.specs.declared.suppositions.Squares.TheVariants.{All as Everywhere}
use Rattle.ledger_lines.specs.Facts.{Says}
use Rattle.ledger_lines.specs.Lines.{LineSays, OfManner, OfTaker}
use Rattle.ledger_lines.specs.declared.facts.Fact.TheVariants.{Original as BeganOriginal, Fell as WasTaken, Became as WasPromoted, AtLeast}
use Rattle.ledger_lines.specs.declared.lines.Line.{Line}
use Rattle.ledger_lines.specs.declared.lines.Line.TheVariants as line
use Rattle.ledger_prose.specs.Sentences.{Sentence, alone, captured, is_named, lacks, needed, together, took}
use Rattle.ledger_prose.specs.declared.parts.Group.{Group}
use Rattle.ledger_prose.specs.declared.parts.Group.TheVariants.{Captors, Pawns, Officers, AtHome, Promoted, Original, Unmoved}

-- after each of the game's beginnings whoever stands on s is the man who began there
abbrev pub NeverMoved : List Bool → List Move → ℕ → Type 0
NeverMoved o g s = (before : List Move) → Begins before g → label_at (labels_after o before) s ≡ Some s

-- after each of the game's beginnings the man who began on h, if he is still on the board, stands there; so if he was taken, he was taken there
abbrev pub NeverLeft : List Bool → List Move → ℕ → Type 0
NeverLeft o g h = (before : List Move) → Begins before g → (s : ℕ) → s < 64 → label_at (labels_after o before) s ≡ Some h → s ≡ h

-- What the sentence of a group says of each square that it names: a pawn, or an officer, of this side began there, and fell to such a taker, and
-- as this, or at home; a pawn began there, and was promoted; whoever stands there began as no pawn; he never moved.
abbrev pub SaidOf : Group → List Bool → List Move → ℕ → Type 0
SaidOf (Captors c) o g s = Unit {0}
SaidOf (Pawns c taker manner) o g h = IsTrue (is_the c APawn (at (array_of o) h)) × Says (WasTaken h) o g × OfTaker (λ f. Says f o g) h taker × OfManner (λ f. Says f o g) h manner
SaidOf (Officers c taker) o g h = IsTrue (is_of c (at (array_of o) h)) × Says (WasTaken h) o g × OfTaker (λ f. Says f o g) h taker
SaidOf (AtHome c taker) o g h = IsTrue (is_of c (at (array_of o) h)) × Says (WasTaken h) o g × OfTaker (λ f. Says f o g) h taker × NeverLeft o g h
SaidOf (Promoted c) o g h = IsTrue (is_the c APawn (at (array_of o) h)) × Says (WasPromoted h) o g
SaidOf Original o g s = Says (BeganOriginal s) o g
SaidOf Unmoved o g s = NeverMoved o g s

-- this side's pawns made as many captures at least as the line says that the other side lacks men
abbrev pub TookAll : Colour → Line → List Bool → List Move → Type 0
TookAll c (line.Captures side x) o g = Says (AtLeast c Everywhere x.lacking) o g
TookAll c _ o g = ⊥

-- What a sentence says of a game: what its lines say, both sides' pawns took all, or what is said of each square that it names.
abbrev pub SentenceSays : Asked → List Move → Sentence → Type 0
SentenceSays q g (lacks x) = LineSays x q.odds g
SentenceSays q g (took x ways) = LineSays x q.odds g × All (λ way. LineSays way q.odds g) ways
SentenceSays q g (captured c ways) = All (λ way. LineSays way q.odds g) ways
SentenceSays q g (needed x others) = TookAll White x q.odds g × ((y : Line) × Contains others y × TookAll Black y q.odds g)
SentenceSays q g (alone x) = LineSays x q.odds g
SentenceSays q g (together group xs) = (s : ℕ) → s < 64 → IsTrue (is_named q xs s) → SaidOf group q.odds g s
