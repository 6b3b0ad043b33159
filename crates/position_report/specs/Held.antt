-- What follows if a right to castle is held.
use Rattle.std.specs.Prelude.{ℕ, ◌==◌, cond, codes, length, List, [], ◌++◌, map}
use Rattle.std.specs.List.{All, flat_map}
use Rattle.board_base.specs.Play.{side}
use Rattle.board_base.specs.declared.castles.Castle.{Castle}
use Rattle.board_base.specs.declared.moves.Move.{Move}
use Rattle.query_base.specs.Asked.{Asked}
use Rattle.query_base.specs.Reach.{Reaches}
use Rattle.prose_words.specs.Words.{side_word, wing_word}
use Rattle.ledger_told.specs.Line.{Line}
use Rattle.ledger_prose.specs.News.{news_of}
use Rattle.ledger_prose.specs.Saying.{SentenceSays}
use Rattle.ledger_prose.specs.Sentences.{sentences_of}
use Rattle.ledger_prose.specs.Words.{prose_text}
use Rattle.ledger_told.specs.Held.{with_held}
use Rattle.ledger_told.specs.Told.{IsLineTrue}
use Rattle.diagram_study.specs.declared.held.HeldFound.{HeldFound}

-- what is said if the right is held
abbrev pub if_text : Castle → List ℕ
if_text x = codes "If " ++ side_word (side x) ++ codes " may castle on the " ++ wing_word x ++ codes " side:\n"

-- that, before a paragraph that isn't empty
abbrev pub behind_if : Castle → List ℕ → List ℕ
behind_if x prose = cond (length prose == 0) [] (if_text x ++ prose)

-- the lines that are told if this castling is held, without the men of whom the ledger says anyhow that they never moved
abbrev pub if_lines : List Line → HeldFound → List Line
if_lines known h = map (news_of known) h.lines.items

-- the paragraph of what the ledger, which says this anyhow, says only if this castling is held
abbrev pub if_prose : Asked → List Line → HeldFound → List ℕ
if_prose q known h = behind_if h.castle (prose_text (with_held q h.castle) (sentences_of (with_held q h.castle) (if_lines known h)))

-- that of each castling that was found, in order
unfoldable pub held_prose : Asked → List Line → List HeldFound → List ℕ
held_prose q known held = flat_map (if_prose q known) held

-- its lines are true of every game that reaches the position and keeps the castling, and what its sentences say is so of each
pub record IsIfSo (q : Asked) (known : List Line) (h : HeldFound) : Type 0 where
  pub true_ : All (IsLineTrue (with_held q h.castle)) (if_lines known h)
  pub says : (g : List Move) → Reaches g (with_held q h.castle) → All (SentenceSays (with_held q h.castle) g) (sentences_of (with_held q h.castle) (if_lines known h))
