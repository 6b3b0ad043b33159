-- What `unmoves` answers.
use Rattle.std.specs.Prelude.{ℕ, ◌≡◌, List, ◌∷◌, ◌++◌, length, codes}
use Rattle.std.specs.List.{flat_map}
use Rattle.std.specs.Fmt.{decimal}
use Rattle.board_base.specs.Texts.{unmove_text}
use Rattle.board_base.specs.declared.unmoves.Unmove.{Unmove}
use Rattle.query_base.specs.Asked.{Asked}
use Rattle.fen_text.specs.Spelling.{spelling}
use Rattle.unmove_gen.specs.Listed.{unmoves}
use Rattle.unmove_gen.specs.Predecessor.{predecessor}
use Rattle.cert_text.specs.Lines.{ended}
use Rattle.command_answers.specs.Questions.{AnswersAlone}
use Rattle.command_answers.specs.declared.statuses.Status.{Status}
use Rattle.command_answers.specs.declared.statuses.Status.TheVariants.{Done}

-- an unmove's text, and the FEN of its predecessor
abbrev pub unmove_line : Asked → Unmove → List ℕ
unmove_line q u = ended (unmove_text u ++ 32 ∷ spelling (predecessor q u))

-- a line for each unmove of the query, in order, and their number
unfoldable pub unmoves_lines : Asked → List Unmove → List ℕ
unmoves_lines q us = flat_map (unmove_line q) us

-- the lines of all unmoves of the query, and the line of their number
abbrev pub unmoves_text : Asked → List ℕ
unmoves_text q = unmoves_lines q (unmoves q) ++ ended (codes "total " ++ decimal (length (unmoves q)))

-- what is said of a query: its unmoves
abbrev pub ListsUnmoves : Asked → Status → List ℕ → Type 0
ListsUnmoves q status text = (status ≡ Done) × (text ≡ unmoves_text q)

-- the status and the text with which `unmoves` answers these bytes, which are to be the lines of a query
abbrev pub AnswersUnmoves : List ℕ → Status → List ℕ → Type 0
AnswersUnmoves input status text = AnswersAlone ListsUnmoves input status text
