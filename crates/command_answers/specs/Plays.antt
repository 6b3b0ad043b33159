-- What `play` answers.
use Rattle.std.specs.Prelude.{ℕ, ◌≡◌, ◌⊎◌, List, ◌++◌, codes}
use Rattle.std.specs.Fmt.{decimal}
use Rattle.board_base.specs.Game.{IsGame}
use Rattle.board_base.specs.declared.moves.Move.{Move}
use Rattle.query_base.specs.Asked.{Asked}
use Rattle.query_base.specs.Reach.{Reaches}
use Rattle.game_text.specs.Words.{words, AreTextsOf, FirstBad}
use Rattle.game_text.specs.Replay.{FirstIllegal}
use Rattle.cert_text.specs.Lines.{ended}
use Rattle.command_answers.specs.Questions.{AnswersAsked}
use Rattle.command_answers.specs.declared.statuses.Status.{Status}
use Rattle.command_answers.specs.declared.statuses.Status.TheVariants.{Refused}
use Rattle.command_answers.specs.declared.statuses.Status.TheVariants as status

-- the line of these words and a number
abbrev pub number_line : List ℕ → ℕ → List ℕ
number_line front n = ended (front ++ decimal n)

-- what is said of a legal game that is to reach the query
abbrev pub AnswersEnd : Asked → List Move → Status → List ℕ → Type 0
AnswersEnd q g status.Done text = Reaches g q × (text ≡ ended (codes "legal"))
AnswersEnd q g status.Refused text = IsGame q.odds g × (Reaches g q → ⊥) × (text ≡ ended (codes "refused end"))
AnswersEnd q g _ text = ⊥

-- what is said of moves that are to be a legal game that reaches the query
abbrev pub AnswersMoves : Asked → List Move → Status → List ℕ → Type 0
AnswersMoves q g status text =
    AnswersEnd q g status text
    ⊎ ((n : ℕ) × FirstIllegal q.odds g n × (status ≡ Refused) × (text ≡ number_line (codes "refused ply ") n))

-- what is said of the words of a game that is to reach the query
abbrev pub AnswersGame : Asked → List ℕ → Status → List ℕ → Type 0
AnswersGame q bytes status text =
    ((g : List Move) × AreTextsOf (words bytes) g × AnswersMoves q g status text)
    ⊎ ((n : ℕ) × FirstBad (words bytes) n × (status ≡ Refused) × (text ≡ number_line (codes "refused word ") n))

-- the status and the text with which `play` answers these bytes
abbrev pub AnswersPlay : List ℕ → Status → List ℕ → Type 0
AnswersPlay input status text = AnswersAsked AnswersGame input status text
