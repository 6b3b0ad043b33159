-- What `san` answers.
use Rattle.std.specs.Prelude.{ℕ, ◌≡◌, ◌⊎◌, List, ◌++◌, codes}
use Rattle.std.specs.Fmt.{decimal}
use Rattle.board_base.specs.declared.moves.Move.{Move}
use Rattle.query_base.specs.Asked.{Asked}
use Rattle.san_text.specs.FromArray.{Tells, TellsNone}
use Rattle.san_text.specs.declared.games.SanGameFault.{SanGameFault}
use Rattle.san_text.specs.declared.games.SanGameFault.TheVariants.{BadText, NoMove, Many, Memory}
use Rattle.cert_text.specs.Lines.{ended}
use Rattle.command_answers.specs.Plays.{AnswersEnd, number_line}
use Rattle.command_answers.specs.Questions.{AnswersAsked}
use Rattle.command_answers.specs.declared.statuses.Status.{Status}
use Rattle.command_answers.specs.declared.statuses.Status.TheVariants.{Refused}

-- the text is the line that says why words of algebraic notation tell no game: the first bad word, or the first ply that names no move
abbrev pub IsFaultLine : SanGameFault → List ℕ → Type 0
IsFaultLine (BadText n) text = text ≡ number_line (codes "refused word ") n
IsFaultLine (NoMove n) text = text ≡ ended (codes "refused ply " ++ decimal n ++ codes " none")
IsFaultLine (Many n) text = text ≡ ended (codes "refused ply " ++ decimal n ++ codes " many")
IsFaultLine Memory text = ⊥

-- what is said of the words of a game in algebraic notation that is to reach the query
abbrev pub AnswersSanGame : Asked → List ℕ → Status → List ℕ → Type 0
AnswersSanGame q bytes status text =
    ((g : List Move) × Tells q.odds bytes g × AnswersEnd q g status text)
    ⊎ ((fault : SanGameFault) × TellsNone q.odds bytes fault × (status ≡ Refused) × IsFaultLine fault text)

-- the status and the text with which `san` answers these bytes
abbrev pub AnswersSan : List ℕ → Status → List ℕ → Type 0
AnswersSan input status text = AnswersAsked AnswersSanGame input status text
