-- What `spell` answers.
use Rattle.std.specs.Prelude.{ℕ, ◌≡◌, ◌⊎◌, List, [], codes}
use Rattle.board_base.specs.Board.{no_odds}
use Rattle.board_base.specs.Game.{IsGame}
use Rattle.board_base.specs.declared.moves.Move.{Move}
use Rattle.game_text.specs.Words.{words, AreTextsOf, FirstBad}
use Rattle.game_text.specs.Replay.{FirstIllegal}
use Rattle.play_rules.specs.States.{Position, StandsFor}
use Rattle.san_text.specs.SpelledGames.{game_spelling}
use Rattle.cert_text.specs.Lines.{ended}
use Rattle.command_answers.specs.Plays.{number_line}
use Rattle.command_answers.specs.declared.statuses.Status.{Status}
use Rattle.command_answers.specs.declared.statuses.Status.TheVariants.{Refused}
use Rattle.command_answers.specs.declared.statuses.Status.TheVariants as status

-- the line is the one text of these moves in algebraic notation, played from the full array
abbrev pub IsSpelled : List Move → List ℕ → Type 0
IsSpelled g line = (start : Position) × StandsFor start no_odds [] × (line ≡ ended (game_spelling start g))

-- what is said of moves that are to be a legal game from the full array
abbrev pub AnswersSpelling : List Move → Status → List ℕ → Type 0
AnswersSpelling g status.Done text = IsGame no_odds g × IsSpelled g text
AnswersSpelling g status.Refused text = (n : ℕ) × FirstIllegal no_odds g n × (text ≡ number_line (codes "refused ply ") n)
AnswersSpelling g _ text = ⊥

-- the status and the text with which `spell` answers these bytes, all of which are the game
abbrev pub AnswersSpell : List ℕ → Status → List ℕ → Type 0
AnswersSpell input status text =
    ((g : List Move) × AreTextsOf (words input) g × AnswersSpelling g status text)
    ⊎ ((n : ℕ) × FirstBad (words input) n × (status ≡ Refused) × (text ≡ number_line (codes "refused word ") n))
