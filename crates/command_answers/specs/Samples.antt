-- What `sample` answers.
use Rattle.std.specs.Prelude.{ℕ, ◌≡◌, List, ◌++◌, codes}
use Rattle.std.specs.Fmt.{decimal}
use Rattle.position_maker.specs.Draws.{games_of}
use Rattle.position_maker.specs.Samples.{AreMissingInAll, plies_of, unmoves_of_all}
use Rattle.cert_text.specs.Lines.{ended}
use Rattle.command_answers.specs.declared.statuses.Status.{Status}
use Rattle.command_answers.specs.declared.statuses.Status.TheVariants.{Done}

-- how many games there are, how many moves they have, how many unmoves the positions after each move have, and how many of the moves
-- are missing there
abbrev pub summary_line : ℕ → ℕ → ℕ → ℕ → List ℕ
summary_line games plies unmoves missing =
    ended (codes "games " ++ decimal games ++ codes " plies " ++ decimal plies ++ codes " unmoves " ++ decimal unmoves ++ codes " missing " ++ decimal missing)

-- The status and the text with which `sample` answers: those of the games that the start gives, each of at most so many moves. None
-- of their moves is missing.
pub record AnswersSample (start games plies : ℕ) (status : Status) (text : List ℕ) : Type 0 where
  pub done : status ≡ Done
  pub text_is : text ≡ summary_line games (plies_of (games_of plies games start)) (unmoves_of_all (games_of plies games start)) 0
  pub none_missing : AreMissingInAll (games_of plies games start) 0
