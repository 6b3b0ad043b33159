-- What a run in memory answers.
use Rattle.std.specs.Prelude.{ℕ, ◌≡◌, ◌≤◌, List, [], length, take}
use Rattle.retro_top.specs.Limits.{most_bytes}
use Rattle.retro_top.specs.Status.{Status}
use Rattle.retro_top.specs.Answers.{AnswersAs}
use Rattle.retro_top.specs.Commands.{AreWordsOf, IsInRange}
use Rattle.retro_top.specs.declared.commands.Command.{Command}
use Rattle.retro_top.specs.declared.commands.Command.TheVariants.{Sample}

-- the words call no command with numbers in their ranges
abbrev pub CallNothing : List (List ℕ) → Type 0
CallNothing words = (command : Command) → AreWordsOf words command → IsInRange command → ⊥

-- what a command reads of an input: all of it, and `sample` nothing
abbrev pub read_by : Command → List ℕ → List ℕ
read_by (Sample start games plies) input = []
read_by command input = input

-- The words call a command with numbers in their ranges, it reads at most 64 MiB of the input, and this status and this text answer what
-- it reads.
pub record Runs (words : List (List ℕ)) (input : List ℕ) (status : Status) (text : List ℕ) : Type 0 where
  pub command : Command
  pub words_are : AreWordsOf words command
  pub in_range : IsInRange command
  pub short : length (read_by command input) ≤ most_bytes
  pub answers : AnswersAs command (read_by command input) status text

-- the bytes are the first of a text that answers the input
pub record RunsInPart (words : List (List ℕ)) (input part : List ℕ) : Type 0 where
  pub status : Status
  pub text : List ℕ
  pub size : ℕ
  pub runs : Runs words input status text
  pub few : size ≤ length text
  pub first : part ≡ take size text
