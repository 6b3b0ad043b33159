-- Inner: no public clause cites this file.
-- Numbers on the command line, and words as bytes.
use Rattle.std.specs.Prelude.{ℕ, ◌≡◌, ◌≤◌, List}
use Rattle.std.specs.Fmt.{decimal}
use Rattle.retro_top.specs.Commands.{AreWordsOf, IsInRange}
use Rattle.retro_top.specs.Names.{MayStand}
use Rattle.retro_top.specs.declared.commands.Command.{Command}
use Rattle.retro_top.specs.declared.numbers.Number.{Number}

-- the word is this number, which is in the range, in decimal
pub record IsNumber (word : List ℕ) (least most n : ℕ) : Type 0 where
  pub text_is : word ≡ decimal n
  pub low : least ≤ n
  pub high : n ≤ most

-- the word is this number, which may stand there, in decimal
pub record Gives (number : Number) (word : List ℕ) (n : ℕ) : Type 0 where
  pub text_is : word ≡ decimal n
  pub may_stand : MayStand number n

-- the words, as bytes, are those of the command, and its numbers are in range
pub record Spells (words : List (List ℕ)) (command : Command) : Type 0 where
  pub words_are : AreWordsOf words command
  pub in_range : IsInRange command
