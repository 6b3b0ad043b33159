-- Games from the array, told in algebraic notation.
use Rattle.std.specs.Prelude.{ℕ, Bool, List, []}
use Rattle.board_base.specs.declared.moves.Move.{Move}
use Rattle.play_rules.specs.States.{Position, StandsFor}
use Rattle.san_text.specs.Games.{IsGameText, IsGameFault}
use Rattle.san_text.specs.declared.games.SanGameFault.{SanGameFault}

-- the text tells these moves, played from the array without the men on the squares of o
abbrev pub Tells : List Bool → List ℕ → List Move → Type 0
Tells o text moves = (start : Position) × StandsFor start o [] × IsGameText start text moves

-- the text tells no moves that are played so, by this fault
abbrev pub TellsNone : List Bool → List ℕ → SanGameFault → Type 0
TellsNone o text fault = (start : Position) × StandsFor start o [] × IsGameFault fault start text
