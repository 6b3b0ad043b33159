-- A moment of a game, and the moment before a step of a sketch.
use Rattle.std.specs.Prelude.{ℕ, ◌≡◌, Bool, IsTrue, List, ◌++◌, Some}
use Rattle.board_base.specs.Board.{Places, at, is_the, opponent}
use Rattle.board_base.specs.Game.{IsGame, board_after, unmoved}
use Rattle.board_base.specs.Rights.{Rights, holds}
use Rattle.board_base.specs.declared.men.Colour.{Colour}
use Rattle.board_base.specs.declared.men.Kind.TheVariants.{King}
use Rattle.board_base.specs.declared.men.Man.{Man}
use Rattle.board_base.specs.declared.moves.Move.{Move}
use Rattle.board_base.specs.declared.castles.Castle.{Castle}
use Rattle.past_sketches.specs.Figures.{Figure, Sketch, figure_at}
use Rattle.past_sketches.specs.Fits.{Fits}
use Rattle.past_sketches.specs.Touching.{touches}
use Rattle.past_sketches.specs.Steps.{Step, is_step, taken_back}

-- Article 3.8: the rights are held after these moves
abbrev pub AreHeld : List Bool → List Move → Rights → Type 0
AreHeld o p held = (x : Castle) → IsTrue (holds held x) → IsTrue (unmoved o p x)

-- the sketch fits after these moves of a game, in which these rights are held
pub record FitsGame (o : List Bool) (p : List Move) (held : Rights) (T : Sketch) : Type 0 where
  pub game : IsGame o p
  pub rights : AreHeld o p held
  pub fits : Fits o p T

-- on this board no man of this colour touches the square of the enemy king, as it is where his side is to move (article 3.9)
abbrev pub IsCalm : Places → Colour → Type 0
IsCalm board c = (e q : ℕ) (m : Man) → at board e ≡ Some m → c ≡ m.colour → IsTrue (is_the (opponent c) King (at board q)) → IsTrue (touches c m.kind e q) → ⊥

-- A step of the sketch, where these files are exact, was made after some of these moves: after them the sketch fits that it is taken back
-- to, and no man of the side that made it touches the square of the enemy king.
pub record FitsStep (o : List Bool) (p : List Move) (exact : List Bool) (T : Sketch) : Type 0 where
  pub step : Step
  pub made : IsTrue (is_step exact T step)
  pub mover : Figure
  pub moved : figure_at T step.by ≡ Some mover
  pub first : List Move
  pub rest : List Move
  pub split : p ≡ first ++ rest
  pub fits : Fits o first (taken_back T step)
  pub calm : IsCalm (board_after o first) mover.colour
