-- Refuted sketches: no game comes to a moment that they fit.
use Rattle.std.specs.Prelude.{ℕ, ◌≡◌, Bool, false, IsTrue, List, Some}
use Rattle.board_base.specs.Rights.{Rights}
use Rattle.board_base.specs.declared.men.Colour.{Colour}
use Rattle.board_base.specs.declared.men.Kind.{Kind}
use Rattle.past_sketches.specs.Figures.{Figure, IsAbove, IsRearranged, Sketch, figure_at, may_be}
use Rattle.past_sketches.specs.Clashes.{is_clash, is_crowded}
use Rattle.past_sketches.specs.Closed.{IsClosed}
use Rattle.past_sketches.specs.Homes.{may_be_array}
use Rattle.past_sketches.specs.Known.{known_at, marked_at}
use Rattle.past_sketches.specs.Steps.{Step, is_step, taken_back}
use Rattle.past_sketches.specs.Touching.{side_checks}
use Rattle.past_sketches.specs.Trimmed.{trimmed, trims}
use Rattle.past_account.specs.Closes.{Closes, Forces}

-- A sketch is refuted if it clashes, if a side has too many figures, or if an account closes it.
-- So it is if it is refuted with a mark that an account forces, or with each kind that one of its figures may have; if a sketch above it is
-- refuted, or one with its figures rearranged, or what is left of it when it is trimmed.
-- And so it is if for some exact files it is closed, it can't be the array's, and the sketch before each of its steps is refuted. This isn't
-- asked of a step before which, trimmed so many times, the side that made it gives check: that side was to move.
pub data Refuted (o : List Bool) (held : Rights) : Sketch → Type 0 where
  clash : (S : Sketch) → IsTrue (is_clash S) → Refuted o held S
  crowd : (S : Sketch) (c : Colour) → IsTrue (is_crowded o S c) → Refuted o held S
  account : (S : Sketch) → Closes o held S → Refuted o held S
  mark : (S : Sketch) (i : ℕ) → Forces o held i S → Refuted o held (marked_at i S) → Refuted o held S
  kinds : (S : Sketch) (i : ℕ) (f : Figure) → figure_at S i ≡ Some f → ((k : Kind) → IsTrue (may_be f k) → Refuted o held (known_at i k S)) → Refuted o held S
  wider : (S T : Sketch) → IsAbove S T → Refuted o held T → Refuted o held S
  rearranged : (S T : Sketch) → IsRearranged S T → Refuted o held T → Refuted o held S
  trim : (S : Sketch) → Refuted o held (trimmed S) → Refuted o held S
  steps : (S : Sketch) (exact : List Bool) (rounds : Step → ℕ) → IsClosed held exact S → may_be_array o S ≡ false → ((x : Step) → IsTrue (is_step exact S x) → side_checks (trims (rounds x) (taken_back S x)) (figure_at S x.by) ≡ false → Refuted o held (taken_back S x)) → Refuted o held S
