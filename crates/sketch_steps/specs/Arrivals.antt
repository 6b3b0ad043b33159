-- As whom a pawn comes to a square.
use Rattle.std.specs.Prelude.{ℕ, Bool}
use Rattle.figures.specs.Figures.{Figure}
use Rattle.figures.specs.Steps.{arrives}

-- a pawn that comes to t may be the figure there
unfoldable pub arrives_on : Figure → ℕ → Bool
arrives_on f t = arrives f t
