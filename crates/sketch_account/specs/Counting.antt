-- The figures of a sketch with what is known of how their men came.
use Rattle.std.specs.Prelude.{ℕ, ◌==◌, cond, List, Option, Some, None}
use Rattle.figures.specs.Figures.{Figure, Sketch}
use Rattle.sketch_grounds.specs.Account.{Counted, counted_by, mark_limit}
use Rattle.sketch_grounds.specs.Limits.{Limit, other}

-- what their marks say; but where a number is given, what that figure's would say is false
abbrev pub limit_by : Option ℕ → ℕ → Figure → Limit
limit_by None j f = mark_limit f
limit_by (Some i) j f = cond (j == i) other (mark_limit f)

abbrev pub counted_as : Option ℕ → Sketch → List Counted
counted_as against S = counted_by (limit_by against) S
