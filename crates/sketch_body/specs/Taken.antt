-- Inner: no public clause cites this file.
-- Lines of nodes and of marks in memory.
use Rattle.std.specs.Prelude.{ℕ, Bool, ◌&&◌, List, [], ◌∷◌}
use Rattle.sketch_text.specs.Trees.{Line}
use Rattle.sketch_body.specs.Bodies.{of_line}
use Rattle.sketch_body.specs.Due.{Due, is_over, next}
use Rattle.sketch_body.specs.Texts.{is_item}
use Rattle.sketch_body.specs.Whole.{on_next}

-- the line has a text
abbrev pub is_line : ℕ → Line → Bool
is_line P l = is_item P (of_line l)

-- these lines of nodes and of marks are all that is due, and have a text each
abbrev pub takes_each : ℕ → Due → List Line → Bool
takes_each P d [] = is_over d
takes_each P d (l ∷ lines) = is_line P l && on_next (next d (of_line l)) (λ e. takes_each P e lines)
