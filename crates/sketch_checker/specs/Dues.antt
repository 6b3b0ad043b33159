-- Inner: no public clause cites this file.
-- Which nodes are due, as the program has them.
use Rattle.std.specs.Prelude.{◌≡◌, List, [], ◌∷◌, map, Option, Some, None}
use Rattle.sketch_checker.specs.DueNodes.{Due, cases_from, due_of, first_due}
use Rattle.sketch_checker.specs.declared.dues.Left.{Left}
use Rattle.sketch_checker.specs.declared.dues.Left.TheVariants as left

-- the nodes that are left
abbrev pub due_by : Left → List Due
due_by left.Nothing = []
due_by (left.First S) = first_due S ∷ []
due_by (left.Steps es) = map due_of es
due_by (left.Cases c) = cases_from c.officer c.number c.sketch

-- what comes next is the first of the old, and the new are the others
abbrev pub IsFirstOf : List Due → Option Due → List Due → Type 0
IsFirstOf old None new = (old ≡ []) × (new ≡ [])
IsFirstOf old (Some d) new = old ≡ d ∷ new
