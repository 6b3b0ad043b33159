-- Inner: no public clause cites this file.
-- Which nodes are due, as the program has them.
use Rattle.std.specs.Prelude.{◌≡◌, List, [], ◌∷◌, map, Option, Some, None}
use Rattle.figures.specs.Figures.{Sketch}
use Rattle.sketch_checker.specs.DueNodes.{Due, cases_from, due_of, first_due}
use Rattle.sketch_prose.specs.declared.dues.Left.{Left}
use Rattle.sketch_prose.specs.declared.dues.Left.TheVariants as left
use Rattle.sketch_text.specs.declared.labels.Label.{Label}

-- the nodes that are left
abbrev pub due_by : Left → List Due
due_by left.Nothing = []
due_by (left.First S) = first_due S ∷ []
due_by (left.Steps es) = map due_of es
due_by (left.Cases c) = cases_from c.officer c.number c.sketch

-- the first of the old nodes is of this sketch, and the new are the others
abbrev pub IsNext : List Due → Option Sketch → List Due → Type 0
IsNext old None new = old ≡ []
IsNext old (Some S) new = (label : Label) × (old ≡ record { label = label; sketch = S } ∷ new)
