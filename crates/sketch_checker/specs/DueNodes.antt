-- The nodes that are due below a node.
use Rattle.std.specs.Prelude.{ℕ, List, [], ◌∷◌}
use Rattle.board_base.specs.declared.men.Kind.{Kind}
use Rattle.board_base.specs.declared.men.Kind.TheVariants as kind
use Rattle.figures.specs.Figures.{Sketch}
use Rattle.figures.specs.Known.{known_at}
use Rattle.sketch_proof.specs.Listed.{Earlier}
use Rattle.sketch_text.specs.declared.labels.Label.{Label}
use Rattle.sketch_text.specs.declared.labels.Label.TheVariants.{Now, Case}
use Rattle.sketch_text.specs.declared.labels.Officer.{Officer}
use Rattle.sketch_text.specs.declared.labels.Officer.TheVariants.{Knight, Rook, Queen}
use Rattle.sketch_proof.specs.Labelled.{label_for}

-- a node that is due: its label, and the sketch to which no game may come
pub record Due : Type 0 where
  pub label : Label
  pub sketch : Sketch

-- the first node of all
abbrev pub first_due : Sketch → Due
first_due S = record { label = Now; sketch = S }

-- what was before a step
abbrev pub due_of : Earlier → Due
due_of e = record { label = label_for e.step; sketch = e.sketch }

-- the kind that an officer of a split is
abbrev pub kind_of : Officer → Kind
kind_of Knight = kind.Knight
kind_of Rook = kind.Rook
kind_of Queen = kind.Queen

-- the man with this number is of this kind
abbrev pub case_due : Officer → ℕ → Sketch → Due
case_due officer i S = record { label = Case officer; sketch = known_at i (kind_of officer) S }

-- the cases of the man with this number from this one on
abbrev pub cases_from : Officer → ℕ → Sketch → List Due
cases_from Knight i S = case_due Knight i S ∷ case_due Rook i S ∷ case_due Queen i S ∷ []
cases_from Rook i S = case_due Rook i S ∷ case_due Queen i S ∷ []
cases_from Queen i S = case_due Queen i S ∷ []
