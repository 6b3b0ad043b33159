-- Sketches that one node refutes, without exact files, prices and marks.
use Rattle.std.specs.Prelude.{◌≡◌, ◌⊎◌, Bool, false, List, [], ◌∷◌}
use Rattle.board_base.specs.Rights.{Rights}
use Rattle.past_sketches.specs.Figures.{Sketch}
use Rattle.past_sketches.specs.Homes.{may_be_array}
use Rattle.sketch_checker.specs.Listed.{earlier}
use Rattle.sketch_checker.specs.Nodes.{IsLeastAbove, IsVoid}
use Rattle.sketch_text.specs.declared.labels.Label.TheVariants.{Now}
use Rattle.sketch_text.specs.declared.nodes.End.{End}
use Rattle.sketch_text.specs.declared.nodes.End.TheVariants.{Void, Steps}
use Rattle.sketch_checker.specs.SketchLine.{SketchLine}
use Rattle.sketch_checker.specs.SketchLine.TheVariants.{Node}
use Rattle.sketch_found.specs.declared.found.FoundSketch.{FoundSketch}

-- no file is exact
abbrev pub no_files : List Bool
no_files = false ∷ false ∷ false ∷ false ∷ false ∷ false ∷ false ∷ false ∷ []

-- the least closed sketch above it can't be the array, and no pawn's move, capture by a pawn or promotion can have come before it
pub record IsStepless (o : List Bool) (held : Rights) (S : Sketch) : Type 0 where
  pub wide : Sketch
  pub least : IsLeastAbove held no_files S wide
  pub elsewhere : may_be_array o wide ≡ false
  pub none : earlier o no_files wide ≡ []

-- a man who never moved isn't of the array, or so
abbrev pub IsPlain : List Bool → Rights → Sketch → Type 0
IsPlain o held S = IsVoid o held S ⊎ IsStepless o held S

-- the line of the first node with this end, without marks
abbrev pub node_line : End → SketchLine
node_line end = Node (record { label = Now; marks = 0; end = end })

-- one node with this end, without exact files, prices and marks
pub record IsOneNode (end : End) (f : FoundSketch) : Type 0 where
  pub exact : f.exact ≡ no_files
  pub prices : f.prices.items ≡ []
  pub lines : f.lines.items ≡ node_line end ∷ []

-- one node that says that a sketch is void, or has no steps
abbrev pub IsPlainNode : FoundSketch → Type 0
IsPlainNode f = IsOneNode Void f ⊎ IsOneNode (Steps 0) f
