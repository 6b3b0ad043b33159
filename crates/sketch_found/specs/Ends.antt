-- Inner: no public clause cites this file.
-- Which ends of a node hold without exact files, prices and marks.
use Rattle.std.specs.Prelude.{zero, suc, Bool, List}
use Rattle.board_base.specs.Rights.{Rights}
use Rattle.past_sketches.specs.Figures.{Sketch}
use Rattle.sketch_checker.specs.Nodes.{IsVoid}
use Rattle.sketch_text.specs.declared.nodes.End.{End}
use Rattle.sketch_text.specs.declared.nodes.End.TheVariants.{Void, Closed, Steps, Split}
use Rattle.sketch_found.specs.Plain.{IsStepless}

-- this end, without marks, says which of these it is
abbrev pub EndsPlainly : End → List Bool → Rights → Sketch → Type 0
EndsPlainly Void o held S = IsVoid o held S
EndsPlainly (Closed k) o held S = ⊥
EndsPlainly (Steps zero) o held S = IsStepless o held S
EndsPlainly (Steps (suc m)) o held S = ⊥
EndsPlainly (Split s) o held S = ⊥
