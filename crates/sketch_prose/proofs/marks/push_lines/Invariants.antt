use Rattle.std.proofs.Common.{◌≡◌, ◌++◌, List, length, map}
use Rattle.sketch_body.specs.Seen.{line_of}
use Rattle.sketch_proof.specs.Proofs.{AreAllForced}
use Rattle.sketch_prose.proofs.Marking.{MarksSoFar}
use Rattle.sketch_prose.specs.Bases.{setting_with}
use Rattle.sketch_prose.proofs.marks.push_lines.Given as goal
use Rattle.sketch_text.specs.Marks.{Marks}
use Rattle.sketch_text.specs.Trees.{Line, of_marks}

abbrev pub invariant-loop-i : goal.invariant-loop-i
invariant-loop-i l =
    (ms : List Marks) (more : List Line) → map line_of l.lines ≡ map (λ m. of_marks m) ms ++ more → length ms ≡ l.count → AreAllForced (setting_with l.base l.prices) ms l.fn.sketch → MarksSoFar (setting_with l.base l.prices) l.base.diagram ms l.fn.sketch l.i l.last l.fn.out.items l.out.items
