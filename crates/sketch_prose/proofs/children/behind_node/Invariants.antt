use Rattle.std.proofs.Common.{◌≡◌, ◌+◌, ◌≤◌, ◌++◌, List, drop, length, map}
use Rattle.sketch_body.specs.Seen.{line_of}
use Rattle.sketch_prose.proofs.Beneath.{NodesLeft}
use Rattle.sketch_prose.proofs.children.behind_node.Given as goal
use Rattle.sketch_text.specs.Trees.{Line, Node, lines_of}

abbrev pub invariant-loop-i : goal.invariant-loop-i
invariant-loop-i l =
    (l.due ≤ length l.lines + 1) × ((x y : Node) (rest : List Line) → map line_of (drop l.fn.first l.lines) ≡ lines_of x ++ (lines_of y ++ rest) → NodesLeft y rest (map line_of (drop l.i l.lines)) l.due)
