use Rattle.std.proofs.Common.{◌≡◌, ◌++◌, List, drop, map}
use Rattle.sketch_body.specs.Seen.{line_of}
use Rattle.capture_prices.specs.Prices.{PriceList}
use Rattle.sketch_checker.specs.Walks.{AreDue}
use Rattle.sketch_prose.proofs.Beneath.{ChildrenSoFar}
use Rattle.sketch_prose.proofs.children.children_of.Given as goal
use Rattle.sketch_prose.specs.Bases.{setting_with}
use Rattle.sketch_prose.specs.Dues.{due_by}
use Rattle.sketch_text.specs.Trees.{Line, Nodes, count, lines_each}

-- OPEN: the name of the loop's counter is a guess.
abbrev pub invariant-loop-i : goal.invariant-loop-i
invariant-loop-i l =
    (prices : List PriceList) (ns : Nodes) (rest : List Line) → count ns ≡ l.count → map line_of l.lines ≡ lines_each ns ++ rest → AreDue ns (setting_with l.base prices) (due_by l.fn.due) → ChildrenSoFar ns (setting_with l.base prices) (due_by l.fn.due) (map line_of (drop l.first l.lines)) rest l.i l.count (due_by l.left) l.list.items
