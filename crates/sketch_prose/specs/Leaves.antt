-- How the nodes of a tree are told among their siblings.
use Rattle.std.specs.Prelude.{◌==◌, cond, ◌&&◌, not, length}
use Rattle.sketch_body.specs.Bodies.{is_now}
use Rattle.sketch_prose.specs.declared.leaves.Leaf.{Leaf}
use Rattle.sketch_prose.specs.declared.leaves.Leaf.TheVariants.{Shut, Astray, Open}
use Rattle.sketch_text.specs.Trees.{Node, end_of, node}
use Rattle.sketch_text.specs.declared.nodes.End.{End}
use Rattle.sketch_text.specs.declared.nodes.End.TheVariants.{Void, Closed, Steps, Split}
use Rattle.sketch_text.specs.declared.nodes.SketchNode.{SketchNode}

-- the line of a node, without those of its marks and those below it
abbrev pub own_line : Node → SketchNode
own_line (node label marks reason) = record { label = label; marks = length marks; end = end_of reason }

-- how a node that ends so is told, if it has no marks and isn't the first of all
abbrev pub end_leaf : End → Leaf
end_leaf Void = Astray
end_leaf (Closed k) = Shut k
end_leaf (Steps m) = Open
end_leaf (Split s) = Open

-- A node without marks that is closed or void is told in a line with its siblings; all others, and the first of all, by themselves.
abbrev pub leaf_of : SketchNode → Leaf
leaf_of x = cond ((x.marks == 0) && not (is_now x.label)) (end_leaf x.end) Open
