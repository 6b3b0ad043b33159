-- How contracts see what is read.
use Rattle.std.specs.Prelude.{[], ◌∷◌, ◌++◌}
use Rattle.sketch_text.specs.Trees.{Line, of_marks, of_node}
use Rattle.sketch_body.specs.Bodies.{Body, Item, of_line, of_prices}
use Rattle.sketch_body.specs.declared.lines.SketchLine.{SketchLine}
use Rattle.sketch_body.specs.declared.lines.SketchLine.TheVariants.{Node, Marks}
use Rattle.sketch_body.specs.declared.lines.SketchItem.{SketchItem}
use Rattle.sketch_body.specs.declared.lines.SketchItem.TheVariants.{Prices, Line as ALine}

abbrev pub line_of : SketchLine → Line
line_of (Node x) = of_node x
line_of (Marks m) = of_marks m

abbrev pub item_of : SketchItem → Item
item_of (Prices p) = of_prices p
item_of (ALine l) = of_line (line_of l)

-- a sketch, and this line after its others
abbrev pub with_item : Body → Item → Body
with_item b (of_prices p) = record b { prices = b.prices ++ p ∷ [] }
with_item b (of_line l) = record b { lines = b.lines ++ l ∷ [] }
