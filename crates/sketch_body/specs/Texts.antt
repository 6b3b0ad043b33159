-- The one text of each line, and what is known of it.
use Rattle.std.specs.Prelude.{ℕ, Bool, List}
use Rattle.capture_prices.specs.Prices.{are_prices}
use Rattle.price_text.specs.PriceTexts.{prices_text}
use Rattle.sketch_text.specs.Marks.{is_mark, mark_text}
use Rattle.sketch_text.specs.Nodes.{is_node, node_text}
use Rattle.sketch_text.specs.Trees.{of_marks, of_node}
use Rattle.sketch_body.specs.Bodies.{Item, of_line, of_prices}

-- the one text of a line, without its end
abbrev pub item_text : Item → List ℕ
item_text (of_prices p) = prices_text p
item_text (of_line (of_node x)) = node_text x
item_text (of_line (of_marks m)) = mark_text m

-- what is known of each line of a sketch with so many lines of prices
abbrev pub is_item : ℕ → Item → Bool
is_item P (of_prices p) = are_prices p
is_item P (of_line (of_node x)) = is_node P x
is_item P (of_line (of_marks m)) = is_mark P m
