-- The texts of the lines below the first of a sketch, without their ends.
use Rattle.std.specs.Prelude.{ℕ, ◌≡◌, ◌+◌, ◌≤◌, Bool, true, false, ◌&&◌, not, List, [], ◌∷◌, ◌++◌, length, map, IsTrue, Some}
use Rattle.std.specs.List.{sum_by}
use Rattle.capture_prices.specs.Prices.{PriceList}
use Rattle.price_text.specs.PriceTexts.{prices_of}
use Rattle.sketch_text.specs.Heads.{Head}
use Rattle.sketch_text.specs.Marks.{mark_line}
use Rattle.sketch_text.specs.Nodes.{node_of}
use Rattle.sketch_text.specs.Trees.{Line, Node, Nodes, Reason, closed, height, lines_of, more, node, none, of_marks, of_node, split, steps, void}
use Rattle.sketch_text.specs.declared.labels.Label.{Label}
use Rattle.sketch_text.specs.declared.labels.Label.TheVariants.{Now, Step, Case}
use Rattle.sketch_text.specs.declared.nodes.End.{End}
use Rattle.sketch_text.specs.declared.nodes.End.TheVariants.{Void, Closed, Steps, Split}

-- what a sketch says: the exact files, counted from 0, the lines of prices, and the lines of nodes and of marks
pub record Body : Type 0 where
  pub files : List ℕ
  pub prices : List PriceList
  pub lines : List Line

-- a line below the first: prices, or a line of a node or of marks
pub data Item : Type 0 where
  of_prices : PriceList → Item
  of_line : Line → Item

-- the lines below the first, in order
abbrev pub items_of : Body → List Item
items_of b = map (λ p. of_prices p) b.prices ++ map (λ l. of_line l) b.lines

-- what the first line says
abbrev pub head_of : Body → Head
head_of b = record { prices = length b.prices; files = b.files }

-- the text of a line of a sketch with so many lines of prices says this
abbrev pub Says : ℕ → List ℕ → Item → Type 0
Says P text (of_prices p) = prices_of text ≡ Some p
Says P text (of_line (of_node x)) = node_of P text ≡ Some x
Says P text (of_line (of_marks m)) = mark_line P text ≡ Some m

-- the texts say these, one each
abbrev pub SayEach : ℕ → List (List ℕ) → List Item → Type 0
SayEach P [] [] = Unit {0}
SayEach P [] (i ∷ items) = ⊥
SayEach P (text ∷ texts) [] = ⊥
SayEach P (text ∷ texts) (i ∷ items) = Says P text i × SayEach P texts items

-- the label is `now`
abbrev pub is_now : Label → Bool
is_now Now = true
is_now (Step x) = false
is_now (Case k) = false

abbrev mutual
  -- no node is labelled `now`
  pub is_never_now : Node → Bool
  is_never_now (node label marks reason) = not (is_now label) && is_never_below reason

  -- no node below is labelled so
  pub is_never_below : Reason → Bool
  is_never_below void = true
  is_never_below (closed k) = true
  is_never_below (steps ns) = are_never_now ns
  is_never_below (split s knight rook queen) = is_never_now knight && (is_never_now rook && is_never_now queen)

  -- nor is any of these, or below them
  pub are_never_now : Nodes → Bool
  are_never_now none = true
  are_never_now (more n ns) = is_never_now n && are_never_now ns

-- the node, and none below it, is labelled `now`
abbrev pub is_first : Node → Bool
is_first (node label marks reason) = is_now label && is_never_below reason

-- The lines are those of a tree, in preorder: the first node, and no other, is labelled `now`, and at most 64 nodes are one below another
-- under it.
pub record AreOfTree (lines : List Line) : Type 0 where
  pub tree : Node
  pub written : lines_of tree ≡ lines
  pub first : IsTrue (is_first tree)
  pub low : height tree ≤ 64

-- these texts, and no others, are those of the lines below the first of the sketch
pub record AreTextsOf (texts : List (List ℕ)) (b : Body) : Type 0 where
  pub said : SayEach (length b.prices) texts (items_of b)
  pub tree : AreOfTree b.lines

-- units

-- what a node with steps or a split counts besides
abbrev pub dearness : End → ℕ
dearness Void = 0
dearness (Closed k) = 0
dearness (Steps m) = 32
dearness (Split s) = 32

-- a node counts one, or 33 with steps or a split, and a line of marks one for each figure
abbrev pub units_of_line : Line → ℕ
units_of_line (of_node x) = 1 + dearness x.end
units_of_line (of_marks m) = length m.figures

-- the units of a sketch: a line of prices counts one
abbrev pub units_of : Body → ℕ
units_of b = length b.prices + sum_by units_of_line b.lines

-- all sketches of a certificate together have at most so many units
abbrev pub most_units : ℕ
most_units = 262144
