-- The lines below the first of a sketch, one after another, without their ends.
use Rattle.std.specs.Prelude.{ℕ, zero, suc, ◌≡◌, ◌+◌, ◌-◌, Bool, true, false, cond, ◌&&◌, not, nat_le, nat_lt, List, [], ◌∷◌, length, Option, Some, None}
use Rattle.std.specs.Option.{option_map, option_and_then}
use Rattle.price_text.specs.PriceTexts.{prices_of}
use Rattle.sketch_text.specs.Heads.{Head}
use Rattle.sketch_text.specs.Marks.{mark_line}
use Rattle.sketch_text.specs.Nodes.{node_of}
use Rattle.sketch_text.specs.Trees.{of_marks, of_node}
use Rattle.sketch_text.specs.declared.labels.Label.{Label}
use Rattle.sketch_text.specs.declared.nodes.End.{End}
use Rattle.sketch_text.specs.declared.nodes.End.TheVariants.{Void, Closed, Steps, Split}
use Rattle.sketch_text.specs.declared.nodes.SketchNode.{SketchNode}
use Rattle.sketch_body.specs.Bodies.{Item, dearness, is_now, most_units, of_line, of_prices}

-- What is due: how many lines of prices the sketch has, how many of them come next, then how many lines of marks, and then how many nodes at
-- each depth, first at the greatest, last at depth 0.
pub record Due : Type 0 where
  pub prices : ℕ
  pub wanted : ℕ
  pub marks : ℕ
  pub nodes : List ℕ

-- what is due, and the units charged so far, with those of the sketches before
pub record Reading : Type 0 where
  pub due : Due
  pub units : ℕ

-- how many nodes a node has below it, each with all that is below that
abbrev pub announced : End → ℕ
announced Void = 0
announced (Closed k) = 0
announced (Steps m) = m
announced (Split s) = 3

-- without the depths at which no node is due, up to the first with one
abbrev pub settled : List ℕ → List ℕ
settled [] = []
settled (zero ∷ nodes) = settled nodes
settled (suc n ∷ nodes) = suc n ∷ nodes

-- the node at depth 0, and no other, is labelled `now`
abbrev pub fits_label : ℕ → Label → Bool
fits_label zero label = is_now label
fits_label (suc depth) label = not (is_now label)

-- if there are any, this is so
abbrev pub if_any : ℕ → Bool → Bool
if_any zero so = true
if_any (suc n) so = so

-- The node may stand at this depth: its label fits, it has nodes below it only if the depth is below 64, and marks only if there are lines
-- of prices.
abbrev pub fits_depth : ℕ → ℕ → SketchNode → Bool
fits_depth P depth x = fits_label depth x.label && (if_any (announced x.end) (nat_lt depth 64) && if_any x.marks (nat_lt 0 P))

-- what is due after a node
abbrev pub after_node : ℕ → List ℕ → SketchNode → Option Due
after_node P [] x = None
after_node P (zero ∷ nodes) x = None
after_node P (suc n ∷ nodes) x =
    cond (fits_depth P (length nodes) x) (Some (record { prices = P; wanted = 0; marks = x.marks; nodes = settled (announced x.end ∷ n ∷ nodes) })) None

-- what is due after a line, if so many of prices are due before nodes and marks, and of marks before nodes
abbrev pub after : ℕ → ℕ → ℕ → List ℕ → Item → Option Due
after P (suc wanted) marks nodes (of_prices p) = Some (record { prices = P; wanted = wanted; marks = marks; nodes = nodes })
after P (suc wanted) marks nodes (of_line l) = None
after P zero marks nodes (of_prices p) = None
after P zero (suc marks) nodes (of_line (of_marks m)) = Some (record { prices = P; wanted = 0; marks = marks; nodes = nodes })
after P zero (suc marks) nodes (of_line (of_node x)) = None
after P zero zero nodes (of_line (of_marks m)) = None
after P zero zero nodes (of_line (of_node x)) = after_node P nodes x

-- what is due after a line of what is due, or None if it isn't due
abbrev pub next : Due → Item → Option Due
next d i = after d.prices d.wanted d.marks d.nodes i

-- The units that become certain with a line: those of the least that must follow it. Each line of marks names a figure, and each node counts
-- one.
abbrev pub charge : Item → ℕ
charge (of_prices p) = 0
charge (of_line (of_node x)) = x.marks + (dearness x.end + announced x.end)
charge (of_line (of_marks m)) = length m.figures - 1

-- this is due, with so many units, if they aren't too many
abbrev pub charged : ℕ → Due → Option Reading
charged units d = cond (nat_le units most_units) (Some (record { due = d; units = units })) None

-- before the first line below that of a sketch: its lines of prices are due, and the node `now`
abbrev pub start : ℕ → Head → Option Reading
start units h = charged (units + (h.prices + 1)) (record { prices = h.prices; wanted = h.prices; marks = 0; nodes = 1 ∷ [] })

-- what the text of the next line says, if so many of prices are due before nodes and marks, and of marks before nodes
abbrev pub read_as : ℕ → ℕ → ℕ → List ℕ → Option Item
read_as P (suc wanted) marks text = option_map (λ p. of_prices p) (prices_of text)
read_as P zero (suc marks) text = option_map (λ m. of_line (of_marks m)) (mark_line P text)
read_as P zero zero text = option_map (λ x. of_line (of_node x)) (node_of P text)

-- what is due after this line, and the units
abbrev pub gone_on : Reading → Item → Option Reading
gone_on r i = option_and_then (charged (r.units + charge i)) (next r.due i)

-- What the text of the next line says, and what is due after it. None where the line isn't one that is due, or the units become too many.
abbrev pub step : Reading → List ℕ → Option (Item × Reading)
step r text = option_and_then (λ i. option_map (λ s. (i, s)) (gone_on r i)) (read_as r.due.prices r.due.wanted r.due.marks text)

-- no line of prices, no line of marks and no node is due
abbrev pub is_done : ℕ → ℕ → List ℕ → Bool
is_done zero zero [] = true
is_done zero zero (n ∷ nodes) = false
is_done zero (suc marks) nodes = false
is_done (suc wanted) marks nodes = false

abbrev pub is_over : Due → Bool
is_over d = is_done d.wanted d.marks d.nodes

-- these texts, which say these, lead from one reading to another
abbrev pub Leads : Reading → List (List ℕ) → List Item → Reading → Type 0
Leads r [] [] last = r ≡ last
Leads r [] (i ∷ items) last = ⊥
Leads r (text ∷ texts) [] last = ⊥
Leads r (text ∷ texts) (i ∷ items) last = (s : Reading) × (step r text ≡ Some (i, s)) × Leads s texts items last
