-- When the trees of nodes hold, and their lines prove that no game comes to a sketch.
use Rattle.std.specs.Prelude.{ℕ, ◌≡◌, ◌+◌, ◌≤◌, Bool, false, List, [], ◌∷◌, slice_get, Some}
use Rattle.std.specs.List.{All}
use Rattle.board_base.specs.Rights.{Rights}
use Rattle.board_base.specs.declared.men.Kind.TheVariants.{Knight, Rook, Queen}
use Rattle.capture_prices.specs.Prices.{PriceList}
use Rattle.sketch_node.specs.Figures.{Sketch}
use Rattle.sketch_node.specs.Homes.{may_be_array}
use Rattle.sketch_node.specs.Known.{known_at}
use Rattle.sketch_node.specs.Basis.{IsClosedAt}
use Rattle.sketch_node.specs.Listed.{Earlier, earlier}
use Rattle.sketch_node.specs.Nodes.{IsFirstUnknown, IsLeastAbove, IsMarkable, IsVoid, marked_with}
use Rattle.sketch_text.specs.Marks.{Marks}
use Rattle.sketch_text.specs.declared.labels.Label.{Label}
use Rattle.sketch_text.specs.declared.labels.Label.TheVariants.{Now, Case}
use Rattle.sketch_text.specs.declared.labels.Officer.TheVariants as officer
use Rattle.sketch_text.specs.Trees.{Line, Node, Nodes, Reason, closed, height, lines_of, more, node, none, split, steps, void}
use Rattle.sketch_proof.specs.Labelled.{label_for}

-- the odds, the rights that are held, the files on which pawns' moves are taken back one by one, and the lines of prices
pub record Setting : Type 0 where
  pub odds : List Bool
  pub held : Rights
  pub exact : List Bool
  pub prices : List PriceList

-- at the line of prices with this number, counted from 1, the fact is so
pub record AtLine (g : Setting) (k : ℕ) (P : PriceList → Type 0) : Type 0 where
  pub index : ℕ
  pub from_one : k ≡ index + 1
  pub prices : PriceList
  pub there : slice_get g.prices index ≡ Some prices
  pub so : P prices

-- each mark of the line is forced in this sketch
abbrev pub AreForced : Setting → Sketch → Marks → Type 0
AreForced g S m = AtLine g m.by (λ p. All (λ n. IsMarkable g.odds g.held p S n) m.figures)

-- the sketch with the marks of these lines
abbrev pub with_lines : List Marks → Sketch → Sketch
with_lines [] S = S
with_lines (m ∷ ms) S = with_lines ms (marked_with m.figures S)

-- the marks of each line are forced in the sketch with those of the lines before
abbrev pub AreAllForced : Setting → List Marks → Sketch → Type 0
AreAllForced g [] S = Unit {0}
AreAllForced g (m ∷ ms) S = AreForced g S m × AreAllForced g ms (marked_with m.figures S)

abbrev mutual
  -- The node has this label, its marks are forced, and with them no game comes to the sketch.
  pub Holds : Node → Setting → Label → Sketch → Type 0
  Holds (node label marks reason) g due S = (label ≡ due) × AreAllForced g marks S × Ends reason g (with_lines marks S)

  -- It is void; or its account at this line of prices is above 0; or the least closed sketch above it can't be the array, and the nodes are
  -- those of its listed steps, in order, with their labels, and hold of what was before each; or those of a knight, a rook and a queen hold.
  pub Ends : Reason → Setting → Sketch → Type 0
  Ends void g S = IsVoid g.odds g.held S
  Ends (closed k) g S = AtLine g k (λ p. IsClosedAt g.odds g.held S p)
  Ends (steps ns) g S = (T : Sketch) × IsLeastAbove g.held g.exact S T × (may_be_array g.odds T ≡ false) × HoldEach ns g (earlier g.odds g.exact T)
  Ends (split s knight rook queen) g S =
      (i : ℕ) × IsFirstUnknown S s i × Holds knight g (Case officer.Knight) (known_at i Knight S) × Holds rook g (Case officer.Rook) (known_at i Rook S) × Holds queen g (Case officer.Queen) (known_at i Queen S)

  -- the nodes are those of these steps, in order, and each holds
  pub HoldEach : Nodes → Setting → List Earlier → Type 0
  HoldEach none g [] = Unit {0}
  HoldEach none g (e ∷ es) = ⊥
  HoldEach (more n ns) g [] = ⊥
  HoldEach (more n ns) g (e ∷ es) = Holds n g (label_for e.step) e.sketch × HoldEach ns g es

-- These lines are those of a tree that holds of the sketch, with at most 64 nodes below one another under the first.
pub record Proves (g : Setting) (S : Sketch) (lines : List Line) : Type 0 where
  pub tree : Node
  pub written : lines_of tree ≡ lines
  pub holds : Holds tree g Now S
  pub low : height tree ≤ 64
