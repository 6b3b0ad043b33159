-- When a tree of nodes shows that no game comes to a query, and what the walk over it comes to.
use Rattle.std.specs.Prelude.{ℕ, ◌≡◌, Bool, IsTrue, List}
use Rattle.std.specs.List.{Contains}
use Rattle.capture_prices.specs.Prices.{PriceList, are_prices}
use Rattle.query_base.specs.Asked.{Asked}
use Rattle.figures.specs.Figures.{sketch_of}
use Rattle.sketch_text.specs.Trees.{Line, Node, lines_of}
use Rattle.sketch_text.specs.declared.labels.Label.TheVariants.{Now}
use Rattle.sketch_proof.specs.Proofs.{Holds, Setting}
use Rattle.sketch_checker.specs.DueNodes.{first_due}
use Rattle.sketch_checker.specs.Roots.{IsRoot}
use Rattle.sketch_checker.specs.TreeWalk.{IfSo, Walked, Walks, unsupported}

-- the odds of the query and the rights that it holds, with these exact files and lines of prices
abbrev pub setting_of : Asked → List Bool → List PriceList → Setting
setting_of q exact prices = record { odds = q.odds; held = q.held; exact = exact; prices = prices }

-- sketches may be asked about the query's board, and each line of prices is one
pub record MayAsk (q : Asked) (prices : List PriceList) : Type 0 where
  pub root : IsRoot q.odds q.board
  pub known : (p : PriceList) → Contains prices p → IsTrue (are_prices p)

-- and the tree holds of the query's sketch, each man on his square
pub record SketchSupports (q : Asked) (exact : List Bool) (prices : List PriceList) (tree : Node) : Type 0 where
  pub asked : MayAsk q prices
  pub holds : Holds tree (setting_of q exact prices) Now (sketch_of q.board)

-- What the walk over the tree comes to, whose first node is on line n. If sketches may not be asked about the board, that is a fault there.
abbrev pub SketchWalks : Asked → List Bool → List PriceList → Node → ℕ → Walked → Type 0
SketchWalks q exact prices tree n walked = IfSo (MayAsk q prices) n unsupported walked (Walks tree (setting_of q exact prices) (first_due (sketch_of q.board)) n walked)

-- the tree with these lines supports the query
abbrev pub BodySupports : Asked → List Bool → List PriceList → List Line → Type 0
BodySupports q exact prices lines = (tree : Node) × (lines_of tree ≡ lines) × SketchSupports q exact prices tree

-- what the walk over the tree with these lines comes to, the first of which is line n
abbrev pub BodyWalks : Asked → List Bool → List PriceList → List Line → ℕ → Walked → Type 0
BodyWalks q exact prices lines n walked = (tree : Node) × (lines_of tree ≡ lines) × SketchWalks q exact prices tree n walked
