-- Trees that support a query.
use Rattle.std.proofs.Common.{◌≡◌, ℕ, ◌↔◌, inr, Bool, List, sym, ◌∙◌, subst}
use Rattle.board_base.specs.declared.moves.Move.{Move}
use Rattle.capture_prices.specs.Prices.{PriceList}
use Rattle.query_base.specs.Asked.{Asked}
use Rattle.query_base.specs.Reach.{Reaches}
use Rattle.cage_rules.proofs.Histories.{reaches-leads}
use Rattle.figures.specs.Figures.{sketch_of}
use Rattle.figures.proofs.Queries.{query-fits}
use Rattle.sketch_proof.proofs.Refutes.{no-game}
use Rattle.sketch_proof.proofs.Refuting.{tree-refutes}
use Rattle.sketch_text.specs.Trees.{Line, Node}
use Rattle.sketch_text.specs.declared.labels.Label.TheVariants.{Now}
use Rattle.sketch_proof.proofs.Sound.{node-refutes}
use Rattle.sketch_proof.proofs.Whole.{board-whole}
use Rattle.sketch_checker.specs.DueNodes.{first_due}
use Rattle.sketch_checker.specs.Supports.{BodySupports, BodyWalks, MayAsk, SketchSupports, SketchWalks, setting_of}
use Rattle.sketch_checker.specs.TreeWalk.{Walked, Walks, next_line, unsupported}
use Rattle.sketch_checker.proofs.Held.{so-told, walk-tells, walk-told}
use Rattle.sketch_checker.proofs.OneWalk.{one-if, one-walk}
use Rattle.sketch_checker.proofs.OneTree.{one-tree}
use Rattle.sketch_checker.proofs.Rooted.{board-somewhere}

pub supported-unreached : (q : Asked) (exact : List Bool) (prices : List PriceList) (tree : Node) → SketchSupports q exact prices tree → (g : List Move) → Reaches g q → ⊥
supported-unreached q exact prices tree it g reaches =
    let leads = reaches-leads g q reaches in
    let refuted = node-refutes tree (setting_of q exact prices) Now (sketch_of q.board) it.asked.known (board-whole q.board) it.holds in
    no-game q.odds q.held (sketch_of q.board) (tree-refutes refuted.0 q.odds q.held exact (sketch_of q.board) refuted.1) g
    (record { game = leads.game; rights = leads.held; fits = query-fits q.odds g q leads })

pub supports-one : (q : Asked) (exact : List Bool) (prices : List PriceList) (tree : Node) (n : ℕ) (a b : Walked) → SketchWalks q exact prices tree n a → SketchWalks q exact prices tree n b → a ≡ b
supports-one q exact prices tree n a b x y =
    let Rest : Walked → Type 0 = Walks tree (setting_of q exact prices) (first_due (sketch_of q.board)) n in
    one-if (MayAsk q prices) n unsupported a b (Rest a) (Rest b) (one-walk tree (setting_of q exact prices) (first_due (sketch_of q.board)) n a b) x y

pub supports-exact : (q : Asked) (exact : List Bool) (prices : List PriceList) (tree : Node) (n : ℕ) → ((m : ℕ) × SketchWalks q exact prices tree n (next_line m)) ↔ SketchSupports q exact prices tree
supports-exact q exact prices tree n = (
  λ it.
      let so = so-told (MayAsk q prices) (Walks tree (setting_of q exact prices) (first_due (sketch_of q.board)) n (next_line it.0)) n it.0 unsupported it.1 in
      record { asked = so.0; holds = walk-told tree (setting_of q exact prices) (first_due (sketch_of q.board)) n it.0 so.1 },
  λ it.
      let walk = walk-tells tree (setting_of q exact prices) (first_due (sketch_of q.board)) n (board-somewhere q.board) it.holds in
      (walk.0, inr (it.asked, walk.1)),
)

-- BY LINES

pub body-unreached : (q : Asked) (exact : List Bool) (prices : List PriceList) (lines : List Line) → BodySupports q exact prices lines → (g : List Move) → Reaches g q → ⊥
body-unreached q exact prices lines (tree, written, it) g reaches = supported-unreached q exact prices tree it g reaches

pub bodies-one : (q : Asked) (exact : List Bool) (prices : List PriceList) (lines : List Line) (n : ℕ) (a b : Walked) → BodyWalks q exact prices lines n a → BodyWalks q exact prices lines n b → a ≡ b
bodies-one q exact prices lines n a b (s, first, x) (t, second, y) =
    supports-one q exact prices t n a b (subst (λ (k : Node). SketchWalks q exact prices k n a) (one-tree s t (first ∙ sym second)) x) y

pub bodies-exact : (q : Asked) (exact : List Bool) (prices : List PriceList) (lines : List Line) (n : ℕ) → ((m : ℕ) × BodyWalks q exact prices lines n (next_line m)) ↔ BodySupports q exact prices lines
bodies-exact q exact prices lines n = (told, tells)
  where
    told : (m : ℕ) × BodyWalks q exact prices lines n (next_line m) → BodySupports q exact prices lines
    told (m, (tree, written, walk)) = (tree, written, (supports-exact q exact prices tree n).0 (m, walk))

    tells : BodySupports q exact prices lines → (m : ℕ) × BodyWalks q exact prices lines n (next_line m)
    tells (tree, written, it) = let x = (supports-exact q exact prices tree n).1 it in (x.0, (tree, written, x.1))
