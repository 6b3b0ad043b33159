-- The walk of a tree in preorder, up to its first fault.
use Rattle.std.specs.Prelude.{ℕ, ◌+◌, ◌≡◌, ◌⊎◌, List, [], ◌∷◌}
use Rattle.std.specs.declared.cmp.Ordering.{Ordering}
use Rattle.std.specs.declared.cmp.Ordering.TheVariants.{Less, Equal, Greater}
use Rattle.board_base.specs.Texts.{unmove_order}
use Rattle.board_base.specs.declared.unmoves.Unmove.{Unmove}
use Rattle.query_base.specs.Asked.{Asked}
use Rattle.query_base.specs.Reach.{Reaches}
use Rattle.query_base.specs.Ancestors.{CoversAt}
use Rattle.cert_checker.specs.Reasons.{ReasonSupports}
use Rattle.unmove_gen.specs.Listed.{unmoves}
use Rattle.unmove_gen.specs.Predecessor.{predecessor}
use Rattle.cert_text.specs.Tree.{Tree, Forest, rule, back, expand, sketch, none, more}
use Rattle.cert_text.specs.Certificate.{Certificate, root_at}
use Rattle.sketch_checker.specs.TreeWalk.{Walked as SketchWalked}
use Rattle.sketch_checker.specs.TreeWalk as sketches
use Rattle.cert_checker.specs.Proving.{target_of}
use Rattle.cert_checker.specs.Sketches.{WalksSketch, why_of}
use Rattle.cert_checker.specs.declared.refusals.Why.{Why}
use Rattle.cert_checker.specs.declared.refusals.Why.TheVariants as why

-- an unmove that no child has, or why a node doesn't prove its query
pub data Fault : Type 0 where
  unlisted : Unmove → Fault
  unsupported : Why → Fault

-- what a walk comes to: a fault at a line, or the line after those that were walked
pub data Walked : Type 0 where
  fault_at : ℕ → Fault → Walked
  next_line : ℕ → Walked

-- a node of one line: the line after it where P holds, else a fault there
abbrev pub Unless : Type 0 → Why → ℕ → Walked → Type 0
Unless P w n (next_line m) = P × (m ≡ n + 1)
Unless P w n (fault_at m f) = (P → ⊥) × (m ≡ n) × (f ≡ unsupported w)

-- a fault of the part that was walked first, or what goes on after it
abbrev pub Onwards : Walked → (ℕ → Walked → Type 0) → Walked → Type 0
Onwards (fault_at n f) Rest walked = walked ≡ fault_at n f
Onwards (next_line n) Rest walked = Rest n walked

-- what the walk over a sketch comes to, as the walk of a tree
abbrev pub walked_by : SketchWalked → Walked
walked_by (sketches.fault_at n w) = fault_at n (unsupported (why_of w))
walked_by (sketches.next_line n) = next_line n

-- A child on line n whose label comes before the unmove u, the first that no child had: it is stray. After u: u is left out. If it
-- is u, the child is walked.
abbrev pub ByLabel : Ordering → Unmove → ℕ → Walked → Type 0 → Type 0
ByLabel Less u n walked Kid = walked ≡ fault_at n (unsupported why.Stray)
ByLabel Greater u n walked Kid = walked ≡ fault_at n (unlisted u)
ByLabel Equal u n walked Kid = Kid

abbrev mutual
  -- what the walk of a tree whose first line is n comes to, at this query and below these ancestors, the parent first
  pub Walks : Tree → Asked → List Asked → ℕ → Walked → Type 0
  Walks (rule r) q ancestors n walked = Unless (ReasonSupports q r) why.Rule n walked
  Walks (back k) q ancestors n walked = Unless (CoversAt q ancestors k) why.Back n walked
  Walks (expand kids) q ancestors n walked =
      (Reaches [] q × (walked ≡ fault_at n (unsupported why.Array))) ⊎ ((Reaches [] q → ⊥) × WalksEach kids q (unmoves q) ancestors n (n + 1) walked)
  Walks (sketch b) q ancestors n walked = (k : SketchWalked) × WalksSketch b q n k × (walked ≡ walked_by k)

  -- what the walk of the children that are left comes to, with the unmoves that are left; top is the parent's line, n the next one
  pub WalksEach : Forest → Asked → List Unmove → List Asked → ℕ → ℕ → Walked → Type 0
  WalksEach none q [] ancestors top n walked = walked ≡ next_line n
  WalksEach none q (u ∷ us) ancestors top n walked = walked ≡ fault_at top (unlisted u)
  WalksEach (more label tree rest) q [] ancestors top n walked = walked ≡ fault_at n (unsupported why.Stray)
  WalksEach (more label tree rest) q (u ∷ us) ancestors top n walked =
      ByLabel (unmove_order label u) u n walked ((kid : Walked) × Walks tree (predecessor q u) (q ∷ ancestors) n kid × Onwards kid (WalksEach rest q us ancestors top) walked)

-- what the walk of a certificate comes to, from its root's line on
abbrev pub WalksTo : Certificate → Walked → Type 0
WalksTo cert walked = Walks cert.root (target_of cert) [] (root_at cert.query) walked
