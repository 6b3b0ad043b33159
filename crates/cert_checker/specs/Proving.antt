-- When a tree proves that no game reaches a query.
use Rattle.std.specs.Prelude.{◌≡◌, List, [], ◌∷◌}
use Rattle.board_base.specs.declared.unmoves.Unmove.{Unmove}
use Rattle.query_base.specs.Asked.{Asked}
use Rattle.query_base.specs.Reach.{Reaches}
use Rattle.query_base.specs.Targets.{target}
use Rattle.query_base.specs.Ancestors.{CoversAt}
use Rattle.cert_checker.specs.Reasons.{ReasonSupports}
use Rattle.unmove_gen.specs.Listed.{unmoves}
use Rattle.unmove_gen.specs.Predecessor.{predecessor}
use Rattle.cert_text.specs.Tree.{Tree, Forest, rule, back, expand, sketch, none, more}
use Rattle.cert_text.specs.Certificate.{Certificate}
use Rattle.cert_checker.specs.Sketches.{IsSketchOf}

abbrev mutual
  -- The tree proves that no game reaches the query, below these ancestors, the parent first: a reason supports the query; an
  -- ancestor covers it; or the game of no moves doesn't reach it, the labels are exactly its unmoves, and each child proves the
  -- predecessor; or a sketch supports it.
  pub Proves : Tree → Asked → List Asked → Type 0
  Proves (rule r) q ancestors = ReasonSupports q r
  Proves (back k) q ancestors = CoversAt q ancestors k
  Proves (expand kids) q ancestors = (Reaches [] q → ⊥) × ProvesEach kids q (unmoves q) ancestors
  Proves (sketch b) q ancestors = IsSketchOf b q

  -- the labels are these unmoves in order, and each child proves the predecessor of the query by its label
  pub ProvesEach : Forest → Asked → List Unmove → List Asked → Type 0
  ProvesEach none q us ancestors = us ≡ []
  ProvesEach (more label tree rest) q us ancestors =
      (others : List Unmove) × (us ≡ label ∷ others) × Proves tree (predecessor q label) (q ∷ ancestors) × ProvesEach rest q others ancestors

-- the query that a certificate says no game reaches
abbrev pub target_of : Certificate → Asked
target_of cert = target cert.query cert.claim

-- the certificate proves its claim
abbrev pub ProvesClaim : Certificate → Type 0
ProvesClaim cert = Proves cert.root (target_of cert) []
