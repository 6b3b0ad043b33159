-- Inner: no public clause cites this file.
-- Texts that are written on a page, and which nodes have children.
use Rattle.std.specs.Prelude.{Bool, true, false, ℕ, ◌+◌, ◌≡◌, List, ◌∷◌, ◌++◌}
use Rattle.board_base.specs.declared.unmoves.Unmove.{Unmove}
use Rattle.query_base.specs.Asked.{Asked}
use Rattle.board_base.specs.Texts.{unmove_text}
use Rattle.unmove_gen.specs.Predecessor.{predecessor}
use Rattle.tree_browser.specs.Trees.{Each, IsTree}
use Rattle.tree_browser.specs.declared.notes.Note.{Note}
use Rattle.tree_browser.specs.declared.notes.Note.TheVariants.{Expand}
use Rattle.tree_browser.specs.declared.trees.Page.{Page}

-- a node of this note has children
abbrev pub expands : Note → Bool
expands (Expand n) = true
expands _ = false

-- the texts of the trees of the query's predecessors by these unmoves, one after another
abbrev pub AreTrees : ℕ → Asked → List Asked → List Unmove → ℕ → List ℕ → Type 0
AreTrees left q ancestors us n text = Each (λ u. IsTree left (predecessor q u) (q ∷ ancestors) (unmove_text u)) us n text

-- the text of n lines was added, and so many fewer may follow
pub record Adds (n : ℕ) (more : List ℕ) (old new : Page) : Type 0 where
  pub text : new.text.items ≡ old.text.items ++ more
  pub left : old.left ≡ new.left + n

-- the tree's text was added
abbrev pub Writes : Asked → ℕ → List Asked → List ℕ → Page → Page → Type 0
Writes q left ancestors label old new = (n : ℕ) × (text : List ℕ) × IsTree left q ancestors label n text × Adds n text old new

-- the texts of the trees of the predecessors by these unmoves were added
abbrev pub WritesAll : Asked → ℕ → List Asked → List Unmove → Page → Page → Type 0
WritesAll q left ancestors us old new = (n : ℕ) × (text : List ℕ) × AreTrees left q ancestors us n text × Adds n text old new
