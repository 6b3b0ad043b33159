-- Trees that differ in lines of prices alone.
use Rattle.std.specs.Prelude.{◌≡◌, ◌⊎◌}
use Rattle.query_base.specs.Asked.{Asked}
use Rattle.unmove_gen.specs.Predecessor.{predecessor}
use Rattle.cert_text.specs.Tree.{Tree, Forest, rule, back, expand, sketch, none, more}
use Rattle.cert_text.specs.declared.reasons.Reason.{Reason}
use Rattle.cert_text.specs.declared.reasons.Reason.TheVariants.{Line, Balance}
use Rattle.cert_checker.specs.Reasons.{ReasonSupports}

-- the reason lists prices
abbrev pub IsBalance : Reason → Type 0
IsBalance (Line r) = ⊥
IsBalance (Balance set p) = Unit {0}

-- the tree is this one line, which lists prices
abbrev pub HasPrices : Tree → Reason → Type 0
HasPrices t line = (t ≡ rule line) × IsBalance line

-- one of these children is this one line, which lists prices
abbrev pub IsLineOf : Forest → Reason → Type 0
IsLineOf none line = ⊥
IsLineOf (more label tree rest) line = HasPrices tree line ⊎ IsLineOf rest line

-- The child is one line that lists prices, and so is this line of one of its siblings, which supports its query.
pub record IsServed (t : Tree) (line : Reason) (q : Asked) (siblings : Forest) : Type 0 where
  pub own : Reason
  pub priced : HasPrices t own
  pub line_of : IsLineOf siblings line
  pub supports : ReasonSupports q line

abbrev mutual
  -- the second tree is the first, of this query, but for lines of prices that its children are given by their siblings
  pub IsRepriced : Tree → Tree → Asked → Type 0
  IsRepriced (rule r) t q = t ≡ rule r
  IsRepriced (back k) t q = t ≡ back k
  IsRepriced (sketch b) t q = t ≡ sketch b
  IsRepriced (expand kids) (rule r) q = ⊥
  IsRepriced (expand kids) (back k) q = ⊥
  IsRepriced (expand kids) (sketch b) q = ⊥
  IsRepriced (expand kids) (expand copies) q = AreRepriced kids copies q kids

  -- the same of children of this query, some of these siblings: the labels stay
  pub AreRepriced : Forest → Forest → Asked → Forest → Type 0
  AreRepriced none none q siblings = Unit {0}
  AreRepriced none (more label tree rest) q siblings = ⊥
  AreRepriced (more label tree rest) none q siblings = ⊥
  AreRepriced (more label tree rest) (more same copy copies) q siblings =
      (same ≡ label) × (IsRepriced tree copy (predecessor q label) ⊎ IsNewLine tree copy (predecessor q label) siblings) × AreRepriced rest copies q siblings

  -- the child, of this query, is served by the line that its copy is
  pub IsNewLine : Tree → Tree → Asked → Forest → Type 0
  IsNewLine t (rule line) q siblings = IsServed t line q siblings
  IsNewLine t (back k) q siblings = ⊥
  IsNewLine t (expand kids) q siblings = ⊥
  IsNewLine t (sketch b) q siblings = ⊥
