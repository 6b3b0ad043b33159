-- Inner: no public clause cites this file.
-- Trees that expand no query which a rule line supports, and step back nowhere.
use Rattle.query_base.specs.Asked.{Asked}
use Rattle.static_rules.specs.Supports.{IsClosed}
use Rattle.unmove_gen.specs.Predecessor.{predecessor}
use Rattle.cert_text.specs.Tree.{Tree, Forest, rule, back, expand, sketch, none, more}

abbrev mutual
  pub IsEager : Tree → Asked → Type 0
  IsEager (rule r) q = Unit {0}
  IsEager (back k) q = ⊥
  IsEager (expand kids) q = (IsClosed q → ⊥) × AreEager kids q
  IsEager (sketch b) q = Unit {0}

  pub AreEager : Forest → Asked → Type 0
  AreEager none q = Unit {0}
  AreEager (more label tree rest) q = IsEager tree (predecessor q label) × AreEager rest q
