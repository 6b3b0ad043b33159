-- The trees of certificates.
use Rattle.std.specs.Prelude.{ℕ, ◌+◌, Option, Some, None}
use Rattle.std.proofs.Common.{zero, suc}
use Rattle.board_base.specs.declared.unmoves.Unmove.{Unmove}
use Rattle.sketch_body.specs.Bodies.{Body, units_of}
use Rattle.cert_text.specs.declared.reasons.Reason.{Reason}

mutual
  -- a reason, a number of steps back, a list of children, or a sketch
  pub data Tree : Type 0 where
    rule : Reason → Tree
    back : ℕ → Tree
    expand : Forest → Tree
    sketch : Body → Tree

  -- a list of labels, each with its tree
  pub data Forest : Type 0 where
    none : Forest
    more : Unmove → Tree → Forest → Forest

-- how many children there are
abbrev pub count : Forest → ℕ
count none = 0
count (more label tree rest) = count rest + 1

-- the child at this place, counted from 0
abbrev pub kid_at : Forest → ℕ → Option (Unmove × Tree)
kid_at none i = None
kid_at (more label tree rest) zero = Some (label, tree)
kid_at (more label tree rest) (suc i) = kid_at rest i

-- the children, and this one after them
abbrev pub with_last : Forest → Unmove → Tree → Forest
with_last none label tree = more label tree none
with_last (more l t rest) label tree = more l t (with_last rest label tree)

abbrev mutual
  -- the units of the sketches in a tree
  pub units_in : Tree → ℕ
  units_in (rule r) = 0
  units_in (back k) = 0
  units_in (expand kids) = units_each kids
  units_in (sketch b) = units_of b

  -- those of the sketches in these trees
  pub units_each : Forest → ℕ
  units_each none = 0
  units_each (more label tree rest) = units_in tree + units_each rest
