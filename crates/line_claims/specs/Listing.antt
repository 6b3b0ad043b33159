-- When the parts due are defined: each step is in the list of retractions of what the steps before it leave.
use Rattle.std.specs.Prelude.{ℕ, ◌≡◌, ◌+◌, List, ◌∷◌, ◌++◌, length}
use Rattle.std.specs.List.{Contains}
use Rattle.board_base.specs.declared.unmoves.Unmove.{Unmove}
use Rattle.query_base.specs.Asked.{Asked}
use Rattle.unmove_gen.specs.Listed.{unmoves}
use Rattle.unmove_gen.specs.Predecessor.{left_by}
use Rattle.line_claims.specs.declared.claims.LineClaim.{LineClaim}
use Rattle.line_claims.specs.declared.claims.LineClaim.TheVariants.{NotBoth, Line}

-- each step is an unmove of what the steps before it leave
abbrev pub AreListed : Asked → List Unmove → Type 0
AreListed q steps = (before after : List Unmove) (u : Unmove) → steps ≡ before ++ u ∷ after → Contains (unmoves (left_by q before)) u

-- the step with this number, counted from 1, is the first that isn't
pub record IsFirstUnlisted (q : Asked) (steps : List Unmove) (number : ℕ) : Type 0 where
  pub before : List Unmove
  pub after : List Unmove
  pub step : Unmove
  pub whole : steps ≡ before ++ step ∷ after
  pub place : number ≡ length before + 1
  pub listed : AreListed q before
  pub unlisted : Contains (unmoves (left_by q before)) step → ⊥

-- the parts due of the claim are defined
abbrev pub HasParts : LineClaim → Asked → Type 0
HasParts (NotBoth x y) q = Unit {0}
HasParts (Line steps) q = AreListed q steps

-- the step with this number is the claim's first that isn't listed
abbrev pub LacksStep : LineClaim → Asked → ℕ → Type 0
LacksStep (NotBoth x y) q number = ⊥
LacksStep (Line steps) q number = IsFirstUnlisted q steps number
