-- Of which ways a bar is told.
use Rattle.std.specs.Prelude.{ℕ, Bool, true, false, ◌&&◌, not, ◌==◌, is_none, is_some}
use Rattle.std.specs.Bool.{beq}
use Rattle.board_base.specs.declared.unmoves.Unmove.{Unmove}
use Rattle.retraction_bars.specs.declared.scopes.Manner.{Manner}
use Rattle.retraction_bars.specs.declared.scopes.Manner.TheVariants.{Anywhere, Origin, Quiet, Taking, Passing}
use Rattle.retraction_bars.specs.declared.scopes.Scope.{Scope}

-- the ways of this manner from a square, of a man whom the move promoted or not
abbrev pub scope_of : Manner → ℕ → Bool → Scope
scope_of m from promoted = record { manner = m; from = from; promoted = promoted }

-- all ways
abbrev pub anywhere : Scope
anywhere = scope_of Anywhere 0 false

-- the way is from the scope's square, and promotes as it says
abbrev pub is_from : Scope → Unmove → Bool
is_from s u = (u.mv.from == s.from) && beq (is_some u.mv.promo) s.promoted

-- the way is in the scope
abbrev pub is_within : Scope → Unmove → Bool
is_within s u = elim s.manner [
  | Anywhere ↦ true
  | Origin ↦ is_from s u
  | Quiet ↦ is_from s u && is_none u.captured
  | Taking ↦ is_from s u && is_some u.captured && not u.ep
  | Passing ↦ is_from s u && u.ep
]

-- the manners are the same
abbrev pub same_manner : Manner → Manner → Bool
same_manner Anywhere Anywhere = true
same_manner Origin Origin = true
same_manner Quiet Quiet = true
same_manner Taking Taking = true
same_manner Passing Passing = true
same_manner _ _ = false

-- the numbers of the bars that are tried: of all ways, of those from an origin, and of those that are told apart
abbrev pub low_of : Manner → ℕ
low_of Anywhere = 0
low_of _ = 69

-- the number after the last bar that is tried for this manner
abbrev pub high_of : Manner → ℕ
high_of Anywhere = 145
high_of Origin = 145
high_of _ = 146
