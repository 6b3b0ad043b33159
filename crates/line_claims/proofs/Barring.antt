-- No part due bars a move.
use Rattle.std.proofs.Common.{◌≡◌, List, [], ◌∷◌, None, map, refl}
use Rattle.std.proofs.lemmas.List.Elements.{All-append, All-cons, All-map, All-nil}
use Rattle.std.specs.List.{All}
use Rattle.board_base.specs.declared.unmoves.Unmove.{Unmove}
use Rattle.query_base.specs.Asked.{Asked}
use Rattle.query_base.specs.declared.claims.Claim.{Claim}
use Rattle.query_base.specs.declared.claims.Claim.TheVariants.{Illegal, Last}
use Rattle.unmove_gen.specs.Predecessor.{predecessor}
use Rattle.line_claims.specs.declared.claims.LineClaim.{LineClaim}
use Rattle.line_claims.specs.declared.claims.LineClaim.TheVariants.{NotBoth, Line}
use Rattle.line_claims.specs.Due.{excluded, parts_due, parts_of_step, parts_of_steps, siblings, with_both}

abbrev BarsNone : Claim × Asked → Type 0
BarsNone part = part.1.barred ≡ None

step_bars : (q : Asked) (u : Unmove) → q.barred ≡ None → All BarsNone (parts_of_step q u)
step_bars q u plain = All-cons BarsNone (Last u.mv, q) (map (excluded q) (siblings q u)) plain (All-map BarsNone (excluded q) (siblings q u) (λ k d inside. refl))

steps_bar : (steps : List Unmove) (q : Asked) → q.barred ≡ None → All BarsNone (parts_of_steps q steps)
steps_bar [] q plain = All-nil BarsNone
steps_bar (u ∷ us) q plain = All-append BarsNone (parts_of_step q u) (parts_of_steps (predecessor q u) us) (step_bars q u plain) (steps_bar us (predecessor q u) refl)

pub parts_bar : (claim : LineClaim) (q : Asked) → q.barred ≡ None → All (λ part. part.1.barred ≡ None) (parts_due claim q)
parts_bar (NotBoth x y) q plain = All-cons BarsNone (Illegal, with_both q x y) [] plain (All-nil BarsNone)
parts_bar (Line steps) q plain = steps_bar steps q plain
