-- The claims of parts have texts.
use Rattle.std.proofs.Common.{◌≡◌, true, List, [], ◌∷◌, map, refl}
use Rattle.std.specs.List.{All, list_all}
use Rattle.std.proofs.lemmas.Bool.{and_parts}
use Rattle.std.proofs.lemmas.List.Elements.{All-append, All-cons, All-map, All-nil}
use Rattle.board_base.specs.Texts.{can_capture, can_promote}
use Rattle.board_base.specs.declared.unmoves.Unmove.{Unmove}
use Rattle.query_base.specs.Asked.{Asked}
use Rattle.query_base.specs.declared.claims.Claim.{Claim}
use Rattle.query_base.specs.declared.claims.Claim.TheVariants.{Illegal, Last}
use Rattle.cert_text.specs.ClaimLines.{promotes_well}
use Rattle.unmove_gen.specs.Predecessor.{predecessor}
use Rattle.line_claims.specs.Due.{excluded, parts_due, parts_of_step, parts_of_steps, siblings, with_both}
use Rattle.line_claims.specs.Lines.{HasLine, has_text}
use Rattle.line_claims.specs.declared.claims.LineClaim.{LineClaim}
use Rattle.line_claims.specs.declared.claims.LineClaim.TheVariants.{Line, NotBoth}

abbrev PromotesWell : Claim × Asked → Type 0
PromotesWell part = promotes_well part.0 ≡ true

step_promotes : (q : Asked) (u : Unmove) → has_text u ≡ true → All PromotesWell (parts_of_step q u)
step_promotes q u text =
    All-cons PromotesWell (Last u.mv, q) (map (excluded q) (siblings q u)) (and_parts (can_promote u.mv.promo) (can_capture u.mv.promo u.captured u.ep) text).0 (All-map PromotesWell (excluded q) (siblings q u) (λ k d inside. refl))

steps_promote : (steps : List Unmove) (q : Asked) → list_all has_text steps ≡ true → All PromotesWell (parts_of_steps q steps)
steps_promote [] q texts = All-nil PromotesWell
steps_promote (u ∷ us) q texts =
    let parts = and_parts (has_text u) (list_all has_text us) texts in
    All-append PromotesWell (parts_of_step q u) (parts_of_steps (predecessor q u) us) (step_promotes q u parts.0) (steps_promote us (predecessor q u) parts.1)

pub parts_promote : (claim : LineClaim) (q : Asked) → HasLine claim → All (λ part. promotes_well part.0 ≡ true) (parts_due claim q)
parts_promote (NotBoth x y) q line = All-cons PromotesWell (Illegal, with_both q x y) [] refl (All-nil PromotesWell)
parts_promote (Line steps) q line = steps_promote steps q line.texts
