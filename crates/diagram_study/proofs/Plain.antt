-- The claims of rights have texts.
use Rattle.std.proofs.Common.{◌≡◌, true, List, [], ◌∷◌, map, refl}
use Rattle.std.specs.Prelude.{IsTrue, IsSome, None, Some, not, Option, is_none}
use Rattle.std.specs.List.{All}
use Rattle.std.proofs.lemmas.List.Elements.{All-cons, All-filter, All-head, All-nil, All-same, All-tail, All-weaker}
use Rattle.query_base.specs.Asked.{Asked}
use Rattle.cert_text.specs.ClaimLines.{promotes_well}
use Rattle.codex_verdict.specs.Rights.{claim_of}
use Rattle.codex_verdict.specs.Verdicts.{Promotes}
use Rattle.codex_verdict.specs.declared.kinds.Right.{Right}
use Rattle.codex_verdict.specs.declared.kinds.Right.TheVariants.{Castling, EnPassant}
use Rattle.codex_verdict.proofs.AllRights.{rights-plain}
use Rattle.diagram_study.specs.Rights.{AreDue, is_demanded}
use Rattle.diagram_study.specs.declared.rights.RightFound.{RightFound}
use Rattle.board_base.specs.declared.men.Kind.{Kind}

none_without : (o : Option Kind) → (IsSome o → ⊥) → is_none o ≡ true
none_without None plain = refl
none_without (Some k) plain = absurd (plain refl)

well_told : (r : Right) → (Promotes r → ⊥) → IsTrue (promotes_well (claim_of r))
well_told (Castling x) plain = refl
well_told (EnPassant m) plain = none_without m.promo plain

abbrev WellTold : Right → Type 0
WellTold r = IsTrue (promotes_well (claim_of r))

due_told : (q : Asked) (due : List Right) → AreDue q due → All WellTold due
due_told q due are =
    All-same WellTold due _ are.due_are
    (All-filter (λ (r : Right). not (is_demanded q r)) WellTold are.all (All-weaker (λ r. Promotes r → ⊥) WellTold well_told are.all (rights-plain _ _ _ are.rights)))

unmapped : (found : List RightFound) → All WellTold (map (λ f. f.right) found) → All (λ f. WellTold f.right) found
unmapped [] all = All-nil (λ f. WellTold f.right)
unmapped (f ∷ found) all = All-cons (λ g. WellTold g.right) f found (All-head WellTold f.right (map (λ g. g.right) found) all) (unmapped found (All-tail WellTold f.right (map (λ g. g.right) found) all))

pub found_told : (q : Asked) (found : List RightFound) → AreDue q (map (λ f. f.right) found) → All (λ f. IsTrue (promotes_well (claim_of f.right))) found
found_told q found due = unmapped found (due_told q _ due)
