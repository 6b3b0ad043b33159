use Rattle.std.proofs.Common.{◌≡◌, Bool, List, rules, refl, sym, ◌∙◌}
use Rattle.std.specs.Bool.{Decides, beq}
use Rattle.std.proofs.lemmas.Slice.Eq.{slice_eq-Decides}
use Rattle.sketch_grounds.specs.contracts.pawn_zones.ZonePartialEq.TheImpl as equal
use Rattle.sketch_grounds.proofs.pawn_zones.Zones.is_same.Goals as goal

truth_decides : (x y : Bool) → Decides (beq x y) (x ≡ y)
truth_decides x y = search rules

zone_decides : (a b : List Bool) → Decides (equal.eq-value.it a b) (a ≡ b)
zone_decides a b = slice_eq-Decides truth_decides a b (equal.eq-value.it a b) refl

pub returns : goal.returns
returns c =
    let first : c.as_slice.result.now ≡ c.args.self.now = c.as_slice.ensures.value ∙ c.self.view_is in
    let second : c.as_slice-2.result.now ≡ c.args.other.now = c.as_slice-2.ensures.value ∙ c.other.view_is in
    let told = slice_eq-Decides zone_decides c.as_slice.result.now c.as_slice-2.result.now c.eq.result c.eq.ensures in
    (λ h. sym first ∙ told.0 h ∙ second, λ same. told.1 (first ∙ same ∙ sym second))
