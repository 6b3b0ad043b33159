use Rattle.std.proofs.Common.{Bool, not, sym, subst}
use Rattle.std.proofs.lemmas.Bool.{both_ways, false_from_ne_true, not-true, not_from_false}
use Rattle.std.specs.Prelude.{IsTrue, ◌↔◌}
use Rattle.play_rules.specs.Kings.{HasOneKingEach}
use Rattle.query_base.specs.Asked.{Asked}
use Rattle.query_base.specs.declared.rule_lines.RuleLine.{RuleLine}
use Rattle.query_base.specs.declared.rule_lines.RuleLine.TheVariants.{Kings}
use Rattle.static_rules.specs.Supports.{Supports}
use Rattle.static_rules.proofs.rules.breaks_law.Goals as goal

fails : {P : Type 0} (b : Bool) → IsTrue b ↔ P → IsTrue (not b) ↔ (P → ⊥)
fails b h = (λ no p. both_ways b (not-true b no) (h.1 p), λ no. not_from_false b (false_from_ne_true b (λ yes. no (h.0 yes))))

pub returns-in-Kings : goal.returns-in-Kings
returns-in-Kings c =
    let b : Bool = c.has_one_king_each.result in
    let inside : IsTrue (not b) ↔ (HasOneKingEach c.query.inside.board → ⊥) = fails b c.has_one_king_each.ensures in
    subst (λ (r : RuleLine). IsTrue (not b) ↔ Supports c.args.query.now r) (sym c.in-Kings.is) (subst (λ (q : Asked). IsTrue (not b) ↔ Supports q Kings) c.query.view_is inside)
