use Rattle.std.proofs.Common.{Bool, true, ◌≡◌, sym, subst}
use Rattle.std.proofs.lemmas.Bool.{both_ways}
use Rattle.std.specs.Prelude.{IsTrue, ◌↔◌}
use Rattle.board_base.specs.Board.{Places, array_of}
use Rattle.castle_history.specs.Homes.{HaveHomes}
use Rattle.query_base.specs.Asked.{Asked}
use Rattle.static_rules.specs.Supports.{HasRightsHomes}
use Rattle.static_rules.proofs.Homes.{at_home-first, first-at_home}
use Rattle.static_rules.proofs.rules.rights_fit.Goals as goal

both-fit : (q : Asked) (b : Bool) → HaveHomes (array_of q.odds) q.held → IsTrue b ↔ HaveHomes q.board q.held → IsTrue b ↔ HasRightsHomes q
both-fit q b first here =
    (λ yes. record { begun = λ x held. at_home-first q.odds x (first x held); at_home = here.0 yes }, λ fits. here.1 fits.at_home)

not-first : (q : Asked) (b : Bool) → (HaveHomes (array_of q.odds) q.held → ⊥) → (b ≡ true → ⊥) → IsTrue b ↔ HasRightsHomes q
not-first q b lacks fails = (λ yes. absurd (fails yes), λ fits. absurd (lacks (λ x held. first-at_home q.odds x (fits.begun x held))))

pub returns-then-held_fits : goal.returns-then-held_fits
returns-then-held_fits c =
    let b : Bool = c.held_fits-then-held_fits.result in
    let first : HaveHomes (array_of c.query.inside.odds) c.query.inside.held = subst (λ (f : Places). HaveHomes f c.query.inside.held) c.array_of.ensures (c.held_fits.ensures.0 c.if-held_fits.true) in
    subst (λ (q : Asked). IsTrue b ↔ HasRightsHomes q) c.query.view_is (both-fit _ b first c.held_fits-then-held_fits.ensures)

pub returns-else-held_fits : goal.returns-else-held_fits
returns-else-held_fits c =
    let b : Bool = c.held_fits.result in
    subst (λ (q : Asked). IsTrue b ↔ HasRightsHomes q) c.query.view_is (not-first _ b (λ h. both_ways b c.if-held_fits.false (c.held_fits.ensures.1 (subst (λ (f : Places). HaveHomes f c.query.inside.held) (sym c.array_of.ensures) h))) (both_ways b c.if-held_fits.false))
