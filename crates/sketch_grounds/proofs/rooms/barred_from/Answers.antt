use Rattle.std.proofs.Common.{List, Bool, take, ap, sym, ◌∙◌, ◌||◌}
use Rattle.std.proofs.lemmas.List.{take_all}
use Rattle.std.proofs.lemmas.List.Folds.{list_any_more}
use Rattle.std.specs.List.{list_any}
use Rattle.board_base.specs.Board.{is_in}
use Rattle.cage_rules.proofs.Filling.{none-in-zero}
use Rattle.cage_rules.proofs.SetAlgebra.{is_in-union}
use Rattle.sketch_grounds.specs.LeastZones.{is_only}
use Rattle.sketch_grounds.specs.Paces.{is_barred}
use Rattle.sketch_grounds.proofs.rooms.barred_from.Goals as goal

pub loop-zone-init : goal.loop-zone-init
unfolding is_barred
loop-zone-init c = λ t inside. ap (λ (l : List Bool). is_in l t) c.none-barred.ensures ∙ none-in-zero t

pub loop-zone-preserved : goal.loop-zone-preserved
unfolding is_barred
loop-zone-preserved c = λ t inside.
    let p : List Bool → Bool = λ zone. is_only zone t c.args.u in
    let first : Bool = list_any p (take c.loop-zone.zone-index c.args.zones.now) in
    ap (λ (l : List Bool). is_in l t) c.either-barred.ensures ∙ is_in-union c.loop-zone.barred c.partners.result t inside
    ∙ ap (λ (b : Bool). b || is_in c.partners.result t) (c.loop-zone.invariant t inside) ∙ ap (λ (b : Bool). first || b) (c.partners.ensures t inside ∙ ap p (c.squares.ensures ∙ c.zone-item.is))
    ∙ sym (list_any_more p c.args.zones.now c.loop-zone.zone-index c.zone-item.result c.loop-zone-test.true)

pub returns : goal.returns
unfolding is_barred
returns c = λ t inside. c.loop-zone.invariant t inside ∙ ap (λ (zs : List (List Bool)). is_barred zs t c.args.u) (take_all c.loop-zone.zone-index c.args.zones.now c.loop-zone-test.false)
