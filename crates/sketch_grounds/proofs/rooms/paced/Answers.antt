use Rattle.std.proofs.Common.{◌≡◌, ◌<◌, ◌&&◌, ℕ, List, Bool, true, false, length, set, inl, ap, sym, subst, ◌∙◌, arith}
use Rattle.std.proofs.lemmas.Bool.{and_parts}
use Rattle.std.proofs.lemmas.List.{get_or-set_other, get_or-set_same, length-set}
use Rattle.board_base.specs.Board.{is_in}
use Rattle.cage_rules.specs.Steps.{is_near}
use Rattle.cage_rules.specs.SetSteps.{spread}
use Rattle.cage_rules.proofs.SetAlgebra.{is_in-both, is_in-outside}
use Rattle.sketch_grounds.specs.Paces.{is_pace}
use Rattle.sketch_grounds.specs.Wide.{AreWide}
use Rattle.sketch_grounds.proofs.Pruning.{pruned-end, pruned-next, pruned-start}
use Rattle.sketch_grounds.proofs.rooms.paced.Goals as goal
use Rattle.sketch_grounds.proofs.rooms.paced.Goals.{then-not-comes, else-not-comes}

pub doubts-init : goal.doubts-init
doubts-init c = pruned-start c.args.kind c.args.wall c.args.zones.now c.args.within c.both-doubtful.result c.spread-more.result c.next_from-i.result c.spread-more.ensures (λ s low. c.next_from-i.ensures.none s (omega arith) low) c.next_from-i.ensures.found

pub doubts-preserved : goal.doubts-preserved
doubts-preserved c =
    let zones : List (List Bool) = c.args.zones.now in
    let i : ℕ = c.doubts.i in
    let here : i < 64 = c.doubts-test.true in
    let size : length c.doubts.more ≡ 64 = c.doubts.invariant.size in
    let member : is_in c.both-doubtful.result i ≡ true = c.doubts.invariant.here here in
    let answer : c.comes.result ≡ is_near (is_pace c.args.kind zones) c.args.within i = c.comes.ensures ∙ ap (is_near (is_pace c.args.kind zones) c.args.within) c.known-u.ensures in
    let parts = and_parts (is_in c.zones.inside.squares i) (is_in c.both.result i) (sym (is_in-both c.zones.inside.squares c.both.result i here) ∙ ap (λ (l : List Bool). is_in l i) (sym c.both-doubtful.ensures) ∙ member) in
    let two = and_parts (is_in c.spread-more.result i) (is_in c.outside.result i) (sym (is_in-both c.spread-more.result c.outside.result i here) ∙ ap (λ (l : List Bool). is_in l i) (sym c.both.ensures) ∙ parts.1) in
    let first : is_in (spread c.args.kind c.args.wall c.args.within) i ≡ true = ap (λ (l : List Bool). is_in l i) (sym c.spread-more.ensures) ∙ two.0 in
    elim c.if-not-comes.branch [
      | then-not-comes w ↦
          let made : c.if-not-comes.more ≡ set c.doubts.more i false = w.more-is ∙ w.without-more.ensures ∙ ap (λ (n : ℕ). set c.doubts.more n false) c.known-u.ensures in
          let out : c.comes.result ≡ false = cc in
          pruned-next c.args.kind c.args.wall zones c.args.within c.both-doubtful.result c.doubts.more c.if-not-comes.more i c.next_from-i-in-doubts.result here (omega (arith, c.next_from-i-in-doubts.ensures.high)) member
          c.next_from-i-in-doubts.ensures.none c.next_from-i-in-doubts.ensures.found
          (ap (λ (l : List Bool). length l) made ∙ length-set c.doubts.more i false ∙ size)
          (ap (λ (l : List Bool). is_in l i) made ∙ get_or-set_same c.doubts.more i false false (omega arith) ∙ sym out ∙ answer)
          (λ s other. ap (λ (l : List Bool). is_in l s) made ∙ get_or-set_other c.doubts.more i s false false other) c.doubts.invariant
      | else-not-comes w ↦
          let made : c.if-not-comes.more ≡ c.doubts.more = w.more-is in
          let yes : c.comes.result ≡ true = cc in
          pruned-next c.args.kind c.args.wall zones c.args.within c.both-doubtful.result c.doubts.more c.if-not-comes.more i c.next_from-i-in-doubts.result here (omega (arith, c.next_from-i-in-doubts.ensures.high)) member
          c.next_from-i-in-doubts.ensures.none c.next_from-i-in-doubts.ensures.found
          (ap (λ (l : List Bool). length l) made ∙ size)
          (ap (λ (l : List Bool). is_in l i) made ∙ c.doubts.invariant.rest i here (inl (omega arith)) ∙ first ∙ sym yes ∙ answer)
          (λ s other. ap (λ (l : List Bool). is_in l s) made) c.doubts.invariant
    ]

pub returns : goal.returns
returns c =
    pruned-end c.args.kind c.args.wall c.args.zones.now c.zones.inside.squares c.args.within c.both-doubtful.result c.doubts.more c.doubts.i c.doubts-test.false (subst (λ (l : List (List Bool)). AreWide l c.zones.inside.squares) c.zones.view_is c.zones.invariant)
    (λ s inside.
    ap (λ (l : List Bool). is_in l s) c.both-doubtful.ensures ∙ is_in-both c.zones.inside.squares c.both.result s inside
    ∙ ap (λ (b : Bool). is_in c.zones.inside.squares s && b)
    (ap (λ (l : List Bool). is_in l s) c.both.ensures ∙ is_in-both c.spread-more.result c.outside.result s inside
    ∙ ap (λ (b : Bool). b && is_in c.outside.result s) (ap (λ (l : List Bool). is_in l s) c.spread-more.ensures)
    ∙ ap (λ (b : Bool). is_in (spread c.args.kind c.args.wall c.args.within) s && b) (ap (λ (l : List Bool). is_in l s) c.outside.ensures ∙ is_in-outside c.args.within s inside))) c.doubts.invariant
