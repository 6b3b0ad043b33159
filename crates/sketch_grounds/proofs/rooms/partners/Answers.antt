use Rattle.std.proofs.Common.{◌≡◌, ◌<◌, ℕ, List, Bool, true, set, ap, ◌∙◌, arith}
use Rattle.board_base.specs.Board.{is_in}
use Rattle.cage_rules.proofs.Filling.{all-in}
use Rattle.sketch_grounds.proofs.Pruning.{partners-all, partners-none, partners-one}
use Rattle.sketch_grounds.proofs.rooms.partners.Goals as goal

pub returns-then-first-eq64 : goal.returns-then-first-eq64
returns-then-first-eq64 c = λ t inside.
    ap (λ (l : List Bool). is_in l t) c.from_bits.ensures.squares ∙ all-in t inside
    ∙ partners-all c.args.zone c.without-rest.result c.args.u t c.without-rest.ensures (λ s low. c.next_from-first.ensures.none s (omega arith) (omega arith))

pub returns-then-next_from-eq64 : goal.returns-then-next_from-eq64
returns-then-next_from-eq64 c = λ t inside.
    let x : ℕ = c.known-t.result in
    let low : c.next_from-first.result < 64 = omega (arith, c.next_from-first.ensures.low) in
    let xi : x < 64 = omega (arith, c.known-t.ensures, low) in
    let member : is_in c.without-rest.result x ≡ true = ap (is_in c.without-rest.result) c.known-t.ensures ∙ c.next_from-first.ensures.found low in
    ap (λ (l : List Bool). is_in l t) (c.with.ensures ∙ ap (λ (l : List Bool). set l x true) c.none.ensures)
    ∙ partners-one c.args.zone c.without-rest.result c.without.result c.args.u x t xi c.without-rest.ensures member c.without.ensures (λ s small. c.next_from.ensures.none s (omega arith) (omega arith))

pub returns-else-next_from-eq64 : goal.returns-else-next_from-eq64
returns-else-next_from-eq64 c = λ t inside.
    let x : ℕ = c.known-t.result in
    let y : ℕ = c.next_from.result in
    let low : c.next_from-first.result < 64 = omega (arith, c.next_from-first.ensures.low) in
    let xi : x < 64 = omega (arith, c.known-t.ensures, low) in
    let yi : y < 64 = omega (arith, c.next_from.ensures.low) in
    let member : is_in c.without-rest.result x ≡ true = ap (is_in c.without-rest.result) c.known-t.ensures ∙ c.next_from-first.ensures.found low in
    ap (λ (l : List Bool). is_in l t) c.none-else-next_from-eq64.ensures
    ∙ partners-none c.args.zone c.without-rest.result c.without.result c.args.u x y t xi yi c.without-rest.ensures member c.without.ensures (c.next_from.ensures.found yi)
