use Rattle.std.proofs.Common.{◌≡◌, ◌∙◌, List, Bool, length, ap}
use Rattle.std.proofs.lemmas.Bool.{both_ways}
use Rattle.board_base.specs.SquareNumbers.{length-squares_of}
use Rattle.sketch_grounds.specs.Pins.{kept}
use Rattle.sketch_grounds.specs.declared.frozen.Pin.{Pin}
use Rattle.sketch_grounds.proofs.EachSet.{greatest-is}
use Rattle.sketch_grounds.proofs.Freezing.{fixed-frozen, shrunk-less, shrunk-more, shrunk-start}
use Rattle.sketch_grounds.proofs.frozen.greatest_frozen.Goals as goal

pub rounds-init : goal.rounds-init
rounds-init c = shrunk-start c.args.held c.args.sketch.now c.pins_of-pins.result.items c.pins_of-pins.ensures c.from_bits-set.result c.from_bits-set.ensures.squares (ap (λ (l : List Bool). length l) c.from_bits-set.ensures.squares ∙ length-squares_of 18446744073709551615)

pub returns-then-is_same-clause-frozen : goal.returns-then-is_same-clause-frozen
returns-then-is_same-clause-frozen c =
    let made : c.kept-left.result ≡ kept c.pins_of-pins.result.items c.rounds.set = c.kept-left.ensures ∙ ap (λ (ps : List Pin). kept ps c.rounds.set) c.as_slice.ensures.value in
    fixed-frozen c.args.held c.args.sketch.now c.pins_of-pins.result.items c.pins_of-pins.ensures c.rounds.set c.kept-left.result made (c.is_same.ensures.0 c.if-is_same.true)

pub returns-then-is_same-clause-value : goal.returns-then-is_same-clause-value
returns-then-is_same-clause-value c =
    let made : c.kept-left.result ≡ kept c.pins_of-pins.result.items c.rounds.set = c.kept-left.ensures ∙ ap (λ (ps : List Pin). kept ps c.rounds.set) c.as_slice.ensures.value in
    greatest-is c.args.held c.args.sketch.now c.rounds.set c.rounds.invariant.size (fixed-frozen c.args.held c.args.sketch.now c.pins_of-pins.result.items c.pins_of-pins.ensures c.rounds.set c.kept-left.result made (c.is_same.ensures.0 c.if-is_same.true)) c.rounds.invariant.holds

pub returns-then-is_same-clause-greatest : goal.returns-then-is_same-clause-greatest
returns-then-is_same-clause-greatest c = c.rounds.invariant.holds

pub rounds-smaller : goal.rounds-smaller
rounds-smaller c =
    let made : c.kept-left.result ≡ kept c.pins_of-pins.result.items c.rounds.set = c.kept-left.ensures ∙ ap (λ (ps : List Pin). kept ps c.rounds.set) c.as_slice.ensures.value in
    shrunk-less c.args.held c.args.sketch.now c.pins_of-pins.result.items c.pins_of-pins.ensures c.rounds.set c.kept-left.result made (λ same. both_ways _ c.if-is_same.false (c.is_same.ensures.1 same)) c.rounds.invariant

pub rounds-preserved : goal.rounds-preserved
rounds-preserved c =
    let made : c.kept-left.result ≡ kept c.pins_of-pins.result.items c.rounds.set = c.kept-left.ensures ∙ ap (λ (ps : List Pin). kept ps c.rounds.set) c.as_slice.ensures.value in
    shrunk-more c.args.held c.args.sketch.now c.pins_of-pins.result.items c.pins_of-pins.ensures c.rounds.set c.kept-left.result made c.rounds.invariant
