use Rattle.std.proofs.Common.{◌≡◌, ◌+◌, ◌&&◌, ◌||◌, ◌∙◌, ℕ, List, Bool, true, false, length, set, take, ap, sym}
use Rattle.std.proofs.lemmas.List.{length-set, take_all}
use Rattle.std.proofs.lemmas.List.Folds.{list_any_more}
use Rattle.std.specs.List.{list_any}
use Rattle.board_base.specs.Board.{is_in}
use Rattle.board_base.specs.SquareNumbers.{length-squares_of}
use Rattle.cage_rules.proofs.Filling.{none-in-zero}
use Rattle.sketch_grounds.specs.Pins.{covers, stays}
use Rattle.sketch_grounds.specs.declared.frozen.Pin.{Pin}
use Rattle.sketch_grounds.proofs.Freezing.{kept-end, stays-in, stays-out}
use Rattle.sketch_grounds.proofs.frozen.kept.Goals as goal
use Rattle.sketch_grounds.proofs.frozen.kept.Goals.{then-stays, else-stays}

pub loop-pin-init : goal.loop-pin-init
loop-pin-init c = record {
  size = ap (λ (l : List Bool). length l) c.none-left.ensures ∙ length-squares_of 0;
  each = λ s inside. ap (λ (l : List Bool). is_in l s) c.none-left.ensures ∙ none-in-zero s;
}

pub loop-pin-preserved : goal.loop-pin-preserved
loop-pin-preserved c =
    let pin : Pin = c.pin-item.result in
    let more : (s : ℕ) → list_any (stays c.args.set s) (take (c.loop-pin.pin-index + 1) c.args.pins.now) ≡ (list_any (stays c.args.set s) (take c.loop-pin.pin-index c.args.pins.now) || stays c.args.set s pin) =
    λ s. list_any_more (stays c.args.set s) c.args.pins.now c.loop-pin.pin-index pin c.loop-pin-test.true ∙ ap (λ (p : Pin). list_any (stays c.args.set s) (take c.loop-pin.pin-index c.args.pins.now) || stays c.args.set s p) (sym c.pin-item.is) in
    elim c.if-stays.branch [
      | then-stays w ↦
          let on : (is_in c.args.set pin.square && (pin.held || covers c.args.set pin.entries)) ≡ true = sym c.stays.ensures ∙ w.if-stays.true in
          let made : c.if-stays.left ≡ set c.loop-pin.left pin.square true = w.left-is ∙ w.with-left.ensures in
          record {
            size = ap (λ (l : List Bool). length l) made ∙ length-set c.loop-pin.left pin.square true ∙ c.loop-pin.invariant.size;
            each = λ s inside. stays-in c.args.set c.loop-pin.left c.if-stays.left s pin _ c.is_whole.ensures c.loop-pin.invariant.size on made (c.loop-pin.invariant.each s inside) ∙ sym (more s);
          }
      | else-stays w ↦
          let off : (is_in c.args.set pin.square && (pin.held || covers c.args.set pin.entries)) ≡ false = sym c.stays.ensures ∙ w.if-stays.false in
          record {
            size = ap (λ (l : List Bool). length l) w.left-is ∙ c.loop-pin.invariant.size;
            each = λ s inside. stays-out c.args.set c.loop-pin.left c.if-stays.left s pin _ off w.left-is (c.loop-pin.invariant.each s inside) ∙ sym (more s);
          }
    ]

pub returns : goal.returns
returns c = kept-end c.args.pins.now c.args.set c.loop-pin.left c.loop-pin.invariant.size (λ s inside. c.loop-pin.invariant.each s inside ∙ ap (list_any (stays c.args.set s)) (take_all c.loop-pin.pin-index c.args.pins.now c.loop-pin-test.false))
