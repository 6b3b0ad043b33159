use Rattle.std.proofs.Common.{◌≡◌, ◌==◌, ◌+◌, ℕ, Bool, [], ◌∷◌, length, length-append, ap, ◌∙◌, arith}
use Rattle.std.specs.List.{list_any}
use Rattle.figures.specs.Figures.{Figure, each_changed}
use Rattle.sketch_node.specs.Nodes.{marked_with}
use Rattle.sketch_node.proofs.Changing.{each-end, each-next}
use Rattle.sketch_node.proofs.Helping.{marked_if}
use Rattle.sketch_node.proofs.marks.with_marks.Goals as goal

pub loop-i-preserved : goal.loop-i-preserved
loop-i-preserved c =
    let h : ℕ → Figure → Figure = λ i f. marked_if (list_any (λ n. n == i + 1) c.args.numbers.now) f in
    record {
      size = omega (arith, ap length c.push.ensures, length-append c.loop-i.made (c.marked_if.result ∷ []), c.loop-i.invariant.size);
      few = c.loop-i.invariant.few;
      made = each-next h c.figures-figure-items.result.now c.loop-i.i c.figure-item.result c.marked_if.result c.loop-i.made c.push.new.self c.loop-i-test.true c.figure-item.is (c.marked_if.ensures ∙ ap (λ (b : Bool). marked_if b c.figure-item.result) c.is_named.ensures) c.loop-i.invariant.made c.push.ensures;
    }

pub returns : goal.returns
unfolding marked_with
returns c =
    let h : ℕ → Figure → Figure = λ i f. marked_if (list_any (λ n. n == i + 1) c.args.numbers.now) f in
    each-end h c.figures-figure-items.result.now c.loop-i.i c.loop-i.made (omega arith) c.loop-i.invariant.made ∙ ap (each_changed h 0) c.figures-figure-items.ensures.value
