use Rattle.std.proofs.Common.{◌≡◌, ◌==◌, ℕ, [], ◌∷◌, cond, length, length-append, ap, ◌∙◌, arith}
use Rattle.figures.specs.Figures.{Figure, each_changed}
use Rattle.figures.specs.Known.{known_at}
use Rattle.sketch_node.proofs.Changing.{each-end, each-next}
use Rattle.sketch_node.proofs.cases.known_at.Goals as goal

pub loop-n-preserved : goal.loop-n-preserved
loop-n-preserved c =
    let h : ℕ → Figure → Figure = λ n f. cond (n == c.args.i) (record f { kinds = c.args.kind ∷ [] }) f in
    record {
      size = omega (arith, ap length c.push.ensures, length-append c.loop-n.made (c.known_if.result ∷ []), c.loop-n.invariant.size);
      few = c.loop-n.invariant.few;
      made = each-next h c.figures-figure-items.result.now c.loop-n.n c.figure-item.result c.known_if.result c.loop-n.made c.push.new.self c.loop-n-test.true c.figure-item.is c.known_if.ensures c.loop-n.invariant.made c.push.ensures;
    }

pub returns : goal.returns
unfolding known_at
returns c =
    let h : ℕ → Figure → Figure = λ n f. cond (n == c.args.i) (record f { kinds = c.args.kind ∷ [] }) f in
    each-end h c.figures-figure-items.result.now c.loop-n.n c.loop-n.made (omega arith) c.loop-n.invariant.made ∙ ap (each_changed h 0) c.figures-figure-items.ensures.value
