use Rattle.std.proofs.Common.{◌≡◌, ◌<◌, ◌≤◌, ℕ, List, true, length, take, refl, subst, arith}
use Rattle.std.proofs.lemmas.List.{take_all}
use Rattle.std.proofs.lemmas.List.Elements.{All-more}
use Rattle.std.specs.List.{All}
use Rattle.sketch_node.specs.Nodes.{IsMarkableOn}
use Rattle.sketch_node.proofs.marks.are_markable.Goals as goal

pub loop-number-preserved : goal.loop-number-preserved
loop-number-preserved c =
    let answer : c.is_markable.result ≡ true = cc in
    All-more (λ n. IsMarkableOn c.args.scales.now c.args.sketch.now n) c.args.numbers.now c.loop-number.number-index 0 c.loop-number-test.true c.loop-number.invariant (c.is_markable.ensures.0 answer)

pub returns : goal.returns
returns c = (
  λ _. subst (All (λ n. IsMarkableOn c.args.scales.now c.args.sketch.now n)) (take_all c.loop-number.number-index c.args.numbers.now (omega arith)) c.loop-number.invariant,
  λ _. refl,
)
