use Rattle.std.proofs.Common.{◌≡◌, ◌<◌, ◌≤◌, ℕ, inl, inr, length, ap, below_more, subst, sym, ◌∙◌, arith}
use Rattle.std.proofs.lemmas.Bool.{both_ways, cases_lt}
use Rattle.std.specs.Prelude.{Some}
use Rattle.figures.specs.Figures.{Sketch, figure_at}
use Rattle.sketch_node.proofs.Unknown.{known-there, none-there, read-there}
use Rattle.sketch_node.proofs.cases.first_unknown.Goals as goal
use Rattle.sketch_node.proofs.cases.first_unknown.Goals.{else-is_unknown-via-then-is_unknown+else-is_fixed_on, else-is_unknown-via-else-is_unknown}

pub returns-then-is_fixed_on : goal.returns-then-is_fixed_on
returns-then-is_fixed_on c = record {
  there = record {
    unknown = record {
      figure = c.figure-item.result;
      found = read-there c.args.sketch.now c.figures-figure-items.result.now c.loop-i.i c.figure-item.result c.figures-figure-items.ensures.value c.loop-i-test.true c.figure-item.is;
      kinds = c.is_unknown.ensures.0 c.if-is_unknown.true;
    };
    fixed = sym c.is_fixed_on.ensures ∙ c.if-is_fixed_on.true;
  };
  first = c.loop-i.invariant;
}

pub loop-i-preserved : goal.loop-i-preserved
loop-i-preserved c =
    let there : figure_at c.args.sketch.now c.loop-i.i ≡ Some c.figure-item.result = read-there c.args.sketch.now c.figures-figure-items.result.now c.loop-i.i c.figure-item.result c.figures-figure-items.ensures.value c.loop-i-test.true c.figure-item.is in
    below_more _ _ c.loop-i.invariant (elim c.else-is_unknown.branch [
      | else-is_unknown-via-then-is_unknown+else-is_fixed_on w ↦ known-there c.args.sketch.now c.args.s c.loop-i.i c.figure-item.result there (inl (sym w.is_fixed_on.ensures ∙ w.if-is_fixed_on.false))
      | else-is_unknown-via-else-is_unknown w ↦ known-there c.args.sketch.now c.args.s c.loop-i.i c.figure-item.result there (inr (λ kinds. both_ways _ w.if-is_unknown.false (c.is_unknown.ensures.1 kinds)))
    ])

pub returns : goal.returns
returns c i it = elim (cases_lt i c.loop-i.i) [
  | inl low ↦ c.loop-i.invariant i low it
  | inr past ↦
      let size : length c.figures-figure-items.result.now ≡ length c.args.sketch.now = ap (λ (T : Sketch). length T) c.figures-figure-items.ensures.value in
      none-there c.args.sketch.now c.args.s i (omega arith) it
]
