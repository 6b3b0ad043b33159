use Rattle.std.proofs.Common.{◌≡◌, ◌-◌, ℕ, ap, subst, sym, ◌∙◌, arith}
use Rattle.figures.specs.Figures.{Figure}
use Rattle.sketch_account.specs.Account.{against}
use Rattle.sketch_account.specs.Basis.{IsAbove}
use Rattle.sketch_node.proofs.marks.is_markable.Goals as goal

pub returns : goal.returns
returns c = (
  λ h. record {
    index = c.args.number - 1;
    from_one = omega arith;
    figure = c.in-Some.figure;
    found = sym c.in-Some.ensures;
    unmarked = sym (ap (λ (f : Figure). f.marked) c.figure.view_is) ∙ c.if-figure.false;
    no_king = sym c.may_be.ensures ∙ c.if-may_be.false;
    forced = c.weigh.ensures.above.0 h;
  },
  λ it.
      let same : it.index ≡ c.args.number - 1 = omega (arith, it.from_one) in
      c.weigh.ensures.above.1 (subst (λ (n : ℕ). IsAbove c.args.scales.now (against n c.args.sketch.now)) same it.forced),
)
