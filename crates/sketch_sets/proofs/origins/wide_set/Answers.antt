use Rattle.std.proofs.Common.{List, Bool, ap, ◌∙◌, rules}
use Rattle.std.specs.List.{list_any}
use Rattle.figures.specs.Sets.{union}
use Rattle.figures.specs.Figures.{Figure}
use Rattle.sketch_sets.specs.Remade.{set_of}
use Rattle.sketch_sets.specs.Wide.{from_on}
use Rattle.sketch_sets.proofs.Widening.{wide-made}
use Rattle.sketch_sets.proofs.origins.wide_set.Goals as goal

pub returns : goal.returns
returns c = wide-made c.args.ground.now c.args.exact.now c.args.sketch.now c.args.figure c.over_kinds-origins.result c.either.result (c.either.ensures ∙ ap (λ (l : List Bool). union l c.over_kinds-origins.result) (ap set_of c.figure.view_is)) (λ e low out.
    c.over_kinds-origins.ensures e (from_on c.args.ground.now c.args.exact.now c.args.sketch.now c.args.figure e) low (λ k set post. search rules)
    ∙ ap (λ (f : Figure). list_any (from_on c.args.ground.now c.args.exact.now c.args.sketch.now c.args.figure e) f.kinds) c.figure.view_is)
