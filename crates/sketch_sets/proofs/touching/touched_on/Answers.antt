use Rattle.std.proofs.Common.{not, ap, ◌∙◌, rules}
use Rattle.std.specs.List.{list_all}
use Rattle.figures.specs.Figures.{Figure}
use Rattle.figures.specs.Touching.{touches}
use Rattle.sketch_sets.proofs.Sets.{told-outside}
use Rattle.sketch_sets.proofs.SixKinds.{all-none}
use Rattle.sketch_sets.proofs.touching.touched_on.Goals as goal

pub returns : goal.returns
returns c = λ s low.
    told-outside c.over_kinds-left.result c.outside.result s low c.outside.ensures
    ∙ ap not (c.over_kinds-left.ensures s (λ k. not (touches c.figure.inside.colour k c.args.q s)) low (λ k set post. search rules))
    ∙ all-none c.figure.inside.kinds (λ k. touches c.figure.inside.colour k c.args.q s)
    ∙ ap (λ (f : Figure). list_all (λ k. touches f.colour k c.args.q s) f.kinds) c.figure.view_is
