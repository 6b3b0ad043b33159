use Rattle.std.proofs.Common.{ℕ, not, ap, ◌∙◌}
use Rattle.std.specs.Prelude.{nat_lt}
use Rattle.figures.specs.Figures.{Figure}
use Rattle.sketch_sets.specs.Homes.{home_count}
use Rattle.sketch_sets.specs.Lodging.{suffices}
use Rattle.sketch_sets.proofs.homes.suffices.Goals as goal

pub returns : goal.returns
unfolding suffices
returns c = ap (λ (n : ℕ). not (nat_lt n c.lodgers-wanted.result)) (c.count-beds.ensures ∙ ap (λ (f : Figure). home_count f.squares) c.figure.view_is) ∙ ap (λ (n : ℕ). not (nat_lt (home_count c.args.figure.now.squares) n)) c.lodgers-wanted.ensures
