use Rattle.std.proofs.Common.{ℕ, ◌==◌, ◌&&◌, ap, ◌∙◌}
use Rattle.std.specs.Prelude.{nat_lt}
use Rattle.sketch_sets.specs.Homes.{home_count, homes_on}
use Rattle.sketch_sets.specs.Remade.{set_of}
use Rattle.sketch_words.proofs.crowds.is_homeless.Goals as goal

pub returns : goal.returns
returns c =
    ap (λ (n : ℕ). (n == 0) && nat_lt c.count-seats.result c.args.below) (c.count-beds.ensures ∙ ap home_count (c.homes_on-homes.ensures ∙ ap (homes_on c.args.first.now) c.figure.view_is))
    ∙ ap (λ (n : ℕ). (home_count (homes_on c.args.first.now c.args.figure.now) == 0) && nat_lt n c.args.below) (c.count-seats.ensures ∙ ap home_count (ap set_of c.figure.view_is))
