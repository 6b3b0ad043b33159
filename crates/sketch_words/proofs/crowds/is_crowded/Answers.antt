use Rattle.std.proofs.Common.{ℕ, List, Bool, ap, ◌∙◌}
use Rattle.std.specs.Prelude.{count_by, nat_lt}
use Rattle.sketch_sets.specs.Homes.{home_count}
use Rattle.sketch_words.proofs.crowds.is_crowded.Goals as goal
use Rattle.sketch_words.specs.Lodging.{lives_on}

pub returns : goal.returns
returns c =
    ap (λ (n : ℕ). nat_lt n c.lodgers-wanted.result) c.count-beds.ensures
    ∙ ap (λ (n : ℕ). nat_lt (home_count c.homes_on-homes.result) n) c.lodgers-wanted.ensures
    ∙ ap (λ (l : List Bool). nat_lt (home_count l) (count_by (lives_on c.args.first.now l) c.args.sketch.now)) c.homes_on-homes.ensures
