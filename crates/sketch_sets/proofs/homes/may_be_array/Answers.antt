use Rattle.std.proofs.Common.{◌∙◌, rules}
use Rattle.sketch_sets.specs.Homes.{homes_on}
use Rattle.sketch_sets.proofs.Lodging.{array-made}
use Rattle.sketch_sets.proofs.homes.may_be_array.Goals as goal

pub returns : goal.returns
returns c = c.all_suffice.ensures ∙ array-made c.args.odds c.args.sketch.now c.array_of-first.result c.array_of-first.ensures c.with_sets.result (c.with_sets.ensures (homes_on c.array_of-first.result) (λ f set post. search rules))
