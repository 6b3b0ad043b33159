use Rattle.std.proofs.Common.{◌∙◌}
use Rattle.sketch_sets.proofs.Shifting.{both-steps}
use Rattle.sketch_sets.proofs.shifts.shifted.Goals as goal

pub returns : goal.returns
returns c = λ e low. c.from_ranks.ensures e low ∙ both-steps c.args.direction c.args.set c.from_files.result e low c.from_files.ensures
