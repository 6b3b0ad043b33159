use Rattle.cage_rules.proofs.Gains.{dead-more, shielded-more, union-as-array, union-frozen}
use Rattle.cage_rules.proofs.laws.larger_sets_gain.Goals as goal

pub returns-clause-frozen : goal.returns-clause-frozen
returns-clause-frozen c = union-frozen

pub returns-clause-as_array : goal.returns-clause-as_array
returns-clause-as_array c = union-as-array

pub returns-clause-dead : goal.returns-clause-dead
returns-clause-dead c = dead-more

pub returns-clause-shielded : goal.returns-clause-shielded
returns-clause-shielded c = shielded-more
