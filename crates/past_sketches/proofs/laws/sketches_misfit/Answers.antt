use Rattle.std.proofs.lemmas.Bool.{both_ways}
use Rattle.past_sketches.proofs.Clashing.{clash-none}
use Rattle.past_sketches.proofs.Rearranged.{crowd-none}
use Rattle.past_sketches.proofs.Wanted.{array-begins}
use Rattle.past_sketches.proofs.laws.sketches_misfit.Goals as goal

pub returns-clause-clash : goal.returns-clause-clash
returns-clause-clash c o p T game clash fits = clash-none o p T game fits clash

pub returns-clause-crowd : goal.returns-clause-crowd
returns-clause-crowd c o p T side game more fits = crowd-none o p T side game fits more

pub returns-clause-array : goal.returns-clause-array
returns-clause-array c o T away fits = both_ways _ away (array-begins o T fits)
