use Rattle.unmove_gen.proofs.Members.{list-passes}
use Rattle.retraction_bars.proofs.AreWays.{listed_way}
use Rattle.retraction_bars.proofs.laws.listed_are_ways.Goals as goal

pub returns : goal.returns
returns c = λ q u len listed. listed_way q u len (list-passes q u listed)
