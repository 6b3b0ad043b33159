use Rattle.past_account.proofs.NoZones.{room-region}
use Rattle.past_account.proofs.laws.rooms_are_regions.Goals as goal

pub returns : goal.returns
returns c = room-region
