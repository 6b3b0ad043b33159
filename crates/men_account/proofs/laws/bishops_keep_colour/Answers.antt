use Rattle.men_account.proofs.Bishops.{bishops-keep}
use Rattle.men_account.proofs.laws.bishops_keep_colour.Goals as goal

pub returns : goal.returns
returns c = bishops-keep
