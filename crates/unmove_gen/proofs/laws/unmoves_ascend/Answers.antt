use Rattle.unmove_gen.proofs.Order.{unmoves_ascend}
use Rattle.unmove_gen.proofs.laws.unmoves_ascend.Goals as goal

pub returns : goal.returns
returns c = unmoves_ascend
