use Rattle.unmove_gen.proofs.Spelled.{captures_spelled, promotions_spelled}
use Rattle.unmove_gen.proofs.laws.unmoves_have_texts.Goals as goal

pub returns : goal.returns
returns c = record { promotion = promotions_spelled; capture = captures_spelled }
