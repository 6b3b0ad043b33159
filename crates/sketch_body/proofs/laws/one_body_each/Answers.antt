use Rattle.sketch_body.proofs.Readings.{body_one, texts_one}
use Rattle.sketch_body.proofs.laws.one_body_each.Goals as goal

pub returns-clause-body : goal.returns-clause-body
returns-clause-body c = body_one

pub returns-clause-texts : goal.returns-clause-texts
returns-clause-texts c = texts_one
