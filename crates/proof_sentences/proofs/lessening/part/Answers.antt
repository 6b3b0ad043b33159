use Rattle.proof_sentences.proofs.Parts.{part-of}
use Rattle.proof_sentences.proofs.lessening.part.Goals as goal

pub returns : goal.returns
returns c =
    part-of c.args.query.now c.args.set c.greatest_frozen-part.result c.is_whole.ensures c.is_whole-2.ensures
    (rw c.kept_query.ensures at c.greatest_frozen-part.ensures.frozen)
    (rw c.kept_query.ensures at c.greatest_frozen-part.ensures.greatest)
