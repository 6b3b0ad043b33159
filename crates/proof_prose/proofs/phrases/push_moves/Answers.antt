use Rattle.proof_prose.proofs.Movers.{says-moves}
use Rattle.proof_prose.proofs.phrases.push_moves.Goals as goal

pub push_one-requires : goal.push_one-requires
push_one-requires c =
    rw c.moves_sentence.ensures (says-moves c.args.query.now c.args.count c.args.first c.requires (λ none. record {
      none = none;
      pair = c.pairs_hold.ensures c.args.query.now;
      each = c.bars_hold.ensures c.args.query.now;
      all = λ u there way. c.ways_are_told.ensures c.args.query.now u none there way;
    }))
