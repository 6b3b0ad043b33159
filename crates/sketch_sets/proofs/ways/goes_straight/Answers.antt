use Rattle.sketch_sets.proofs.Wayside.{straight-made}
use Rattle.sketch_sets.proofs.ways.goes_straight.Goals as goal

pub returns : goal.returns
returns c = straight-made c.args.colour c.args.e c.args.s c.file.result c.file-2.result c.rank.result c.pawn_rank.result c.ranks_between.result c.is_ahead.result c.file.ensures c.file-2.ensures c.rank.ensures c.pawn_rank.ensures c.ranks_between.ensures.value c.is_ahead.ensures
