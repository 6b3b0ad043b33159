use Rattle.std.proofs.lemmas.Result.{err_from_is_err_and}
use Rattle.fen_text.proofs.PlacementLemmas.{last_fault, placed_last, rank_fault, ranks_short, below_fault, placed_more, rank_length}
use Rattle.fen_text.proofs.placements.+read_ranks.Goals as goal

pub returns-in_err-places : goal.returns-in_err-places
returns-in_err-places t c =
    let p = err_from_is_err_and c.from_residual.result c.from_residual.ensures.1 in
    rw (p.1, p.2) (last_fault c.args.rank c.args.text.now _ c.if-rank-eq0.true c.in_err-places.ensures)

pub returns-then-rank-eq0 : goal.returns-then-rank-eq0
returns-then-rank-eq0 t c = placed_last c.args.rank c.args.text.now c.in_ok-places.places c.args.board.now c.put_rank.new.board c.if-rank-eq0.true c.in_ok-places.ensures c.put_rank.ensures

pub put_rank-requires-clause-width : goal.put_rank-requires-clause-width
put_rank-requires-clause-width t c = rank_length c.args.text.now c.in_ok-places.places c.in_ok-places.ensures

pub put_rank-requires-2-clause-width : goal.put_rank-requires-2-clause-width
put_rank-requires-2-clause-width t c = rank_length c.split_part.result.0.now c.in_ok-places-2.places c.in_ok-places-2.ensures

pub returns-in_err-places-2 : goal.returns-in_err-places-2
returns-in_err-places-2 t c =
    let p = err_from_is_err_and c.from_residual-in_err-places-2.result c.from_residual-in_err-places-2.ensures.1 in
    rw (p.1, p.2) (rank_fault c.args.rank c.args.text.now c.split_part.result.0.now _ c.if-rank-eq0.false c.split_part.ensures.part c.in_err-places-2.ensures)

pub returns-in_default : goal.returns-in_default
returns-in_default t c = ranks_short c.args.rank c.args.text.now c.split_part.result.0.now c.in_ok-places-2.places c.if-rank-eq0.false c.split_part.ensures.part.free (rw c.in_default.is at c.split_part.ensures.rest) c.in_ok-places-2.ensures

pub returns-in-Ok : goal.returns-in-Ok
returns-in-Ok t c =
    placed_more c.args.rank c.args.text.now c.split_part.result.0.now c.in-Some.rest.now c.in_ok-places-2.places c.args.board.now c.put_rank-2.new.board c.read_ranks.new.board c.if-rank-eq0.false c.requires.in_range c.requires.size c.split_part.ensures.part.free (rw c.in-Some.is at c.split_part.ensures.rest) c.in_ok-places-2.ensures c.put_rank-2.ensures c.in-Ok.ensures

pub returns-in-Err : goal.returns-in-Err
returns-in-Err t c =
    below_fault c.args.rank c.args.text.now c.split_part.result.0.now c.in-Some.rest.now c.in_ok-places-2.places c.in-Err.at c.if-rank-eq0.false c.split_part.ensures.part.free (rw c.in-Some.is at c.split_part.ensures.rest) c.in_ok-places-2.ensures c.in-Err.ensures
