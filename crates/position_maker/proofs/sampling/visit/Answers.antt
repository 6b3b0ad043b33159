use Rattle.board_base.specs.Board.{no_odds}
use Rattle.position_maker.proofs.Found.{stepped_to, seen}
use Rattle.position_maker.proofs.sampling.visit.Goals as goal

pub returns-then-not-is_unmove-clause-counted : goal.returns-then-not-is_unmove-clause-counted
returns-then-not-is_unmove-clause-counted c g game stands =
    let next = stepped_to _ _ _ _ c.unwrap-next.ensures (c.step.ensures.in_games no_odds g game stands) in
    absurd (seen g c.args.m.now _ _ _ next.0 (c.query_after-query.ensures g next.1) (c.unmove_after.ensures g game stands) c.is_unmove.ensures c.if-not-is_unmove.true)

pub returns-then-not-is_unmove-clause-here : goal.returns-then-not-is_unmove-clause-here
returns-then-not-is_unmove-clause-here c g game stands = stepped_to _ _ _ _ c.unwrap-next.ensures (c.step.ensures.in_games no_odds g game stands)

pub returns-else-not-is_unmove-clause-here : goal.returns-else-not-is_unmove-clause-here
returns-else-not-is_unmove-clause-here c g game stands = stepped_to _ _ _ _ c.unwrap-next.ensures (c.step.ensures.in_games no_odds g game stands)
