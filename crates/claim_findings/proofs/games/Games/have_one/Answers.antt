use Rattle.std.proofs.Common.{arith}
use Rattle.query_base.specs.Reach.{Reaches}
use Rattle.claim_findings.proofs.Playing.{all_more, none_reach, one_reaches, reached, unreached}
use Rattle.claim_findings.proofs.games.Games.have_one.Goals as goal

pub returns-then-reaches : goal.returns-then-reaches
returns-then-reaches c =
    one_reaches c.as_slice-found.result.now c.args.self.now.found.items c.loop-game.game-index c.game-item.result c.args.query.now c.loop-game-test.true c.game-item.is c.as_slice-found.ensures.value
    (reached _ c.game-item.result c.len.result c.args.query.now c.len.ensures c.reaches.ensures c.if-reaches.true)

pub loop-game-preserved : goal.loop-game-preserved
loop-game-preserved c =
    all_more (λ g. Reaches g c.args.query.now → ⊥) c.as_slice-found.result.now c.loop-game.game-index c.game-item.result c.loop-game-test.true c.game-item.is c.loop-game.invariant
    (unreached _ c.game-item.result c.len.result c.args.query.now c.len.ensures c.reaches.ensures c.if-reaches.false)

pub returns : goal.returns
returns c = none_reach c.as_slice-found.result.now c.args.self.now.found.items c.loop-game.game-index c.args.query.now (omega arith) c.as_slice-found.ensures.value c.loop-game.invariant
