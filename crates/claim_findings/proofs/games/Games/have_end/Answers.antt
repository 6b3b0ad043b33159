use Rattle.std.proofs.Common.{arith}
use Rattle.std.proofs.lemmas.Bool.{both_ways}
use Rattle.claim_findings.specs.SearchEnds.{IsEndedBy}
use Rattle.claim_findings.proofs.Onward.{onward_ends}
use Rattle.claim_findings.proofs.Playing.{all_more, none_end, one_ends}
use Rattle.claim_findings.proofs.games.Games.have_end.Goals as goal

pub returns-then-ends_by : goal.returns-then-ends_by
returns-then-ends_by c =
    one_ends c.args.query.now c.pred-before.result c.args.u.now c.as_slice-found.result.now c.args.self.now.found.items c.loop-game.game-index c.game-item.result
    (onward_ends c.listed_moves_lead_here.ensures c.args.query.now c.pred-before.result c.args.u.now c.requires.listed c.pred-before.ensures) c.loop-game-test.true c.game-item.is c.as_slice-found.ensures.value (c.ends_by.ensures.0 c.if-ends_by.true)

pub loop-game-preserved : goal.loop-game-preserved
loop-game-preserved c =
    all_more (λ g. IsEndedBy g c.args.u.now.mv c.pred-before.result → ⊥) c.as_slice-found.result.now c.loop-game.game-index c.game-item.result c.loop-game-test.true c.game-item.is c.loop-game.invariant
    (λ end. both_ways _ c.if-ends_by.false (c.ends_by.ensures.1 end))

pub returns : goal.returns
returns c =
    none_end c.last_moves_are_listed.ensures.reached c.args.query.now c.pred-before.result c.args.u.now c.as_slice-found.result.now c.args.self.now.found.items c.loop-game.game-index c.pred-before.ensures (omega arith) c.as_slice-found.ensures.value c.loop-game.invariant
