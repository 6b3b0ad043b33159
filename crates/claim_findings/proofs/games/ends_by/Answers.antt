use Rattle.std.proofs.Common.{sym, ◌∙◌}
use Rattle.claim_findings.proofs.Playing.{ended}
use Rattle.claim_findings.proofs.games.ends_by.Goals as goal

pub returns : goal.returns
returns c =
    ended c.args.game.now c.args.m.now c.args.before.now c.len-number.result c.reaches.result c.len-number.ensures c.if-number-eq0.false (sym c.get.ensures ∙ c.is_move.ensures.same.0 c.if-not-is_move.false) c.reaches.ensures
