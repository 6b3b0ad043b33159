use Rattle.std.proofs.Common.{◌+◌, ◌<◌, arith, ◌∙◌}
use Rattle.balance_rule.proofs.Lost.{stands-made}
use Rattle.balance_rule.proofs.Seen.{seen-inside}
use Rattle.balance_rule.proofs.fates.pawn_stands.Goals as goal

pub returns-clause-value : goal.returns-clause-value
returns-clause-value c = λ o p ground out.
    let inside : 8 + c.args.f < 64 = omega arith in
    c.capped_sum.ensures ∙ stands-made p c.args.ground.now.frozen c.args.ground.now.side _ ground.known (seen-inside c.args.ground.now.side (8 + c.args.f) inside) c.args.kind c.args.s c.toll_to.result (c.toll_to.ensures o p ground out)
