use Rattle.std.proofs.Common.{◌+◌, ℕ, min, ap, ◌∙◌}
use Rattle.balance_rule.specs.Costs.{never}
use Rattle.balance_rule.specs.LeastWays.{seen_by}
use Rattle.balance_rule.proofs.Seen.{home-inside}
use Rattle.ledger_rule.proofs.Ways.{unstruck-last, unstruck-short}
use Rattle.ledger_rule.proofs.losses.unstruck_at.Goals as goal

pub returns-then-i-lt56 : goal.returns-then-i-lt56
returns-then-i-lt56 c = λ o p ground out.
    let g = c.args.ground.now in
    let h : ℕ = seen_by g.side (8 + c.args.f) in
    unstruck-short p g.frozen g.side h (home-inside g.side c.args.f c.requires.file) c.args.i _ _ c.capped_sum.result ground.known c.if-i-lt56.true (ground.reaches c.args.f _ c.requires.file out c.args.i c.requires.inside)
    (c.capped_sum.ensures ∙ ap (λ (n : ℕ). min never (96 + n)) c.fee_at.ensures)

pub returns-else-i-lt56 : goal.returns-else-i-lt56
returns-else-i-lt56 c = λ o p ground out.
    let g = c.args.ground.now in
    let h : ℕ = seen_by g.side (8 + c.args.f) in
    unstruck-last p g.frozen g.side h (home-inside g.side c.args.f c.requires.file) c.args.i _ _ c.capped_sum-else-i-lt56.result c.if-i-lt56.false c.requires.inside (ground.reaches c.args.f _ c.requires.file out c.args.i c.requires.inside)
    (c.capped_sum-else-i-lt56.ensures ∙ ap (λ (n : ℕ). min never (96 + n)) c.toll_at.ensures)
