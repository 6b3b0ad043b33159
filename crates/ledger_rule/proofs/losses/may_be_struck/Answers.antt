use Rattle.std.proofs.Common.{◌≡◌, ◌+◌, ◌-◌, ◌<◌, ℕ, Bool, List, ap, arith, ◌∙◌}
use Rattle.board_base.specs.Board.{is_in}
use Rattle.balance_rule.specs.Grounds.{comes_promoted}
use Rattle.balance_rule.specs.LeastWays.{seen_by}
use Rattle.ledger_rule.proofs.Told.{struck-last, struck-short}
use Rattle.ledger_rule.proofs.losses.may_be_struck.Goals as goal

pub returns-then-i-lt56 : goal.returns-then-i-lt56
returns-then-i-lt56 c = λ o p ground h way ends.
    let g = c.args.ground.now in
    c.has.ensures.member ∙ ap (is_in g.exposed) c.seen_by.ensures ∙ struck-short g.frozen g.exposed g.side ground.exposed h c.args.i way c.requires c.if-i-lt56.true ends

pub returns-else-i-lt56 : goal.returns-else-i-lt56
returns-else-i-lt56 c = λ o p ground h way ends.
    let g = c.args.ground.now in
    let f : ℕ = c.args.i - 56 in
    let low : f < 8 = omega arith in
    let back : 56 + f ≡ c.args.i = omega arith in
    c.meets.ensures ∙ struck-last g.frozen g.exposed g.side ground.exposed h c.args.i way c.promoted_at.result c.requires c.if-i-lt56.false ends
    (λ s on. ap (λ (l : List Bool). is_in l s) c.promoted_at.ensures ∙ ground.promoted f s low on ∙ ap (λ (k : ℕ). comes_promoted g.frozen g.side (seen_by g.side k) s) back)
