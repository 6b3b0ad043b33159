use Rattle.std.proofs.Common.{Bool, ◌+◌, ℕ, sym, subst}
use Rattle.balance_rule.specs.LeastWays.{IsLeast, ends_on, seen_by}
use Rattle.ledger_facts.specs.Accounts.{loss_as}
use Rattle.ledger_rule.proofs.losses.loss_as.Goals as goal

pub returns-then-struck : goal.returns-then-struck
returns-then-struck c = λ o p ground out.
    let g = c.args.ground.now in
    let h : ℕ = seen_by g.side (8 + c.args.f) in
    subst (λ (b : Bool). IsLeast g.side g.frozen h (ends_on h (seen_by g.side c.args.i)) (loss_as b p g.frozen g.side h) c.loss_at.result) (sym c.if-struck.true) (c.loss_at.ensures o p ground out)

pub returns-else-struck : goal.returns-else-struck
returns-else-struck c = λ o p ground out.
    let g = c.args.ground.now in
    let h : ℕ = seen_by g.side (8 + c.args.f) in
    subst (λ (b : Bool). IsLeast g.side g.frozen h (ends_on h (seen_by g.side c.args.i)) (loss_as b p g.frozen g.side h) c.unstruck_at.result) (sym c.if-struck.false) (c.unstruck_at.ensures o p ground out)
