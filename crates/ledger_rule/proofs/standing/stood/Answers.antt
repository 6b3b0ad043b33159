use Rattle.std.proofs.Common.{◌==◌, Bool, ◌&&◌, not, cond, ℕ, ap, ◌∙◌}
use Rattle.std.specs.Bool.{beq}
use Rattle.balance_rule.specs.Costs.{never}
use Rattle.balance_rule.specs.LeastWays.{seen_by}
use Rattle.ledger_rule.proofs.standing.stood.Goals as goal

pub returns-clause-value : goal.returns-clause-value
returns-clause-value c = λ o p ground.
    c.unless.ensures.value
    ∙ ap (λ (b : Bool). cond (b && not c.agrees-so.result) never c.args.plain) (c.same_square-here.ensures ∙ ap (λ (u : ℕ). u == c.args.k) c.seen_by.ensures)
    ∙ ap (λ (b : Bool). cond ((seen_by c.args.ground.now.side c.args.n == c.args.k) && not b) never c.args.plain) (c.agrees-so.ensures ∙ ap (beq c.args.promoted) (c.has_become.ensures o p ground))
