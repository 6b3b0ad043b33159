use Rattle.std.proofs.Common.{◌==◌, Bool, cond, ℕ, ap, sym, ◌∙◌}
use Rattle.std.specs.Prelude.{Option}
use Rattle.board_base.specs.Board.{array_of, at}
use Rattle.board_base.specs.declared.men.Man.{Man}
use Rattle.balance_rule.specs.Costs.{never}
use Rattle.balance_rule.specs.LeastWays.{seen_by}
use Rattle.ledger_facts.specs.Accounts.{gone_if, lost}
use Rattle.ledger_facts.specs.declared.suppositions.Supposition.{Supposition}
use Rattle.ledger_rule.proofs.tables.gone_if.Goals as goal

pub returns-in-Began-clause-value : goal.returns-in-Began-clause-value
returns-in-Began-clause-value c = λ o p ground plain.
    let g = c.args.ground.now in
    let h : ℕ = seen_by g.side c.args.n in
    plain ∙ ap (λ (x : Supposition). gone_if x p g.frozen g.side (at (array_of o) h) h) (sym c.in-Began.is)

pub returns-in-Went-clause-value : goal.returns-in-Went-clause-value
returns-in-Went-clause-value c = λ o p ground plain.
    let g = c.args.ground.now in
    let h : ℕ = seen_by g.side c.args.n in
    plain ∙ ap (λ (x : Supposition). gone_if x p g.frozen g.side (at (array_of o) h) h) (sym c.in-Went.is)

pub returns-in-Stands-clause-value : goal.returns-in-Stands-clause-value
returns-in-Stands-clause-value c = λ o p ground plain.
    let g = c.args.ground.now in
    let h : ℕ = seen_by g.side c.args.n in
    c.unless.ensures.value ∙ ap (λ (b : Bool). cond b never c.args.plain) (c.same_square.ensures ∙ ap (λ (u : ℕ). u == c.in-Stands.k) c.seen_by-home.ensures)
    ∙ ap (λ (k : ℕ). cond (h == c.in-Stands.k) never k) plain ∙ ap (λ (x : Supposition). gone_if x p g.frozen g.side (at (array_of o) h) h) (sym c.in-Stands.is)

pub returns-in-Gone-clause-value : goal.returns-in-Gone-clause-value
returns-in-Gone-clause-value c = λ o p ground plain.
    let g = c.args.ground.now in
    let h : ℕ = seen_by g.side c.args.n in
    let first : Option Man = at (array_of o) h in
    let so : ℕ = lost c.in-Gone.promoted c.in-Gone.struck p g.frozen g.side first h in
    c.gone_so.ensures.value o p ground ∙ ap (λ (b : Bool). cond b so c.args.plain) (c.same_square-in-Gone.ensures ∙ ap (λ (u : ℕ). u == c.in-Gone.k) c.seen_by-home.ensures)
    ∙ ap (λ (k : ℕ). cond (h == c.in-Gone.k) so k) plain ∙ ap (λ (x : Supposition). gone_if x p g.frozen g.side first h) (sym c.in-Gone.is)

pub returns-in-AtMost-clause-value : goal.returns-in-AtMost-clause-value
returns-in-AtMost-clause-value c = λ o p ground plain.
    let g = c.args.ground.now in
    let h : ℕ = seen_by g.side c.args.n in
    plain ∙ ap (λ (x : Supposition). gone_if x p g.frozen g.side (at (array_of o) h) h) (sym c.in-AtMost.is)

pub returns-in-AtLeast-clause-value : goal.returns-in-AtLeast-clause-value
returns-in-AtLeast-clause-value c = λ o p ground plain.
    let g = c.args.ground.now in
    let h : ℕ = seen_by g.side c.args.n in
    plain ∙ ap (λ (x : Supposition). gone_if x p g.frozen g.side (at (array_of o) h) h) (sym c.in-AtLeast.is)
