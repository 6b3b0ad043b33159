use Rattle.std.proofs.Common.{◌==◌, Bool, ◌&&◌, not, cond, ℕ, ap, sym, ◌∙◌}
use Rattle.std.specs.Prelude.{Option}
use Rattle.std.specs.Bool.{beq}
use Rattle.board_base.specs.Board.{array_of, at, is_in}
use Rattle.board_base.specs.declared.men.Man.{Man}
use Rattle.balance_rule.specs.Costs.{never, stands}
use Rattle.balance_rule.specs.LeastWays.{seen_by}
use Rattle.ledger_facts.specs.Accounts.{goes, has_become, stands_if}
use Rattle.ledger_facts.specs.declared.suppositions.Supposition.{Supposition}
use Rattle.ledger_rule.proofs.standing.stands_if.Goals as goal

pub returns-in-Began-clause-value : goal.returns-in-Began-clause-value
returns-in-Began-clause-value c = λ o p ground.
    let g = c.args.ground.now in
    let h : ℕ = seen_by g.side c.args.n in
    c.began.ensures.value ∙ ap (λ (b : Bool). cond (b && not (is_in c.in-Began.homes h)) never c.stands-plain.result) c.same_square.ensures
    ∙ ap (λ (k : ℕ). cond ((c.args.s == c.in-Began.t) && not (is_in c.in-Began.homes h)) never k) (c.stands-plain.ensures.value o p ground)
    ∙ ap (λ (x : Supposition). stands_if x p g.frozen g.side (at (array_of o) h) h c.args.place c.args.s) (sym c.in-Began.is)

pub returns-in-Went-clause-value : goal.returns-in-Went-clause-value
returns-in-Went-clause-value c = λ o p ground.
    let g = c.args.ground.now in
    let h : ℕ = seen_by g.side c.args.n in
    let first : Option Man = at (array_of o) h in
    c.went.ensures.value o p ground ∙ ap (λ (b : Bool). cond b (goes c.in-Went.straight p g.frozen g.side first h c.args.place c.args.s) (stands p g.frozen g.side first h c.args.place c.args.s)) c.same_square-in-Went.ensures
    ∙ ap (λ (x : Supposition). stands_if x p g.frozen g.side first h c.args.place c.args.s) (sym c.in-Went.is)

pub returns-in-Stands-clause-value : goal.returns-in-Stands-clause-value
returns-in-Stands-clause-value c = λ o p ground.
    let g = c.args.ground.now in
    let h : ℕ = seen_by g.side c.args.n in
    let first : Option Man = at (array_of o) h in
    c.stood.ensures.value o p ground ∙ ap (λ (k : ℕ). cond ((h == c.in-Stands.k) && not (beq c.in-Stands.promoted (has_become first c.args.place))) never k) (c.stands-plain.ensures.value o p ground)
    ∙ ap (λ (x : Supposition). stands_if x p g.frozen g.side first h c.args.place c.args.s) (sym c.in-Stands.is)

pub returns-in-Gone-clause-value : goal.returns-in-Gone-clause-value
returns-in-Gone-clause-value c = λ o p ground.
    let g = c.args.ground.now in
    let h : ℕ = seen_by g.side c.args.n in
    c.unless.ensures.value ∙ ap (λ (b : Bool). cond b never c.stands-plain.result) (c.same_square-in-Gone.ensures ∙ ap (λ (u : ℕ). u == c.in-Gone.k) c.seen_by.ensures)
    ∙ ap (λ (k : ℕ). cond (h == c.in-Gone.k) never k) (c.stands-plain.ensures.value o p ground)
    ∙ ap (λ (x : Supposition). stands_if x p g.frozen g.side (at (array_of o) h) h c.args.place c.args.s) (sym c.in-Gone.is)

pub returns-in-AtMost-clause-value : goal.returns-in-AtMost-clause-value
returns-in-AtMost-clause-value c = λ o p ground.
    let g = c.args.ground.now in
    let h : ℕ = seen_by g.side c.args.n in
    c.stands-plain.ensures.value o p ground ∙ ap (λ (x : Supposition). stands_if x p g.frozen g.side (at (array_of o) h) h c.args.place c.args.s) (sym c.in-AtMost.is)

pub returns-in-AtLeast-clause-value : goal.returns-in-AtLeast-clause-value
returns-in-AtLeast-clause-value c = λ o p ground.
    let g = c.args.ground.now in
    let h : ℕ = seen_by g.side c.args.n in
    c.stands-plain.ensures.value o p ground ∙ ap (λ (x : Supposition). stands_if x p g.frozen g.side (at (array_of o) h) h c.args.place c.args.s) (sym c.in-AtLeast.is)
