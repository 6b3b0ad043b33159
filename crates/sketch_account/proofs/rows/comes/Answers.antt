use Rattle.std.proofs.Common.{◌≡◌, ◌∙◌, ap, sym, refl, rules, true, false}
use Rattle.std.specs.Prelude.{Some, None}
use Rattle.board_base.specs.Board.{Places, array_of, at, same_colour}
use Rattle.board_base.proofs.KindsOfMen.{colour_is}
use Rattle.balance_rule.specs.LeastWays.{seen_by}
use Rattle.sketch_account.proofs.RowsMade.{comes-none, comes-other, comes-some}
use Rattle.sketch_account.proofs.rows.comes.Goals as goal

pub returns-in-Some-clause-value : goal.returns-in-Some-clause-value
returns-in-Some-clause-value c = λ o p R l ground comer.
    let g = c.args.ground.now in
    let begins : at (array_of o) (seen_by g.base.side c.args.n) ≡ Some c.in-Some.first = ap (λ (b : Places). at b (seen_by g.base.side c.args.n)) (sym ground.base.first) ∙ ap (at g.base.first) (sym c.seen_by.ensures) ∙ sym c.at.ensures.man ∙ c.in-Some.is in
    let own : same_colour g.base.side c.in-Some.first.colour ≡ true = search rules in
    comes-some p g.base.frozen R g.base.side l c.in-Some.first (at (array_of o) (seen_by g.base.side c.args.n)) (seen_by g.base.side c.args.n) c.args.x.now.figure c.cost_as.result comer.colour begins own
    (c.cost_as.ensures.value o p R l c.in-Some.first ground comer begins (sym (colour_is g.base.side c.in-Some.first.colour own)) refl)

pub returns-in_default-clause-value : goal.returns-in_default-clause-value
returns-in_default-clause-value c = λ o p R l ground comer.
    let g = c.args.ground.now in
    let begins : at (array_of o) (seen_by g.base.side c.args.n) ≡ Some c.in-Some.first = ap (λ (b : Places). at b (seen_by g.base.side c.args.n)) (sym ground.base.first) ∙ ap (at g.base.first) (sym c.seen_by.ensures) ∙ sym c.at.ensures.man ∙ c.in-Some.is in
    let own : same_colour g.base.side c.in-Some.first.colour ≡ false = search rules in
    comes-other p g.base.frozen R g.base.side l c.in-Some.first (at (array_of o) (seen_by g.base.side c.args.n)) (seen_by g.base.side c.args.n) c.args.x.now.figure comer.colour begins own

pub returns-in_default-2-clause-value : goal.returns-in_default-2-clause-value
returns-in_default-2-clause-value c = λ o p R l ground comer.
    let g = c.args.ground.now in
    let begins : at (array_of o) (seen_by g.base.side c.args.n) ≡ None = ap (λ (b : Places). at b (seen_by g.base.side c.args.n)) (sym ground.base.first) ∙ ap (at g.base.first) (sym c.seen_by.ensures) ∙ sym c.at.ensures.man ∙ c.in_default.is in
    comes-none p g.base.frozen R l (at (array_of o) (seen_by g.base.side c.args.n)) (seen_by g.base.side c.args.n) c.args.x.now.figure begins
