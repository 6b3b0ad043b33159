use Rattle.std.proofs.Common.{◌≡◌, ◌∙◌, ap, sym, refl, rules, true, false}
use Rattle.std.proofs.lemmas.Bool.{cond-true, cond-false}
use Rattle.std.specs.Prelude.{Option, Some, None}
use Rattle.board_base.specs.Board.{Places, array_of, at, same_colour}
use Rattle.board_base.specs.declared.men.Man.{Man}
use Rattle.board_base.proofs.KindsOfMen.{colour_is}
use Rattle.balance_rule.specs.Costs.{never}
use Rattle.balance_rule.specs.LeastWays.{seen_by}
use Rattle.sketch_grounds.specs.Limits.{lost}
use Rattle.sketch_account.proofs.losses.lost.Goals as goal

pub returns-in-Some-clause-value : goal.returns-in-Some-clause-value
returns-in-Some-clause-value c = λ o p R ground.
    let g = c.args.ground.now in
    let begins : at (array_of o) (seen_by g.base.side c.args.n) ≡ Some c.in-Some.first = ap (λ (b : Places). at b (seen_by g.base.side c.args.n)) (sym ground.base.first) ∙ ap (at g.base.first) (sym c.seen_by.ensures) ∙ sym c.at.ensures.man ∙ c.in-Some.is in
    let own : same_colour g.base.side c.in-Some.first.colour ≡ true = search rules in
    c.lost_as.ensures.value o p R c.in-Some.first ground begins (sym (colour_is g.base.side c.in-Some.first.colour own)) refl ∙ sym (cond-true (same_colour g.base.side c.in-Some.first.colour) _ never own)
    ∙ ap (λ (y : Option Man). lost p g.base.frozen R g.base.side y (seen_by g.base.side c.args.n)) (sym begins)

pub returns-in_default-clause-value : goal.returns-in_default-clause-value
returns-in_default-clause-value c = λ o p R ground.
    let g = c.args.ground.now in
    let begins : at (array_of o) (seen_by g.base.side c.args.n) ≡ Some c.in-Some.first = ap (λ (b : Places). at b (seen_by g.base.side c.args.n)) (sym ground.base.first) ∙ ap (at g.base.first) (sym c.seen_by.ensures) ∙ sym c.at.ensures.man ∙ c.in-Some.is in
    let own : same_colour g.base.side c.in-Some.first.colour ≡ false = search rules in
    sym (cond-false (same_colour g.base.side c.in-Some.first.colour) _ never own) ∙ ap (λ (y : Option Man). lost p g.base.frozen R g.base.side y (seen_by g.base.side c.args.n)) (sym begins)

pub returns-in_default-2-clause-value : goal.returns-in_default-2-clause-value
returns-in_default-2-clause-value c = λ o p R ground.
    let g = c.args.ground.now in
    let begins : at (array_of o) (seen_by g.base.side c.args.n) ≡ None = ap (λ (b : Places). at b (seen_by g.base.side c.args.n)) (sym ground.base.first) ∙ ap (at g.base.first) (sym c.seen_by.ensures) ∙ sym c.at.ensures.man ∙ c.in_default.is in
    ap (λ (y : Option Man). lost p g.base.frozen R g.base.side y (seen_by g.base.side c.args.n)) (sym begins)
