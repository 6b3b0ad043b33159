use Rattle.std.proofs.Common.{◌≡◌, rules, true, ap, sym, ◌∙◌}
use Rattle.std.specs.Prelude.{Some}
use Rattle.board_base.specs.Board.{Places, array_of, at, same_colour}
use Rattle.balance_rule.specs.LeastWays.{seen_by}
use Rattle.ledger_rule.proofs.Told.{goes-told}
use Rattle.ledger_rule.proofs.standing.goes.Goals as goal

pub returns-in-Some-clause-value : goal.returns-in-Some-clause-value
returns-in-Some-clause-value c = λ o p ground.
    let begins : at (array_of o) (seen_by c.args.ground.now.side c.args.n) ≡ Some c.in-Some.first = ap (λ (b : Places). at b (seen_by c.args.ground.now.side c.args.n)) (sym ground.first) ∙ ap (at c.args.ground.now.first) (sym c.seen_by.ensures) ∙ sym c.at.ensures.man ∙ c.in-Some.is in
    let same : same_colour c.args.ground.now.side c.in-Some.first.colour ≡ true = search rules in
    goes-told o p c.args.ground.now.frozen c.args.ground.now.side c.args.straight c.args.n c.args.s c.goes_as.result c.in-Some.first c.args.place c.requires begins same (c.goes_as.ensures.value o p ground)
