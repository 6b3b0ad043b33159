use Rattle.std.proofs.Common.{◌≡◌, ap, refl, ◌∙◌}
use Rattle.board_base.specs.Board.{opponent}
use Rattle.capture_prices.specs.Prices.{takes}
use Rattle.sketch_account.proofs.Repriced.{repriced}
use Rattle.sketch_account.proofs.grounds.set_prices.Goals as goal

pub returns-clause-ground : goal.returns-clause-ground
returns-clause-ground c o p R old =
    let prices = c.args.prices.now in
    let b = c.set_prices.new.ground in
    let enemy : c.takes-enemy.result.now ≡ takes prices (opponent b.side) = c.takes-enemy.ensures.value ∙ ap (takes prices) c.other.ensures in
    let base = c.set_prices.ensures.ground o p old.base in
    repriced o p prices R c.args.ground.now _ c.set_prices.ensures.side c.set_prices.ensures.frozen refl refl refl refl refl refl base
    (c.earned_in_each-ground.ensures prices b.frozen b.side base.exposed enemy) (c.earned_in_each-ground-2.ensures prices b.frozen b.side base.exposed enemy) old
