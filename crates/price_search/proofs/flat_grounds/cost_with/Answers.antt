use Rattle.std.proofs.Common.{◌≡◌, ◌≤◌, ℕ, List, length, take, rules, ap, sym, ◌∙◌, arith}
use Rattle.std.proofs.lemmas.List.{length-take-le}
use Rattle.std.specs.Prelude.{IsTrue}
use Rattle.std.specs.Coded.{le_prop}
use Rattle.std.proofs.Math.Logic.{∥∥₁_elim}
use Rattle.board_base.specs.Board.{array_of}
use Rattle.balance_rule.specs.Balance.{cost_table, men_on}
use Rattle.price_search.specs.FlatPrices.{flat_prices}
use Rattle.price_search.proofs.HomesCosts.{homes-above, length-cost_table}
use Rattle.price_search.proofs.flat_grounds.cost_with.Goals as goal

pub returns : goal.returns
returns c =
    let side = c.args.kept.now.side.side in
    let prices = flat_prices c.args.kept.now.payers in
    let first = array_of c.args.kept.now.odds in
    let table : List (List ℕ) = cost_table prices c.args.kept.now.side.frozen side first c.args.board.now in
    let begun : ℕ = c.args.kept.now.begun in
    let begun_is : begun ≡ men_on side first = c.args.kept.now.begun_is in
    let sixteen : length c.args.homes.now ≡ 16 = search rules in
    let homes : length (take begun c.args.homes.now) ≡ begun = length-take-le begun c.args.homes.now (omega (arith, sixteen, c.args.kept.now.few)) in
    let standing : length c.args.men.now ≡ men_on side c.args.board.now = ap (λ (l : List ℕ). length l) c.requires in
    let few : men_on side c.args.board.now ≤ men_on side first = omega (arith, c.if-men-homes.false, standing, homes, begun_is) in
    let yes : IsTrue c.are_homes.result = search rules in (
      few,
      ∥∥₁_elim c.args.kept.now.known le_prop (λ kept.
          let size : length table ≡ men_on side first = length-cost_table prices c.args.kept.now.side.frozen side first c.args.board.now few in
          homes-above table _ c.loop-i.i c.loop-i.cost (c.are_homes.ensures yes) (homes ∙ begun_is ∙ sym size) (omega (arith, c.loop-i.auto.i-end, c.loop-i-test.false)) (c.loop-i.invariant.value kept)),
    )
