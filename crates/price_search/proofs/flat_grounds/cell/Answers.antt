use Rattle.std.proofs.Common.{◌≡◌, ◌<◌, ◌≤◌, ℕ, List, length, slice_index, ap, sym, subst, ◌∙◌, arith}
use Rattle.std.specs.Prelude.{Option}
use Rattle.board_base.specs.Board.{array_of, at, home_of, men_squares}
use Rattle.board_base.specs.declared.men.Man.{Man}
use Rattle.balance_rule.specs.Costs.{stands}
use Rattle.price_search.specs.FlatPrices.{flat_prices}
use Rattle.balance_rule.proofs.TrueHomes.{men-inside}
use Rattle.price_search.proofs.HomesCosts.{cost-gone, cost-standing}
use Rattle.price_search.proofs.flat_grounds.cell.Goals as goal

pub known-s-requires : goal.known-s-requires
known-s-requires c =
    let men = c.requires.men in
    let there : c.args.i < length (men_squares c.args.kept.now.side.side c.args.board.now) = omega (arith, ap (λ (l : List ℕ). length l) men, c.if-i-men.true) in
    subst (λ (l : List ℕ). slice_index l c.args.i < 64) (sym men) (men-inside c.args.kept.now.side.side c.args.board.now c.args.i there)

pub returns-then-i-men : goal.returns-then-i-men
returns-then-i-men c kept below =
    let men = c.requires.men in
    let side = c.args.kept.now.side.side in
    let prices = flat_prices c.args.kept.now.payers in
    let board = c.args.board.now in
    let first = array_of c.args.kept.now.odds in
    let there : c.args.i < length (men_squares side board) = omega (arith, ap (λ (l : List ℕ). length l) men, c.if-i-men.true) in
    let is : c.known-s.result ≡ slice_index (men_squares side board) c.args.i = c.known-s.ensures ∙ ap (λ (l : List ℕ). slice_index l c.args.i) men in
    let home = c.number_of_home-home.ensures.home in
    c.stands.ensures.value c.args.kept.now.odds prices kept.known
    ∙ ap (λ (h : ℕ). stands prices c.args.kept.now.side.frozen side (at first h) h c.at.result c.known-s.result) home
    ∙ ap (λ (m : Option Man). stands prices c.args.kept.now.side.frozen side (at first (home_of side c.args.home)) (home_of side c.args.home) m c.known-s.result) c.at.ensures.man
    ∙ ap (λ (s : ℕ). stands prices c.args.kept.now.side.frozen side (at first (home_of side c.args.home)) (home_of side c.args.home) (at board s) s) is
    ∙ sym (cost-standing prices c.args.kept.now.side.frozen side first board c.args.i c.args.home there c.requires.home)

pub returns-else-i-men : goal.returns-else-i-men
returns-else-i-men c kept below =
    let men = c.requires.men in
    let past : length (men_squares c.args.kept.now.side.side c.args.board.now) ≤ c.args.i = omega (arith, ap (λ (l : List ℕ). length l) men, c.if-i-men.false) in
    ap (λ (l : List ℕ). slice_index l c.args.home) kept.gone_is
    ∙ sym (cost-gone (flat_prices c.args.kept.now.payers) c.args.kept.now.side.frozen c.args.kept.now.side.side (array_of c.args.kept.now.odds) c.args.board.now c.args.i c.args.home past below)
