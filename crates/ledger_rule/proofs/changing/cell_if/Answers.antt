use Rattle.std.proofs.Common.{◌≡◌, ◌<◌, ◌≤◌, ℕ, Bool, List, length, slice_index, ap, sym, subst, ◌∙◌, arith}
use Rattle.std.specs.Prelude.{Option}
use Rattle.board_base.specs.Board.{array_of, at, home_of, men_squares}
use Rattle.board_base.specs.declared.men.Colour.{Colour}
use Rattle.board_base.specs.declared.men.Man.{Man}
use Rattle.balance_rule.specs.LeastWays.{seen_by}
use Rattle.ledger_facts.specs.Accounts.{gone_if, stands_if}
use Rattle.balance_rule.proofs.TrueHomes.{men-inside}
use Rattle.ledger_rule.proofs.TableCells.{cell-gone, cell-standing}
use Rattle.balance_rule.specs.Costs.{gone}
use Rattle.ledger_rule.proofs.Touching.{begun, plain-gone}
use Rattle.ledger_rule.proofs.changing.cell_if.Goals as goal

pub known-s-requires : goal.known-s-requires
known-s-requires c =
    let is = c.requires.known.is in
    let men = c.as_slice-men.ensures.value ∙ is.men in
    let there : c.args.r < length (men_squares c.requires.known.side c.args.board.now) = omega (arith, ap (λ (l : List ℕ). length l) men, c.if-r-men.true) in
    subst (λ (l : List ℕ). slice_index l c.args.r < 64) (sym men) (men-inside c.requires.known.side c.args.board.now c.args.r there)

pub returns-then-r-men : goal.returns-then-r-men
returns-then-r-men c = λ o p set side is.
    let men = c.as_slice-men.ensures.value ∙ is.men in
    let board = c.args.board.now in
    let x = c.args.supposition.now in
    let there : c.args.r < length (men_squares side board) = omega (arith, ap (λ (l : List ℕ). length l) men, c.if-r-men.true) in
    let square : c.known-s.result ≡ slice_index (men_squares side board) c.args.r = c.known-s.ensures ∙ ap (λ (l : List ℕ). slice_index l c.args.r) men in
    let ground = c.args.side.now.ground in
    c.stands_if.ensures.value o p is.ground
    ∙ ap (λ (h : ℕ). stands_if x p ground.frozen ground.side (at (array_of o) h) h c.at.result c.known-s.result) c.number_of_home-n.ensures.home
    ∙ ap (λ (m : Option Man). stands_if x p ground.frozen ground.side (at (array_of o) (home_of ground.side c.args.j)) (home_of ground.side c.args.j) m c.known-s.result) c.at.ensures.man
    ∙ ap (λ (s : ℕ). stands_if x p ground.frozen ground.side (at (array_of o) (home_of ground.side c.args.j)) (home_of ground.side c.args.j) (at board s) s) square
    ∙ ap (λ (d : Colour). stands_if x p ground.frozen d (at (array_of o) (home_of d c.args.j)) (home_of d c.args.j) (at board (slice_index (men_squares side board) c.args.r)) (slice_index (men_squares side board) c.args.r)) is.side
    ∙ ap (λ (l : List Bool). stands_if x p l side (at (array_of o) (home_of side c.args.j)) (home_of side c.args.j) (at board (slice_index (men_squares side board) c.args.r)) (slice_index (men_squares side board) c.args.r)) is.beside
    ∙ sym (cell-standing x p set side (array_of o) board c.args.r c.args.j there c.requires.column)

pub returns-else-r-men : goal.returns-else-r-men
returns-else-r-men c = λ o p set side is.
    let men = c.as_slice-men.ensures.value in
    let x = c.args.supposition.now in
    let ground = c.args.side.now.ground in
    let j = c.args.j in
    let past : length (c.args.side.now.men.items) ≤ c.args.r = omega (arith, ap (λ (l : List ℕ). length l) men, c.if-r-men.false) in
    let many = begun o c.args.board.now p set side c.args.side.now c.args.table.now is c.requires.table x in
    let home : seen_by ground.side c.number_of_home-n.result ≡ home_of side j = c.number_of_home-n.ensures.home ∙ ap (λ (d : Colour). home_of d j) is.side in
    let cost = plain-gone o c.args.board.now p set side c.args.side.now c.args.table.now is c.requires.table x c.args.r j c.requires.row past c.requires.column in
    let plain = cost ∙ ap (λ (h : ℕ). gone p set side (at (array_of o) h) h) (sym home)
    ∙ ap (λ (d : Colour). gone p set d (at (array_of o) (seen_by ground.side c.number_of_home-n.result)) (seen_by ground.side c.number_of_home-n.result)) (sym is.side)
    ∙ ap (λ (l : List Bool). gone p l ground.side (at (array_of o) (seen_by ground.side c.number_of_home-n.result)) (seen_by ground.side c.number_of_home-n.result)) (sym is.beside) in
    c.gone_if.ensures.value o p is.ground plain
    ∙ ap (λ (l : List Bool). gone_if x p l ground.side (at (array_of o) (seen_by ground.side c.number_of_home-n.result)) (seen_by ground.side c.number_of_home-n.result)) is.beside
    ∙ ap (λ (d : Colour). gone_if x p set d (at (array_of o) (seen_by ground.side c.number_of_home-n.result)) (seen_by ground.side c.number_of_home-n.result)) is.side
    ∙ ap (λ (h : ℕ). gone_if x p set side (at (array_of o) h) h) home
    ∙ sym (cell-gone x p set side (array_of o) c.args.board.now c.args.r j (omega (arith, past, ap (λ (l : List ℕ). length l) is.men)) (omega (arith, many, c.requires.row)) c.requires.column)
