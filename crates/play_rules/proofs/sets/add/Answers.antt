use Rattle.std.proofs.Common.{◌≡◌, ◌<◌, List, Bool, true, false, length, ap, sym, ◌∙◌, arith}
use Rattle.std.proofs.lemmas.List.{get_or-set_same}
use Rattle.board_base.specs.Board.{is_in}
use Rattle.board_base.specs.SquareNumbers.{length-squares_of}
use Rattle.play_rules.proofs.Ways.{in-more}
use Rattle.play_rules.proofs.sets.add.Goals as goal

pub returns-clause-kept : goal.returns-clause-kept
returns-clause-kept c = λ t had.
    let size : length c.args.set.now ≡ 64 = ap length (sym c.bits.ensures.squares) ∙ length-squares_of c.bits.result in
    let inside : c.args.s < length c.args.set.now = omega (arith, c.index.ensures.number, c.index.ensures.on_board) in
    ap (λ (l : List Bool). is_in l t) c.with.ensures ∙ in-more c.args.set.now c.args.s t inside had

pub returns-clause-added : goal.returns-clause-added
returns-clause-added c =
    let size : length c.args.set.now ≡ 64 = ap length (sym c.bits.ensures.squares) ∙ length-squares_of c.bits.result in
    let inside : c.args.s < length c.args.set.now = omega (arith, c.index.ensures.number, c.index.ensures.on_board) in
    ap (λ (l : List Bool). is_in l c.args.s) c.with.ensures ∙ get_or-set_same c.args.set.now c.args.s true false inside
