use Rattle.std.proofs.Common.{◌≡◌, false, set, sym, ap, ◌∙◌, arith}
use Rattle.std.proofs.lemmas.Bool.{both_ways, false_from_ne_true}
use Rattle.std.specs.Prelude.{None}
use Rattle.board_base.specs.Attacks.{kind_attacks}
use Rattle.board_base.specs.Board.{Places}
use Rattle.unmove_gen.specs.Ways.{may_go_alone}
use Rattle.unmove_gen.proofs.Comes.{attack-alone}
use Rattle.unmove_gen.proofs.plain_moves.attacks_past.Goals as goal

pub returns-then-not-has : goal.returns-then-not-has
returns-then-not-has c =
    let low = c.index.ensures.on_board in
    let same = c.index.ensures.number in
    let none : may_go_alone c.args.man.colour c.args.man.kind c.args.m.now.from c.args.s ≡ false = sym (c.ways_to.ensures c.args.m.now.from (omega arith)) ∙ sym c.has.ensures.member ∙ c.if-not-has.true in
    sym (false_from_ne_true _ (λ hit. both_ways _ none (attack-alone (set c.args.board.now c.args.m.now.to None) c.args.man.colour c.args.man.kind c.args.m.now.from c.args.s hit)))

pub returns : goal.returns
returns c = c.man_attacks.ensures ∙ ap (λ (b : Places). kind_attacks b c.args.man.colour c.args.man.kind c.args.m.now.from c.args.s) c.put.ensures
