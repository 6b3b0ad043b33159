use Rattle.std.proofs.Common.{◌≡◌, ◌+◌, List, Bool, cond, ap, sym, ◌∙◌, arith, subst}
use Rattle.std.specs.Prelude.{None, slice_set}
use Rattle.board_base.specs.Board.{Places, array_of, at, is_in}
use Rattle.board_base.proofs.LeftOut.{LeftOut, left-all, left-one, left-start}
use Rattle.board_base.proofs.odds.array_of.Goals as goal

pub loop-i-init : goal.loop-i-init
loop-i-init c = left-start c.set-set.result c.array-board.result c.array-board.ensures

pub loop-i-preserved : goal.loop-i-preserved
loop-i-preserved c =
    let o : List Bool = c.set-set.result in
    let made : slice_set c.loop-i.board c.loop-i.i (cond (is_in o c.loop-i.i) None (at c.loop-i.board c.loop-i.i)) ≡ c.put.new.self = cc in
    subst (λ (b : Places). LeftOut o b (c.loop-i.i + 1)) made (left-one o c.loop-i.board c.loop-i.i c.loop-i-test.true c.loop-i.invariant)

pub returns : goal.returns
returns c = left-all c.set-set.result c.loop-i.board c.loop-i.i (omega arith) c.loop-i.invariant ∙ ap array_of c.set-set.ensures.value

pub returns-then-is_none : goal.returns-then-is_none
returns-then-is_none c = c.array.ensures ∙ ap array_of (sym (c.is_none.ensures.0 c.if-is_none.true))
