use Rattle.std.proofs.Common.{◌≡◌, ◌+◌, ap, ◌∙◌, subst, arith}
use Rattle.board_base.specs.Board.{at}
use Rattle.query_base.specs.Asked.{Asked}
use Rattle.cage_rules.specs.declared.ways.Ways.{Ways}
use Rattle.cage_rules.specs.Frozen.{is_held_home}
use Rattle.cage_rules.specs.Sets.{squares_that}
use Rattle.cage_rules.specs.Tests.{with_place}
use Rattle.cage_rules.proofs.Sorting.{Sorted, sorted-end, sorted-more, sorted-start}
use Rattle.cage_rules.proofs.ways.ways_of.Goals as goal

pub loop-i-init : goal.loop-i-init
loop-i-init c = sorted-start c.args.query.now c.from_bits-none.result c.held_homes.result c.from_bits-none.ensures.squares (c.held_homes.ensures ∙ ap (λ (q : Asked). squares_that (is_held_home q.held)) c.query.view_is)

pub loop-i-preserved : goal.loop-i-preserved
loop-i-preserved c =
    let e : with_place c.loop-i.ways c.loop-i.i c.at.result ≡ c.with_place-ways.result = cc in
    let here : at c.args.query.now.board c.loop-i.i ≡ c.at.result = cc in
    subst (λ (w : Ways). Sorted c.args.query.now w (c.loop-i.i + 1)) e (sorted-more c.args.query.now c.loop-i.ways c.loop-i.i c.at.result c.loop-i-test.true here c.loop-i.invariant)

pub returns : goal.returns
returns c = sorted-end c.args.query.now c.loop-i.ways c.loop-i.i (omega arith) c.loop-i.invariant
