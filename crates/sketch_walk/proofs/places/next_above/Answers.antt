use Rattle.std.proofs.Common.{◌<◌, ℕ, ap, sym, ◌∙◌, subst, arith}
use Rattle.std.specs.List.{list_all}
use Rattle.board_base.specs.Board.{file}
use Rattle.sketch_steps.specs.Places.{has_low_place}
use Rattle.sketch_steps.proofs.Before.{low-item}
use Rattle.sketch_list.specs.Listed.{is_under, next_above}
use Rattle.sketch_walk.proofs.Raising.{raised-end, raised-low, raised-more, raised-start}
use Rattle.sketch_walk.proofs.places.next_above.Goals as goal

pub loop-figure-init : goal.loop-figure-init
loop-figure-init c = record { low = omega arith; highest = raised-start (is_under c.args.sketch.now (file c.args.s) c.args.above) c.figures-figure-items.result.now }

pub raised-place-requires : goal.raised-place-requires
raised-place-requires c = low-item c.figures-figure-items.result.now c.loop-figure.figure-index c.figure-item.result (ap (list_all has_low_place) c.figures-figure-items.ensures.value ∙ c.requires) c.loop-figure-test.true c.figure-item.is

pub loop-figure-preserved : goal.loop-figure-preserved
loop-figure-preserved c =
    let small : c.figure-item.result.place < 127 = low-item c.figures-figure-items.result.now c.loop-figure.figure-index c.figure-item.result (ap (list_all has_low_place) c.figures-figure-items.ensures.value ∙ c.requires) c.loop-figure-test.true c.figure-item.is in
    record {
      low = subst (λ (n : ℕ). n < 128) (sym c.raised-place.ensures) (raised-low c.loop-figure.place c.figure-item.result.place c.is_under-under.result c.loop-figure.invariant.low small);
      highest = raised-more (is_under c.args.sketch.now (file c.args.s) c.args.above) c.figures-figure-items.result.now c.loop-figure.figure-index c.figure-item.result c.loop-figure.place c.raised-place.result c.is_under-under.result c.loop-figure-test.true c.figure-item.is c.is_under-under.ensures c.raised-place.ensures c.loop-figure.invariant.highest;
    }

pub returns-clause-value : goal.returns-clause-value
returns-clause-value c =
    raised-end (is_under c.args.sketch.now (file c.args.s) c.args.above) c.figures-figure-items.result.now c.loop-figure.figure-index c.loop-figure.place (omega arith) c.loop-figure.invariant.highest
    ∙ ap (next_above (is_under c.args.sketch.now (file c.args.s) c.args.above)) c.figures-figure-items.ensures.value
