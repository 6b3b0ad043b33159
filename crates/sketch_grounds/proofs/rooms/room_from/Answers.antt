use Rattle.std.proofs.Common.{◌≡◌, ◌<◌, List, Bool, true, set, ap, ◌∙◌, arith}
use Rattle.std.proofs.lemmas.Bool.{both_ways}
use Rattle.board_base.specs.Squares.{squares_of}
use Rattle.sketch_grounds.proofs.Pacing.{grown-least, grown-less, grown-more, grown-start}
use Rattle.sketch_grounds.proofs.rooms.room_from.Goals as goal

pub steps-init : goal.steps-init
steps-init c =
    let made : c.with-within.result ≡ set (squares_of 0) c.args.from true = c.with-within.ensures ∙ ap (λ (l : List Bool). set l c.args.from true) c.none.ensures in
    let inside : c.args.from < 64 = omega arith in
    grown-start c.args.wall c.args.zones.now c.args.man c.args.from c.with-within.result inside made

pub returns-then-is_same : goal.returns-then-is_same
returns-then-is_same c =
    let inside : c.args.from < 64 = omega arith in
    grown-least c.args.wall c.args.zones.now c.args.man c.args.from c.steps.within c.paced-more.result inside c.requires c.paced-more.ensures (c.is_same.ensures.0 c.if-is_same.true) c.steps.invariant

pub steps-smaller : goal.steps-smaller
steps-smaller c = grown-less c.args.wall c.args.zones.now c.args.man c.args.from c.steps.within c.paced-more.result c.paced-more.ensures (λ same. both_ways _ c.if-is_same.false (c.is_same.ensures.1 same)) c.steps.invariant

pub steps-preserved : goal.steps-preserved
steps-preserved c = grown-more c.args.wall c.args.zones.now c.args.man c.args.from c.steps.within c.paced-more.result c.requires c.paced-more.ensures c.steps.invariant
