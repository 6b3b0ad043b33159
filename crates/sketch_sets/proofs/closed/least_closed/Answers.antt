use Rattle.std.proofs.lemmas.Bool.{both_ways}
use Rattle.sketch_sets.proofs.Closing.{gap-less, way-end, way-least, way-next, way-start, widened-length, widened-same}
use Rattle.sketch_sets.proofs.closed.least_closed.Goals as goal

pub rounds-init : goal.rounds-init
rounds-init c = way-start c.args.held c.args.exact.now c.args.sketch.now c.widened-wide.result c.are_whole.ensures c.widened-wide.ensures

pub rounds-preserved : goal.rounds-preserved
rounds-preserved c = way-next c.args.held c.args.exact.now c.args.sketch.now c.rounds.wide c.widened-more.result c.widened-more.ensures c.rounds.invariant

pub rounds-smaller : goal.rounds-smaller
rounds-smaller c = gap-less c.args.held c.args.exact.now c.rounds.wide c.widened-more.result c.rounds.invariant.whole c.widened-more.ensures (λ same. both_ways _ c.if-has_same_sets.false (c.has_same_sets.ensures.1 same))

pub has_same_sets-requires : goal.has_same_sets-requires
has_same_sets-requires c = widened-length c.args.held c.args.exact.now c.rounds.wide c.widened-more.result c.rounds.invariant.whole c.widened-more.ensures

pub returns-then-has_same_sets-clause-closed : goal.returns-then-has_same_sets-clause-closed
returns-then-has_same_sets-clause-closed c = way-end c.args.held c.args.exact.now c.args.sketch.now c.rounds.wide c.rounds.invariant (widened-same c.args.held c.args.exact.now c.rounds.wide c.widened-more.result c.rounds.invariant.whole c.widened-more.ensures (c.has_same_sets.ensures.0 c.if-has_same_sets.true))

pub returns-then-has_same_sets-clause-least : goal.returns-then-has_same_sets-clause-least
returns-then-has_same_sets-clause-least c = way-least c.args.held c.args.exact.now c.args.sketch.now c.rounds.wide c.rounds.invariant
