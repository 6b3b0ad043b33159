use Rattle.std.proofs.Common.{◌≡◌, ap, sym, ◌∙◌}
use Rattle.std.proofs.lemmas.Bool.{both_ways}
use Rattle.cage_rules.specs.declared.ways.Ways.{Ways}
use Rattle.cage_rules.specs.Tests.{kept, ways_of}
use Rattle.cage_rules.proofs.Greatest.{fixed-frozen, shrunk-less, shrunk-more, shrunk-start}
use Rattle.cage_rules.proofs.frozen.settled.Goals as goal

pub rounds-init : goal.rounds-init
rounds-init c = shrunk-start c.args.query.now c.args.start c.is_whole.ensures

pub returns-then-is_same-clause-frozen : goal.returns-then-is_same-clause-frozen
returns-then-is_same-clause-frozen c =
    let made : c.kept-left.result ≡ kept (ways_of c.args.query.now) c.rounds.set = c.kept-left.ensures ∙ ap (λ (w : Ways). kept w c.rounds.set) c.ways_of-ways.ensures in
    fixed-frozen c.args.query.now c.rounds.set (sym made ∙ c.is_same.ensures.0 c.if-is_same.true)

pub rounds-smaller : goal.rounds-smaller
rounds-smaller c =
    let made : c.kept-left.result ≡ kept (ways_of c.args.query.now) c.rounds.set = c.kept-left.ensures ∙ ap (λ (w : Ways). kept w c.rounds.set) c.ways_of-ways.ensures in
    shrunk-less c.args.query.now c.args.start c.rounds.set c.kept-left.result made (λ same. both_ways _ c.if-is_same.false (c.is_same.ensures.1 same)) c.rounds.invariant

pub rounds-preserved : goal.rounds-preserved
rounds-preserved c =
    let made : c.kept-left.result ≡ kept (ways_of c.args.query.now) c.rounds.set = c.kept-left.ensures ∙ ap (λ (w : Ways). kept w c.rounds.set) c.ways_of-ways.ensures in
    shrunk-more c.args.query.now c.args.start c.rounds.set c.kept-left.result made c.rounds.invariant
