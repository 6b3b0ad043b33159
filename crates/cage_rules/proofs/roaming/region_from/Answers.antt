use Rattle.std.proofs.Common.{◌≡◌, ◌<◌, List, Bool, true, set, ap, ◌∙◌, arith}
use Rattle.std.proofs.lemmas.Bool.{both_ways}
use Rattle.std.specs.Prelude.{Some}
use Rattle.board_base.specs.Squares.{squares_of}
use Rattle.cage_rules.proofs.Regions.{only-region}
use Rattle.cage_rules.proofs.Spread.{grown-least, grown-less, grown-more, grown-start}
use Rattle.cage_rules.proofs.roaming.region_from.Goals as goal

pub steps-init : goal.steps-init
steps-init c =
    let made : c.with-within.result ≡ set (squares_of 0) c.args.from true = c.with-within.ensures ∙ ap (λ (l : List Bool). set l c.args.from true) c.from_bits.ensures.squares in
    let inside : c.args.from < 64 = omega arith in
    grown-start c.args.frozen c.args.man c.args.from c.with-within.result inside made

pub returns-then-is_same-clause-least : goal.returns-then-is_same-clause-least
returns-then-is_same-clause-least c = grown-least c.args.frozen c.args.man c.args.from c.steps.within c.spread-more.result c.requires c.spread-more.ensures (c.is_same.ensures.0 c.if-is_same.true) c.steps.invariant

pub returns-then-is_same-clause-squares : goal.returns-then-is_same-clause-squares
returns-then-is_same-clause-squares c =
    let inside : c.args.from < 64 = omega arith in
    only-region c.args.frozen (Some c.args.man) c.args.from c.steps.within inside (returns-then-is_same-clause-least c)

pub steps-smaller : goal.steps-smaller
steps-smaller c = grown-less c.args.frozen c.args.man c.args.from c.steps.within c.spread-more.result c.spread-more.ensures (λ same. both_ways _ c.if-is_same.false (c.is_same.ensures.1 same)) c.steps.invariant

pub steps-preserved : goal.steps-preserved
steps-preserved c = grown-more c.args.frozen c.args.man c.args.from c.steps.within c.spread-more.result c.requires c.spread-more.ensures c.steps.invariant
