use Rattle.std.proofs.Common.{◌≡◌, ap, sym, ◌∙◌}
use Rattle.cage_rules.specs.declared.ways.Ways.{Ways}
use Rattle.cage_rules.specs.Tests.{kept, ways_of}
use Rattle.cage_rules.proofs.Greatest.{fixed-frozen, frozen-fixed}
use Rattle.cage_rules.proofs.frozen.is_frozen.Goals as goal

pub returns : goal.returns
returns c =
    let made : c.kept.result ≡ kept (ways_of c.args.query.now) c.args.set = c.kept.ensures ∙ ap (λ (w : Ways). kept w c.args.set) c.ways_of.ensures in
    (λ h. fixed-frozen c.args.query.now c.args.set (sym made ∙ c.is_same.ensures.0 h), λ frozen. c.is_same.ensures.1 (made ∙ frozen-fixed c.args.query.now c.args.set c.is_whole.ensures frozen))
