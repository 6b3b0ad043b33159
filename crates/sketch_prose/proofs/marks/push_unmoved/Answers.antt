use Rattle.std.proofs.Common.{◌≡◌, ◌++◌, ◌∙◌, Bool, List, ap, subst}
use Rattle.sketch_grounds.specs.Frozen.{IsFrozenIn}
use Rattle.sketch_grounds.specs.FrozenSets.{greatest_frozen}
use Rattle.sketch_prose.proofs.Adding.{adds-one}
use Rattle.sketch_prose.proofs.marks.push_unmoved.Goals as goal
use Rattle.sketch_prose.specs.Bases.{setting_with}
use Rattle.sketch_prose.specs.Sentences.{unmoved}
use Rattle.sketch_words.specs.Phrases.{fresh_words}
use Rattle.sketch_words.specs.Words.{without}

pub returns-clause-told : goal.returns-clause-told
returns-clause-told c = λ own.
    let value : c.greatest_frozen-set.result ≡ greatest_frozen c.args.base.now.held c.args.sketch.now = c.greatest_frozen-set.ensures.value in
    adds-one (setting_with c.args.base.now own) c.args.base.now.diagram (unmoved c.args.known c.args.sketch.now) c.args.out.now.items c.push_fresh.new.out.items
    (subst (λ (l : List Bool). IsFrozenIn c.args.base.now.held c.args.sketch.now l) value c.greatest_frozen-set.ensures.frozen)
    (c.in_ok-push_fresh.ensures ∙ ap (λ (l : List Bool). c.args.out.now.items ++ fresh_words c.args.base.now.held l) (c.without.ensures ∙ ap (λ (l : List Bool). without l c.args.known) value))
