use Rattle.figures.specs.Figures.{fixed_squares}
use Rattle.std.proofs.Common.{refl}
use Rattle.std.proofs.lemmas.Result.{IfOk-equal}
use Rattle.prose_words.proofs.Squares.{thence}
use Rattle.sketch_grounds.specs.FrozenSets.{greatest_frozen}
use Rattle.sketch_prose.proofs.ends.push_before.Goals as goal
use Rattle.sketch_words.specs.Crowds.{first_crowded, why_words}
use Rattle.sketch_words.specs.Phrases.{settled_words, stepped_words}
use Rattle.sketch_words.specs.Words.{set_words, without}

pub returns : goal.returns
returns c =
    IfOk-equal c.push_settled.result c.push_settled.new.out.items _ _
    (rw (c.as_slice-2.ensures.value, c.in_ok-list.ensures, c.without-still.ensures, c.fixed_squares.ensures, c.greatest_frozen.ensures.value) at c.push_settled.ensures)
    (thence c.args.out.now.items _ _ (stepped_words c.args.first c.args.base.now.exact (why_words c.args.base.now.odds c.args.base.now.diagram c.args.sketch.now c.args.wide.now (first_crowded c.args.base.now.odds c.args.wide.now)) c.args.count) (settled_words (set_words (without (fixed_squares c.args.wide.now) (greatest_frozen c.args.base.now.held c.args.sketch.now))) c.args.count)
    (rw (c.as_slice.ensures.value, c.in_ok-why.ensures) at c.in_ok-push_stepped.ensures) refl)
