use Rattle.std.proofs.Common.{length, ap, sym, ◌∙◌, subst}
use Rattle.std.proofs.lemmas.Bool.{both_ways}
use Rattle.figures.specs.Trimmed.{trimmed}
use Rattle.sketch_sets.specs.Remade.{AreWhole}
use Rattle.sketch_sets.proofs.Ending.{out-reached}
use Rattle.sketch_sets.proofs.Sizes.{inside-length, trimmed-end, trimmed-inside, trimmed-less, trimmed-whole, trims-more}
use Rattle.sketch_sets.proofs.trims.trim.Goals as goal

pub rounds-init : goal.rounds-init
rounds-init c = record { whole = subst AreWhole (sym c.trimmed-left.ensures) (trimmed-whole c.args.sketch.now); rounds = (1, c.trimmed-left.ensures) }

pub rounds-preserved : goal.rounds-preserved
rounds-preserved c = record { whole = subst AreWhole (sym c.trimmed-less.ensures) (trimmed-whole c.rounds.left); rounds = trims-more c.args.sketch.now c.rounds.left c.trimmed-less.result c.trimmed-less.ensures c.rounds.invariant.rounds }

pub rounds-smaller : goal.rounds-smaller
rounds-smaller c = trimmed-less c.rounds.left c.trimmed-less.result c.rounds.invariant.whole c.trimmed-less.ensures (λ same. both_ways _ c.if-has_same_sets.false (c.has_same_sets.ensures.1 same))

pub has_same_sets-requires : goal.has_same_sets-requires
has_same_sets-requires c = sym (ap length c.trimmed-less.ensures ∙ inside-length c.rounds.left (trimmed c.rounds.left) (trimmed-inside c.rounds.left))

pub returns-then-has_same_sets-clause-value : goal.returns-then-has_same_sets-clause-value
returns-then-has_same_sets-clause-value c = out-reached c.args.sketch.now c.rounds.left c.are_whole.ensures c.rounds.invariant.rounds (trimmed-end c.rounds.left c.trimmed-less.result c.trimmed-less.ensures (c.has_same_sets.ensures.0 c.if-has_same_sets.true))

pub returns-then-has_same_sets-clause-end : goal.returns-then-has_same_sets-clause-end
returns-then-has_same_sets-clause-end c = trimmed-end c.rounds.left c.trimmed-less.result c.trimmed-less.ensures (c.has_same_sets.ensures.0 c.if-has_same_sets.true)
