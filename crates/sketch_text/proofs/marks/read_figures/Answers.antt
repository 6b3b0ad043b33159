use Rattle.std.proofs.Common.{◌+◌, List, ℕ, sym, subst}
use Rattle.sketch_text.proofs.FiguresRead.{FiguresSoFar, figures_bad, figures_next, figures_over}
use Rattle.sketch_text.proofs.MarkTexts.{cut_left, left}
use Rattle.sketch_text.proofs.marks.read_figures.Goals as goal

pub returns-in_default-read_within : goal.returns-in_default-read_within
returns-in_default-read_within c =
    figures_bad c.args.text.now c.loop-n.n c.loop-n.least c.loop-n.rest c.loop-n.figures.items c.split_part.result.0.now (left c.split_part.result.1) c.loop-n-test.true
    (cut_left c.loop-n.rest c.in-Some.left c.split_part.result.0.now c.split_part.result.1 c.in-Some.is c.split_part.ensures.part.free c.split_part.ensures.rest) (sym c.in_default-read_within.ensures.value) c.loop-n.invariant

pub loop-n-preserved : goal.loop-n-preserved
loop-n-preserved c =
    subst (λ (l : List ℕ). FiguresSoFar c.args.text.now (c.loop-n.n + 1) (c.in-Some-read_within.number + 1) c.split_part.result.1 l) (sym c.push.ensures.items)
    (figures_next c.args.text.now c.loop-n.n c.loop-n.least c.loop-n.rest c.split_part.result.1 c.loop-n.figures.items c.split_part.result.0.now c.in-Some-read_within.number c.loop-n-test.true
    (cut_left c.loop-n.rest c.in-Some.left c.split_part.result.0.now c.split_part.result.1 c.in-Some.is c.split_part.ensures.part.free c.split_part.ensures.rest)
    (sym c.in-Some-read_within.ensures.value) c.in-Some-read_within.ensures.range.1 c.loop-n.invariant)

pub returns-then-is_some : goal.returns-then-is_some
returns-then-is_some c = figures_over c.args.text.now c.loop-n.n c.loop-n.least c.loop-n.rest c.loop-n.figures.items c.loop-n-test.false (sym c.if-is_some.ensures) c.loop-n.invariant
