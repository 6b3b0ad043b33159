use Rattle.std.proofs.Common.{◌∙◌, ap, reverse}
use Rattle.cert_checker.specs.Stages.{Stage, answer_at}
use Rattle.cert_checker.specs.Staging.{halted_at}
use Rattle.cert_checker.proofs.Halting.{halted_any, halted_end}
use Rattle.cert_checker.proofs.line_walk.Walk.answer_halted.Goals as goal

pub answer-requires : goal.answer-requires
answer-requires c = rw c.stop-last.ensures (halted_end _ _ _ _)

pub returns-clause-answer : goal.returns-clause-answer
returns-clause-answer c =
    (rw c.stop-last.ensures at (c.answer.ensures c.self.inside.sketching))
    ∙ ap (λ (s : Stage). answer_at s c.args.number) (halted_any c.self.inside.step c.self.inside.sketching _ (reverse c.self.inside.frames.items) _ (reverse c.self.inside.counts.items) c.args.number)
    ∙ ap (λ (s : Stage). answer_at (halted_at s c.args.number) c.args.number) c.self.view_is
