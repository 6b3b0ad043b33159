use Rattle.std.proofs.Common.{[], ◌∷◌, List, reverse, ap, ◌∙◌}
use Rattle.general_lemmas.proofs.Lasts.{pushed}
use Rattle.sketch_checker.specs.Walks.{Frame}
use Rattle.sketch_checker.proofs.Completing.{frame}
use Rattle.sketch_checker.proofs.Steering.{stopped}
use Rattle.sketch_checker.proofs.frames.Frames.stop.Goals as goal

pub returns-clause-over : goal.returns-clause-over
returns-clause-over c = λ g lines it.
    stopped g _ lines (pushed c.clear.new.self.items c.push.new.self.items (frame 0 1 []) c.push.ensures.items ∙ ap (λ (l : List Frame). frame 0 1 [] ∷ reverse l) c.clear.ensures) it
