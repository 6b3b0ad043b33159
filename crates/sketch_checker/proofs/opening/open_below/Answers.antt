use Rattle.std.proofs.Common.{◌≡◌, ◌<◌, ◌∷◌, ◌↔◌, List, subst, sym}
use Rattle.sketch_text.specs.Trees.{Line, of_node}
use Rattle.sketch_proof.specs.Proofs.{Setting}
use Rattle.sketch_checker.specs.Dues.{due_by}
use Rattle.sketch_checker.specs.Walks.{Completes, CompletesOpened, Frame}
use Rattle.sketch_checker.proofs.Completing.{opened}
use Rattle.sketch_checker.proofs.Steering.{opens, strays}
use Rattle.sketch_checker.proofs.opening.open_below.Goals as goal
use Rattle.sketch_checker.specs.DueNodes.{Due}

pub returns-in-Ok-clause-opened : goal.returns-in-Ok-clause-opened
returns-in-Ok-clause-opened c =
    let found = subst (λ (d : Due). (due_by c.frame.inside.left ≡ d ∷ due_by c.in-Ok.left) × (c.args.node.label ≡ d.label)) (sym c.due.view_is) c.in-Ok.ensures.found in
    subst (λ (f : Frame). 0 < f.announced → (g : Setting) (lines : List Line) → CompletesOpened g (opened c.args.number c.args.node.marks c.args.node.end c.due.inside.sketch) c.push.new.self lines ↔ Completes g (f ∷ c.args.frames.now) (of_node c.args.node ∷ lines)) c.frame.view_is
    (λ some g lines. opens g c.args.number c.frame.inside.line c.frame.inside.announced (due_by c.frame.inside.left) (record { label = c.due.inside.label; sketch = c.due.inside.sketch }) (due_by c.in-Ok.left) c.args.frames.now c.push.new.self c.args.node lines some found.0 found.1 c.push.ensures) c.requires.open

pub returns-in-Err-clause-refused : goal.returns-in-Err-clause-refused
returns-in-Err-clause-refused c =
    subst (λ (f : Frame). 0 < f.announced → (g : Setting) (lines : List Line) → Completes g (f ∷ c.args.frames.now) (of_node c.args.node ∷ lines) → ⊥) c.frame.view_is
    (λ some g lines it. strays g c.frame.inside.line c.frame.inside.announced (due_by c.frame.inside.left) c.args.frames.now c.args.node lines some c.in-Err.ensures.stray.1 it) c.requires.open
