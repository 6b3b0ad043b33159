use Rattle.std.proofs.Common.{◌∷◌, ◌↔◌, Bool, List, subst, sym}
use Rattle.std.specs.Prelude.{IfOk, OnErr}
use Rattle.sketch_text.specs.Trees.{Line, of_node}
use Rattle.sketch_proof.specs.Proofs.{Setting}
use Rattle.sketch_checker.specs.Able.{IsAble}
use Rattle.sketch_checker.specs.Steering.{AllAble}
use Rattle.sketch_checker.specs.Walks.{Completes, CompletesOpened, Frame}
use Rattle.sketch_checker.proofs.Steering.{deep-none}
use Rattle.sketch_checker.proofs.opening.open.Goals as goal

pub returns-then-is_too_deep-clause-refused : goal.returns-then-is_too_deep-clause-refused
returns-then-is_too_deep-clause-refused c = λ g lines it. deep-none g c.args.frames.now c.args.node lines c.is_too_deep.result c.requires c.if-is_too_deep.true c.is_too_deep.ensures it

pub returns-in-Some-clause-opened : goal.returns-in-Some-clause-opened
returns-in-Some-clause-opened c =
    subst (λ (fs : List Frame). IfOk c.open_below.result (λ o. (g : Setting) (lines : List Line) → CompletesOpened g o c.open_below.new.frames lines ↔ Completes g fs (of_node c.args.node ∷ lines))) (sym c.in-Some.ensures) c.open_below.ensures.opened

pub returns-in-Some-clause-able : goal.returns-in-Some-clause-able
returns-in-Some-clause-able c =
    subst (λ (fs : List Frame). IfOk c.open_below.result (λ x. (o : List Bool) → AllAble o fs → IsAble o x.sketch × AllAble o c.open_below.new.frames)) (sym c.in-Some.ensures) c.open_below.ensures.able

pub returns-in-Some-clause-refused : goal.returns-in-Some-clause-refused
returns-in-Some-clause-refused c =
    subst (λ (fs : List Frame). OnErr c.open_below.result ((g : Setting) (lines : List Line) → Completes g fs (of_node c.args.node ∷ lines) → ⊥)) (sym c.in-Some.ensures) c.open_below.ensures.refused
