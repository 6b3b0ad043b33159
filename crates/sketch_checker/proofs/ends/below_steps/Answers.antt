use Rattle.std.proofs.Common.{inl, List, map, refl, subst, sym}
use Rattle.std.specs.Prelude.{Some}
use Rattle.sketch_text.specs.declared.nodes.End.TheVariants.{Steps}
use Rattle.sketch_text.specs.Trees.{Line}
use Rattle.sketch_proof.specs.Proofs.{Setting}
use Rattle.sketch_checker.specs.Able.{IsAble}
use Rattle.sketch_checker.specs.Walks.{CompletesOpened, Frame}
use Rattle.sketch_checker.specs.Steering.{AreAble, IsBelow, read}
use Rattle.figures.specs.Figures.{Sketch}
use Rattle.sketch_checker.specs.TreeWalk.{IsBefore}
use Rattle.sketch_checker.proofs.Settling.{no-before}
use Rattle.sketch_checker.proofs.Completing.{frame}
use Rattle.sketch_checker.proofs.Below.{steps-able, steps-below, steps-can, steps-none}
use Rattle.sketch_checker.proofs.ends.below_steps.Goals as goal
use Rattle.sketch_checker.specs.DueNodes.{due_of}

pub returns-in_default-clause-refused : goal.returns-in_default-clause-refused
returns-in_default-clause-refused c =
    let none = c.in_default.ensures in
    subst (λ (g : Setting). IsAble g.odds c.args.sketch.now → (fs : List Frame) (lines : List Line) → CompletesOpened g (read c.args.line (Steps c.args.count) c.args.sketch.now) fs lines → ⊥) c.setting.view_is
    (λ able. steps-none _ c.args.line c.args.count c.args.sketch.now none.0 able none.1 none.2) c.requires

pub unreachable-requires : goal.unreachable-requires
unreachable-requires c =
    let some = c.in-Some.ensures in
    c.in_default-new.ensures (steps-can (record { odds = c.setting.inside.odds; held = c.setting.inside.held; exact = c.setting.inside.exact; prices = c.args.setting.now.prices }) c.args.sketch.now c.in-Some.wide (subst (λ (g : Setting). IsAble g.odds c.args.sketch.now) (sym c.setting.view_is) c.requires) some.0)

pub returns-clause-frame : goal.returns-clause-frame
returns-clause-frame c =
    let some = c.in-Some.ensures in
    subst (λ (g : Setting). IsAble g.odds c.args.sketch.now → IsBelow g (read c.args.line (Steps c.args.count) c.args.sketch.now) (Some (frame c.args.line c.args.count (map due_of c.in-Some-new.steps)))) c.setting.view_is
    (λ able. steps-below _ c.args.line c.args.count c.args.sketch.now c.in-Some.wide c.in-Some-new.steps c.in-Some-new.ensures.1 able some.0 some.1) c.requires

pub returns-clause-able : goal.returns-clause-able
returns-clause-able c =
    let some = c.in-Some.ensures in
    subst (λ (g : Setting). IsAble g.odds c.args.sketch.now → AreAble g.odds (map due_of c.in-Some-new.steps)) c.setting.view_is
    (λ able. steps-able (record { odds = c.setting.inside.odds; held = c.setting.inside.held; exact = c.setting.inside.exact; prices = c.setting.inside.prices.items }) c.args.sketch.now c.in-Some.wide c.in-Some-new.steps c.in-Some-new.ensures.1 able some.0) c.requires

pub returns-in_default-clause-stopped : goal.returns-in_default-clause-stopped
returns-in_default-clause-stopped c =
    let none = c.in_default.ensures in
    let never : (U : Sketch) → IsBefore c.args.setting.now c.args.sketch.now U → ⊥ = subst (λ (g : Setting). (U : Sketch) → IsBefore g c.args.sketch.now U → ⊥) c.setting.view_is (no-before _ c.args.sketch.now none.0 none.1 none.2) in
    (refl, λ fs. inl (never, refl))
