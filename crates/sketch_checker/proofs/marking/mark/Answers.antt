use Rattle.std.proofs.Common.{◌-◌, ◌<◌, ◌∷◌, ◌↔◌, inl, List, refl, subst, sym}
use Rattle.sketch_text.specs.Trees.{Line, of_marks}
use Rattle.sketch_proof.specs.Proofs.{AreForced, Setting}
use Rattle.sketch_checker.specs.Able.{IsAble}
use Rattle.sketch_checker.specs.Walks.{CompletesOpened, Frame, Opened}
use Rattle.sketch_proof.specs.Nodes.{marked_with}
use Rattle.sketch_checker.specs.LineWalk.{OnOpened, StopsUnless, Walking}
use Rattle.sketch_checker.specs.TreeWalk.{unsupported}
use Rattle.sketch_checker.specs.Steering.{IsLineAt}
use Rattle.sketch_checker.proofs.Settling.{mark-line, unpriced}
use Rattle.sketch_checker.proofs.Completing.{opened}
use Rattle.sketch_checker.proofs.Going.{marked-able}
use Rattle.sketch_checker.proofs.Steering.{mark-go, mark-unforced, mark-unpriced}
use Rattle.sketch_checker.proofs.marking.mark.Goals as goal

pub returns-in_default-clause-refused : goal.returns-in_default-clause-refused
returns-in_default-clause-refused c = mark-unpriced c.args.setting.now c.args.opened.now c.args.marks.now c.by.result c.requires c.by.ensures c.in_default.ensures

pub returns-in_default-marked-clause-refused : goal.returns-in_default-marked-clause-refused
returns-in_default-marked-clause-refused c =
    subst (λ (g : Setting). IsLineAt g c.by.result c.in-Some.prices → (fs : List Frame) (lines : List Line) → CompletesOpened g c.args.opened.now fs (of_marks c.args.marks.now ∷ lines) → ⊥) c.setting.view_is
    (λ line. subst (λ (o : Opened). 0 < o.marks → (fs : List Frame) (lines : List Line) → CompletesOpened (record { odds = c.setting.inside.odds; held = c.setting.inside.held; exact = c.setting.inside.exact; prices = c.setting.inside.prices.items }) o fs (of_marks c.args.marks.now ∷ lines) → ⊥) c.opened.view_is
    (λ some. mark-unforced _ _ c.args.marks.now c.by.result c.in-Some.prices c.figures.result.now some c.by.ensures line c.figures.ensures.value c.in_default-marked.ensures.exact) c.requires)
    c.in-Some.ensures

pub returns-clause-opened : goal.returns-clause-opened
returns-clause-opened c =
    subst (λ (g : Setting). IsLineAt g c.by.result c.in-Some.prices → (fs : List Frame) (lines : List Line) → CompletesOpened g (opened c.opened.inside.line (c.opened.inside.marks - 1) c.opened.inside.end c.in-Some-marked.sketch) fs lines ↔ CompletesOpened g c.args.opened.now fs (of_marks c.args.marks.now ∷ lines)) c.setting.view_is
    (λ line. subst (λ (o : Opened). 0 < o.marks → (fs : List Frame) (lines : List Line) → CompletesOpened (record { odds = c.setting.inside.odds; held = c.setting.inside.held; exact = c.setting.inside.exact; prices = c.setting.inside.prices.items }) (opened c.opened.inside.line (c.opened.inside.marks - 1) c.opened.inside.end c.in-Some-marked.sketch) fs lines ↔ CompletesOpened (record { odds = c.setting.inside.odds; held = c.setting.inside.held; exact = c.setting.inside.exact; prices = c.setting.inside.prices.items }) o fs (of_marks c.args.marks.now ∷ lines)) c.opened.view_is
    (λ some. mark-go _ _ c.args.marks.now c.by.result c.in-Some.prices c.figures.result.now c.in-Some-marked.sketch some c.by.ensures line c.figures.ensures.value c.in-Some-marked.ensures.exact.0 c.in-Some-marked.ensures.exact.1) c.requires)
    c.in-Some.ensures

pub returns-clause-able : goal.returns-clause-able
returns-clause-able c = λ o able.
    subst (IsAble o) (sym c.in-Some-marked.ensures.exact.1)
    (marked-able o c.figures.result.now c.opened.inside.sketch (subst (λ (x : Opened). IsAble o x.sketch) (sym c.opened.view_is) able))

pub returns-in_default-clause-stopped : goal.returns-in_default-clause-stopped
returns-in_default-clause-stopped c = λ fs. inl (unpriced c.args.setting.now c.args.opened.now.sketch c.args.marks.now c.by.result c.by.ensures c.in_default.ensures, refl)

pub returns-clause-line : goal.returns-clause-line
returns-clause-line c =
    let own : Setting = record { odds = c.setting.inside.odds; held = c.setting.inside.held; exact = c.setting.inside.exact; prices = c.setting.inside.prices.items } in
    let next : Opened = opened c.opened.inside.line (c.opened.inside.marks - 1) c.opened.inside.end c.in-Some-marked.sketch in
    subst (λ (g : Setting). IsLineAt g c.by.result c.in-Some.prices → (fs : List Frame) (after : Walking) → OnOpened (c.opened.inside.marks - 1) g next fs after → StopsUnless (AreForced g c.args.opened.now.sketch c.args.marks.now) c.args.number unsupported after (OnOpened (c.args.opened.now.marks - 1) g (opened c.args.opened.now.line (c.args.opened.now.marks - 1) c.args.opened.now.end (marked_with c.args.marks.now.figures c.args.opened.now.sketch)) fs after)) c.setting.view_is
    (λ line. subst (λ (o : Opened). (fs : List Frame) (after : Walking) → OnOpened (c.opened.inside.marks - 1) own next fs after → StopsUnless (AreForced own o.sketch c.args.marks.now) c.args.number unsupported after (OnOpened (o.marks - 1) own (opened o.line (o.marks - 1) o.end (marked_with c.args.marks.now.figures o.sketch)) fs after)) c.opened.view_is
    (mark-line _ _ c.args.marks.now c.args.number c.by.result c.in-Some.prices c.figures.result.now c.in-Some-marked.sketch c.by.ensures line c.figures.ensures.value c.in-Some-marked.ensures.exact.0 c.in-Some-marked.ensures.exact.1)) c.in-Some.ensures
