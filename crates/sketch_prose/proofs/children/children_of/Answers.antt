use Rattle.std.proofs.Common.{◌≡◌, ◌+◌, ◌∷◌, ◌++◌, ◌∙◌, [], ℕ, List, drop, map, subst, sym, arith}
use Rattle.std.proofs.lemmas.List.{drop_all}
use Rattle.sketch_body.specs.Seen.{line_of}
use Rattle.sketch_body.specs.declared.lines.SketchLine.{SketchLine}
use Rattle.sketch_checker.specs.DueNodes.{Due}
use Rattle.sketch_proof.specs.Proofs.{Setting}
use Rattle.sketch_prose.proofs.Beneath.{ChildrenSoFar, children-begin, children-due, children-end, children-lines, children-on, head-line}
use Rattle.sketch_prose.proofs.Leaving.{drop-lines, lines-from}
use Rattle.sketch_prose.proofs.children.children_of.Goals as goal
use Rattle.sketch_prose.specs.Bases.{setting_with}
use Rattle.sketch_prose.specs.Dues.{due_by}
use Rattle.sketch_prose.specs.Levels.{due_with}
use Rattle.sketch_text.specs.Trees.{lines_each}
use Rattle.sketch_words.specs.declared.spots.Child.{Child}

pub loop-i-init : goal.loop-i-init
loop-i-init c = λ prices ns rest many lines due.
    let g : Setting = setting_with c.args.base.now prices in
    subst (λ (l : List Child). ChildrenSoFar ns g (due_by c.args.due) (map line_of c.args.lines.now) rest 0 c.args.count (due_by c.args.due) l) (sym c.new-list.ensures.items)
    (children-begin ns g (due_by c.args.due) (map line_of c.args.lines.now) rest c.args.count many due lines)

pub returns-then-lines-first : goal.returns-then-lines-first
returns-then-lines-first c = λ prices ns rest many lines due.
    let g : Setting = setting_with c.args.base.now prices in
    let past : drop c.loop-i.first c.args.lines.now ≡ [] = drop_all c.loop-i.first c.args.lines.now (omega arith) in
    absurd (children-lines ns g (due_by c.args.due) rest c.loop-i.i c.args.count (due_by c.loop-i.left) c.loop-i.list.items
    (subst (λ (l : List SketchLine). ChildrenSoFar ns g (due_by c.args.due) (map line_of l) rest c.loop-i.i c.args.count (due_by c.loop-i.left) c.loop-i.list.items) past (c.loop-i.invariant prices ns rest many lines due)) (omega arith))

pub returns-in_default : goal.returns-in_default
returns-in_default c = λ prices ns rest many lines due.
    let g : Setting = setting_with c.args.base.now prices in
    let none = rw c.in_default.is at c.next_due-sketch.ensures in
    absurd (children-due ns g (due_by c.args.due) _ rest c.loop-i.i c.args.count c.loop-i.list.items
    (subst (λ (l : List Due). ChildrenSoFar ns g (due_by c.args.due) (map line_of (drop c.loop-i.first c.args.lines.now)) rest c.loop-i.i c.args.count l c.loop-i.list.items) none (c.loop-i.invariant prices ns rest many lines due)) (omega arith))

pub loop-i-preserved : goal.loop-i-preserved
loop-i-preserved c = λ prices ns rest many lines due.
    let g : Setting = setting_with c.args.base.now prices in
    let list : List SketchLine = c.args.lines.now in
    let x : SketchLine = c.index-lines-first.result in
    let k : ℕ = c.loop-i.first in
    let next = rw c.in-Some.is at c.next_due-sketch.ensures in
    let from : map line_of (drop k list) ≡ line_of x ∷ map line_of (drop (k + 1) list) = sym (drop-lines list k) ∙ lines-from list k x (omega arith) c.index-lines-first.is in
    children-on ns g (due_by c.args.due) (map line_of (drop k list)) _ rest c.loop-i.i c.args.count (due_with next.0 c.in-Some.sketch) _ c.loop-i.list.items _
    (subst (λ (l : List Due). ChildrenSoFar ns g (due_by c.args.due) (map line_of (drop k list)) rest c.loop-i.i c.args.count l c.loop-i.list.items) next.1 (c.loop-i.invariant prices ns rest many lines due)) (omega arith)
    (λ y ms e holds. c.in_ok-push_child.ensures prices y next.0 (head-line y (line_of x) (map line_of (drop (k + 1) list)) (lines_each ms ++ rest) (sym from ∙ e)) holds)
    (λ y z ms e. c.behind_node-first.ensures y z (lines_each ms ++ rest) e)

pub returns : goal.returns
returns c = λ prices ns rest many lines due.
    children-end ns (setting_with c.args.base.now prices) (due_by c.args.due) _ rest c.loop-i.i c.args.count _ c.loop-i.list.items (c.loop-i.invariant prices ns rest many lines due) (omega arith)
