use Rattle.std.proofs.Common.{◌<◌, ◌-◌, ◌∙◌, ap, map, subst, sym}
use Rattle.std.proofs.lemmas.Result.{IfOk-weaker}
use Rattle.sketch_body.specs.Seen.{line_of}
use Rattle.sketch_proof.specs.Proofs.{Setting}
use Rattle.sketch_prose.proofs.Nodes.{node-none, node-step}
use Rattle.sketch_prose.proofs.telling.push_node.Goals as goal
use Rattle.sketch_prose.specs.Bases.{setting_with}
use Rattle.sketch_prose.specs.Dues.{due_by}
use Rattle.sketch_prose.specs.Levels.{Level, behind, due_with}
use Rattle.sketch_prose.specs.declared.leaves.Leaf.{Leaf}

pub returns-in_default : goal.returns-in_default
returns-in_default c = λ known fs left.
    let g : Setting = setting_with c.args.base.now c.args.prices.now in
    let none = rw c.in_default.is at c.next_due-first.ensures in
    absurd (node-none g c.level.inside.spot c.level.inside.number c.level.inside.count (due_by c.level.inside.left) c.args.level c.args.levels.now fs _ c.level.view_is (subst (λ (v : Level). 0 < v.count) (sym c.level.view_is) c.requires) none left)

pub returns : goal.returns
returns c =
    let g : Setting = setting_with c.args.base.now c.args.prices.now in
    let next = rw c.in-Some.is at c.next_due-first.ensures in
    IfOk-weaker c.push_levels.result _ _
    (λ _ put known fs left. node-step g c.args.base.now.diagram c.level.inside.spot c.level.inside.number c.level.inside.count (due_by c.level.inside.left) (due_with next.0 c.in-Some.sketch) (due_by c.next_due-first.result.1) c.args.level c.args.levels.now fs c.args.node.now (map line_of c.args.lines.now) c.in_ok-below.below c.behind-next.result c.push_levels.new.levels c.args.out.now.items c.push_sibling.new.out.items c.level.view_is
    (subst (λ (v : Level). 0 < v.count) (sym c.level.view_is) c.requires) next.1
    (c.behind-next.ensures ∙ ap (λ (leaf : Leaf). behind c.level.inside.spot c.level.inside.number c.level.inside.count (due_by c.next_due-first.result.1) leaf) c.leaf_of.ensures)
    put
    (λ y ns rest here. c.in_ok-below.ensures known y ns next.0 (c.level.inside.count - 1) rest here) left)
    c.push_levels.ensures
