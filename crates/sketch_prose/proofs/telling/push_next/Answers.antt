use Rattle.std.proofs.Common.{◌∷◌, List, map, refl, subst}
use Rattle.sketch_body.specs.Seen.{line_of}
use Rattle.sketch_body.specs.declared.lines.SketchLine.{SketchLine}
use Rattle.sketch_proof.specs.Proofs.{Setting}
use Rattle.sketch_prose.proofs.Leaving.{goes-passed}
use Rattle.sketch_prose.proofs.Nodes.{lines-never, marks-never}
use Rattle.sketch_prose.proofs.telling.push_next.Goals as goal
use Rattle.sketch_prose.specs.Bases.{setting_with}
use Rattle.sketch_prose.specs.Levels.{AreLeft, Level}

pub returns-in_default : goal.returns-in_default
returns-in_default c = λ known fs left.
    let g : Setting = setting_with c.args.base.now c.args.prices.now in
    let p = c.in_default.ensures.passes g fs _ left in
    absurd (lines-never g p.forests (line_of c.args.line.now) (map line_of c.args.lines.now) (subst (λ (vs : List Level). AreLeft g vs p.forests (line_of c.args.line.now ∷ map line_of c.args.lines.now)) (c.in_default.ensures.none refl) p.left))

pub returns-in-Marks : goal.returns-in-Marks
returns-in-Marks c = λ known fs left.
    let g : Setting = setting_with c.args.base.now c.args.prices.now in
    let p = c.in-Some.ensures.passes g fs _ left in
    absurd (marks-never g c.in-Some.level c.next_level.new.levels p.forests _ (map line_of c.args.lines.now) c.in-Some.ensures.some (subst (λ (l : SketchLine). AreLeft g (c.in-Some.level ∷ c.next_level.new.levels) p.forests (line_of l ∷ map line_of c.args.lines.now)) c.in-Marks.is p.left))

pub returns-in_ok-push_node-in-Node : goal.returns-in_ok-push_node-in-Node
returns-in_ok-push_node-in-Node c = λ known fs left.
    let g : Setting = setting_with c.args.base.now c.args.prices.now in
    let p = c.in-Some.ensures.passes g fs _ left in
    let here = subst (λ (l : SketchLine). AreLeft g (c.in-Some.level ∷ c.next_level.new.levels) p.forests (line_of l ∷ map line_of c.args.lines.now)) c.in-Node.is p.left in
    goes-passed g c.args.base.now.diagram c.args.levels.now (c.in-Some.level ∷ c.next_level.new.levels) c.push_node.new.levels fs _ _ c.args.out.now.items c.push_node.new.out.items p (c.in_ok-push_node-in-Node.ensures known p.forests here)
