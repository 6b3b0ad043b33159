use Rattle.std.proofs.Common.{map, sym}
use Rattle.sketch_body.specs.Seen.{line_of}
use Rattle.sketch_prose.proofs.Siblings.{astray-told, open-told, shut-told}
use Rattle.sketch_prose.proofs.telling.push_sibling.Goals as goal
use Rattle.sketch_prose.specs.Bases.{setting_with}
use Rattle.sketch_prose.specs.Levels.{due_with}
use Rattle.sketch_proof.specs.Proofs.{Setting}

pub returns-in-Shut : goal.returns-in-Shut
returns-in-Shut c = λ known x ns label left rest here.
    let g : Setting = setting_with c.args.base.now c.args.prices.now in
    shut-told x _ ns g c.args.base.now.diagram c.args.spot.now c.args.number left (due_with label c.args.sketch) c.args.node.now (map line_of c.args.lines.now) rest c.args.out.now.items (sym c.in-Shut.ensures) here

pub returns-in-Astray : goal.returns-in-Astray
returns-in-Astray c = λ known x ns label left rest here.
    let g : Setting = setting_with c.args.base.now c.args.prices.now in
    astray-told x ns g c.args.base.now.diagram c.args.spot.now c.args.number left (due_with label c.args.sketch) c.args.node.now (map line_of c.args.lines.now) rest c.args.out.now.items (sym c.in-Astray.ensures) here

pub returns-in_ok-below-in-Open : goal.returns-in_ok-below-in-Open
returns-in_ok-below-in-Open c = λ known x ns label left rest here.
    let g : Setting = setting_with c.args.base.now c.args.prices.now in
    open-told x ns g c.args.base.now.diagram c.args.spot.now c.args.number left (due_with label c.args.sketch) c.args.node.now (map line_of c.args.lines.now) rest c.in_ok-below-in-Open.below c.args.out.now.items c.push_heading.new.out.items c.push_open.new.out.items known (sym c.in-Open.ensures) here c.in_ok-push_heading-in-Open.ensures c.in_ok-below-in-Open.ensures
