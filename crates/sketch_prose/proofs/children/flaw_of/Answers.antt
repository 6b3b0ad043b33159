use Rattle.std.proofs.Common.{subst, sym}
use Rattle.sketch_proof.specs.Proofs.{Setting}
use Rattle.sketch_prose.proofs.Denied.{astray-void}
use Rattle.sketch_prose.proofs.children.flaw_of.Goals as goal
use Rattle.sketch_prose.specs.Bases.{setting_with}
use Rattle.sketch_prose.specs.Children.{FlawOf}
use Rattle.sketch_prose.specs.declared.leaves.Leaf.{Leaf}

pub returns-in-Astray : goal.returns-in-Astray
returns-in-Astray c = λ prices x label own holds.
    let g : Setting = setting_with c.args.base.now prices in
    subst (λ (l : Leaf). FlawOf l g c.args.sketch.now c.foreign_flaw.result) c.in-Astray.ensures (c.foreign_flaw.ensures prices (astray-void x g label c.args.sketch.now c.args.node.now own (sym c.in-Astray.ensures) holds))
