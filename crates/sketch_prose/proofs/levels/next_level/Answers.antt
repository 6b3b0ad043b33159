use Rattle.std.proofs.Common.{ap, arith}
use Rattle.sketch_prose.proofs.Leaving.{passes-here, passes-off, passes-on}
use Rattle.sketch_prose.proofs.levels.next_level.Goals as goal
use Rattle.sketch_prose.specs.Levels.{Level}

pub levels-init : goal.levels-init
levels-init c = λ g fs lines it. passes-here g c.args.levels.now fs lines it

pub levels-preserved : goal.levels-preserved
levels-preserved c = λ g fs lines it.
    let p = c.levels.invariant g fs lines it in
    let none = c.if-level-gt0.false in
    let same = ap (λ (v : Level). v.count) c.level.view_is in
    passes-on g c.args.levels.now c.levels.levels c.pop.new.self fs lines p
    (passes-off g c.levels.levels c.pop.new.self c.in-Some.level p.forests lines c.in-Some.ensures (omega (arith, none, same)) p.left)
