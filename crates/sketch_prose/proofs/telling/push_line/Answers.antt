use Rattle.std.proofs.Common.{◌≡◌, ◌∷◌, ℕ, List, drop, map, subst, arith}
use Rattle.sketch_body.specs.Seen.{line_of}
use Rattle.sketch_proof.specs.Proofs.{Setting}
use Rattle.sketch_prose.proofs.Leaving.{goes-here, skipped-one}
use Rattle.sketch_prose.proofs.telling.push_line.Goals as goal
use Rattle.sketch_prose.specs.Bases.{setting_with}
use Rattle.sketch_prose.specs.Levels.{AreLeft}
use Rattle.sketch_text.specs.Trees.{Line}

pub returns-then-skipped-gt0 : goal.returns-then-skipped-gt0
returns-then-skipped-gt0 c = λ known fs left.
    let g : Setting = setting_with c.args.base.now c.args.prices.now in
    goes-here g c.args.base.now.diagram c.args.levels.now fs _ c.args.out.now.items
    (subst (λ (l : List Line). AreLeft g c.args.levels.now fs l) (skipped-one c.args.skipped (line_of c.args.line.now) (map line_of c.args.lines.now) c.if-skipped-gt0.true) left)

pub returns : goal.returns
returns c = λ known fs left.
    let g : Setting = setting_with c.args.base.now c.args.prices.now in
    let none : c.args.skipped ≡ 0 = omega (arith, c.if-skipped-gt0.false) in
    c.in_ok-marks.ensures known fs (subst (λ (n : ℕ). AreLeft g c.args.levels.now fs (drop n (line_of c.args.line.now ∷ map line_of c.args.lines.now))) none left)
