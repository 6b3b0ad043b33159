use Rattle.std.proofs.Common.{map, subst}
use Rattle.sketch_proof.specs.Proofs.{Setting}
use Rattle.sketch_checker.specs.LineWalk.{going}
use Rattle.sketch_body.specs.Seen.{line_of}
use Rattle.sketch_checker.specs.Steering.{IsAnswer}
use Rattle.sketch_checker.proofs.Settling.{answer-walks}
use Rattle.sketch_checker.proofs.checking.walk_lines.Goals as goal

pub returns-clause-first : goal.returns-clause-first
returns-clause-first c = λ few tree written.
    let first = c.in_ok-walk.ensures.first in
    answer-walks c.finish.result c.args.setting c.args.sketch (going c.in_ok-walk.walk.opened c.in_ok-walk.walk.frames) (map line_of c.args.lines.now) tree first.1 written
    (subst (λ (g : Setting). IsAnswer c.finish.result g (going c.in_ok-walk.walk.opened c.in_ok-walk.walk.frames) 1 (map line_of c.args.lines.now)) first.0 (c.finish.ensures.walked few))
