use Rattle.std.proofs.Common.{sym, ◌∙◌, arith}
use Rattle.board_base.proofs.Hits.{hit-attacks}
use Rattle.board_base.proofs.rays.is_hit.Goals as goal

pub returns-in-Some-clause-sound : goal.returns-in-Some-clause-sound
returns-in-Some-clause-sound c = λ h. hit-attacks c.args.board.now c.args.by c.args.s c.in-Some.from (let small = c.index.ensures.on_board in let same = c.index.ensures.number in omega arith) (sym c.attacks_by.ensures ∙ h)
