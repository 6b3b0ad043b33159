use Rattle.std.proofs.Common.{sym, ◌∙◌}
use Rattle.unmove_gen.proofs.Marking.{rightly-marked, unmarked, wrongly-marked}
use Rattle.unmove_gen.proofs.legality.is_marked.Goals as goal

pub returns-in-Some : goal.returns-in-Some
returns-in-Some c = c.captures_en_passant.ensures ∙ rightly-marked c.args.board.now c.args.colour c.args.u.now c.in-Some.double c.if-u.true (sym c.in-Some.ensures)

pub returns-in-None : goal.returns-in-None
returns-in-None c = wrongly-marked c.args.board.now c.args.colour c.args.u.now c.if-u.true (sym c.in-None.ensures)

pub returns-else-u : goal.returns-else-u
returns-else-u c = unmarked c.args.board.now c.args.colour c.args.u.now c.if-u.false
