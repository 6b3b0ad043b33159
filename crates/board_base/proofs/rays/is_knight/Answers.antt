use Rattle.std.proofs.Common.{sym, ap, ◌∙◌}
use Rattle.board_base.specs.Board.{at, is_the}
use Rattle.board_base.specs.declared.men.Kind.TheVariants.{Knight}
use Rattle.board_base.proofs.Hits.{knight-at}
use Rattle.board_base.proofs.rays.is_knight.Goals as goal

pub returns-clause-sound : goal.returns-clause-sound
returns-clause-sound c = λ h.
    knight-at c.args.board.now c.args.by c.args.s c.args.row c.args.column c.requires.on_rank c.requires.on_file (sym (c.is_the.ensures ∙ ap (is_the c.args.by Knight) (c.at.ensures.man ∙ ap (at c.args.board.now) c.known.ensures)) ∙ h) c.requires.away
