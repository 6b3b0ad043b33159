use Rattle.std.proofs.Common.{◌∷◌, ◌∙◌, sym, arith}
use Rattle.std.specs.Prelude.{IsTrue, codes}
use Rattle.board_base.specs.Texts.{can_promote, move_text}
use Rattle.board_base.specs.declared.moves.Move.{Move}
use Rattle.command_answers.specs.Solves.{move_words}
use Rattle.position_report.proofs.Steps.{some_within}
use Rattle.command_answers.proofs.Pieces.{all_at, piece_more}
use Rattle.command_answers.proofs.solves.write_countered.Goals as goal

pub loop-i-init : goal.loop-i-init
unfolding move_words
loop-i-init c = c.in_ok-text.ensures.items

pub unwrap-requires : goal.unwrap-requires
unwrap-requires c = rw c.get.ensures (some_within c.args.game.now c.loop-i.i (omega arith))

pub push_move-requires : goal.push_move-requires
push_move-requires c = all_at (λ (m : Move). IsTrue (can_promote m.promo)) c.args.game.now c.loop-i.i _ (omega arith) (sym c.get.ensures ∙ c.unwrap.ensures) c.requires

pub loop-i-preserved : goal.loop-i-preserved
unfolding move_words
loop-i-preserved c =
    piece_more (λ (m : Move). 32 ∷ move_text m) (codes "countered") c.args.game.now c.loop-i.i _ _ _ (omega arith) (sym c.get.ensures ∙ c.unwrap.ensures) c.loop-i.invariant c.in_ok-push_move.ensures
