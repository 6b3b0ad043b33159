use Rattle.std.proofs.Common.{◌∷◌, ◌∙◌, sym, arith}
use Rattle.std.specs.Prelude.{codes}
use Rattle.board_base.specs.Texts.{unmove_text, unmove_words}
use Rattle.board_base.specs.declared.unmoves.Unmove.{Unmove}
use Rattle.command_answers.specs.Told.{IsSpelled}
use Rattle.position_report.proofs.Steps.{some_within}
use Rattle.command_answers.proofs.Pieces.{all_at, piece_more}
use Rattle.command_answers.proofs.solves.write_undecided.Goals as goal

pub loop-i-init : goal.loop-i-init
unfolding unmove_words
loop-i-init c = c.in_ok-text.ensures.items

pub unwrap-requires : goal.unwrap-requires
unwrap-requires c = rw c.get.ensures (some_within c.args.line.now c.loop-i.i (omega arith))

pub push_unmove-requires : goal.push_unmove-requires
push_unmove-requires c = all_at IsSpelled c.args.line.now c.loop-i.i _ (omega arith) (sym c.get.ensures ∙ c.unwrap.ensures) c.requires

pub loop-i-preserved : goal.loop-i-preserved
unfolding unmove_words
loop-i-preserved c =
    piece_more (λ (u : Unmove). 32 ∷ unmove_text u) (codes "undecided") c.args.line.now c.loop-i.i _ _ _ (omega arith) (sym c.get.ensures ∙ c.unwrap.ensures) c.loop-i.invariant c.in_ok-push_unmove.ensures
