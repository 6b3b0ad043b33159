use Rattle.std.proofs.Common.{◌+◌, ◌++◌, ◌∙◌, ℕ, arith}
use Rattle.board_base.specs.Attacks.{files_apart, on_the_way}
use Rattle.board_base.specs.Texts.{square_text}
use Rattle.prose_words.proofs.Squares.{flat_more, flat_whole}
use Rattle.ledger_lines.specs.Slants.{slant_words}
use Rattle.ledger_lines.proofs.slants.push_slant.Goals as goal

pub loop-k-preserved : goal.loop-k-preserved
loop-k-preserved c = c.in_ok-push_step.ensures ∙ flat_more (λ (k : ℕ). c.args.before.now ++ square_text (on_the_way c.args.h c.args.s (k + 1))) _ _ _ c.loop-k.invariant

pub returns : goal.returns
unfolding slant_words
returns c = flat_whole (λ (k : ℕ). c.args.before.now ++ square_text (on_the_way c.args.h c.args.s (k + 1))) _ _ _ (files_apart c.args.h c.args.s) c.loop-k.invariant (omega arith)
