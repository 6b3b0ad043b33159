use Rattle.std.proofs.Common.{◌∙◌, ℕ, arith}
use Rattle.prose_words.proofs.Squares.{flat_more, flat_whole}
use Rattle.ledger_lines.specs.LineTexts.{repeated}
use Rattle.ledger_lines.proofs.writing.push_repeated.Goals as goal

pub loop-preserved : goal.loop-preserved
loop-preserved c = c.in_ok-say.ensures ∙ flat_more (λ (i : ℕ). c.args.word.now) _ _ _ c.loop.invariant

pub returns : goal.returns
unfolding repeated
returns c = flat_whole (λ (i : ℕ). c.args.word.now) _ _ _ c.args.number c.loop.invariant (omega arith)
