use Rattle.std.proofs.Common.{◌∙◌, ℕ, arith, slice_index}
use Rattle.prose_words.proofs.Squares.{flat_more, flat_whole}
use Rattle.ledger_lines.specs.LineTexts.{class_words, classes_words}
use Rattle.ledger_lines.proofs.writing.push_classes.Goals as goal

pub loop-k-preserved : goal.loop-k-preserved
loop-k-preserved c = c.in_ok-push_class.ensures ∙ flat_more (λ (k : ℕ). class_words k (slice_index c.args.numbers.now k)) _ _ _ c.loop-k.invariant

pub returns : goal.returns
unfolding classes_words
returns c = flat_whole (λ (k : ℕ). class_words k (slice_index c.args.numbers.now k)) _ _ _ 16 c.loop-k.invariant (omega arith)
