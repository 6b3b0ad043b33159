use Rattle.std.proofs.Common.{◌∙◌, [], arith}
use Rattle.prose_words.proofs.Squares.{flat_more, flat_whole}
use Rattle.balance_prose.specs.Pricing.{file_if, files_words}
use Rattle.balance_prose.proofs.pricing.files_of.Goals as goal

pub loop-file-preserved : goal.loop-file-preserved
loop-file-preserved c = c.in_ok-push_file_if.ensures ∙ flat_more (file_if c.args.prices.now c.args.shade c.args.price) [] _ _ c.loop-file.invariant

pub returns : goal.returns
unfolding files_words
returns c = flat_whole (file_if c.args.prices.now c.args.shade c.args.price) [] _ _ 8 c.loop-file.invariant (omega arith)
