use Rattle.std.proofs.Common.{[]}
use Rattle.std.specs.Prelude.{codes}
use Rattle.prose_words.proofs.Squares.{thence}
use Rattle.balance_prose.specs.CountWords.{files_words, on_files, shade_words}
use Rattle.balance_prose.proofs.counting.where_words.Goals as goal

pub returns : goal.returns
returns c =
    let h0 = (rw (c.new-list.ensures.items, c.shade_words.ensures) at c.in_ok-say.ensures) in
    let h1 = thence [] _ _ (shade_words c.args.takes.now) (on_files (files_words c.args.takes.now 0) (codes " but not on the") (codes "-file") (codes " but not on files") []) h0 (rw (c.as_slice.ensures.value, c.in_ok-free.ensures) at c.in_ok-push_on_files.ensures) in
    h1
