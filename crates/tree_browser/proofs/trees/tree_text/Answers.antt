use Rattle.std.proofs.Common.{[]}
use Rattle.std.specs.Prelude.{codes}
use Rattle.tree_browser.proofs.SomeTree.{some-tree}
use Rattle.tree_browser.proofs.trees.tree_text.Goals as goal

pub returns-in-Err-clause-spent : goal.returns-in-Err-clause-spent
returns-in-Err-clause-spent c e =
    let tree = some-tree c.args.depth c.args.query.now [] (codes "root") in
    let more = rw c.new-ancestors.ensures.items at c.in-Err.ensures.spent in
    (tree.0, tree.1, tree.2, more e tree.0 tree.1 tree.2)
