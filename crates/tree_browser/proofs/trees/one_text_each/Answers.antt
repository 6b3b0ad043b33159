use Rattle.std.proofs.Common.{[]}
use Rattle.std.specs.Prelude.{codes}
use Rattle.tree_browser.proofs.OneTree.{one-tree}
use Rattle.tree_browser.proofs.SomeTree.{some-tree}
use Rattle.tree_browser.proofs.trees.one_text_each.Goals as goal

pub returns : goal.returns
returns c = record {
  some = λ q depth. some-tree depth q [] (codes "root");
  one = λ q depth m n s t. one-tree depth q [] (codes "root") m n s t;
}
