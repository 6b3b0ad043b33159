use Rattle.std.proofs.Common.{◌≡◌, ap, ◌∙◌, arith}
use Rattle.std.proofs.lemmas.Grind.{common_steps}
use Rattle.sketch_text.specs.Nodes.{node_of, node_text}
use Rattle.sketch_text.proofs.NodeTexts.{node_stands}
use Rattle.sketch_text.proofs.writing.write_sketch_node.Goals as goal

pub returns-clause-read : goal.returns-clause-read
unfolding node_text
returns-clause-read c P few known =
    let text : c.push_end.new.out.items ≡ node_text c.args.node.now = grind (arith, common_steps) in
    ap (node_of P) text ∙ node_stands P c.args.node.now few known
