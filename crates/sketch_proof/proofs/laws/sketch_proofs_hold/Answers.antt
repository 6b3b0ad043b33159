use Rattle.std.proofs.Common.{◌≡◌, true, subst}
use Rattle.board_base.specs.Rights.{Rights, holds}
use Rattle.sketch_node.specs.Figures.{sketch_of}
use Rattle.sketch_node.proofs.Queries.{query-fits}
use Rattle.sketch_node.proofs.Refutes.{no-game}
use Rattle.sketch_node.proofs.Refuting.{tree-refutes}
use Rattle.sketch_text.specs.declared.labels.Label.TheVariants.{Now}
use Rattle.sketch_proof.proofs.Sound.{node-refutes}
use Rattle.sketch_proof.proofs.Whole.{board-whole}
use Rattle.sketch_proof.proofs.laws.sketch_proofs_hold.Goals as goal

pub returns-clause-tree : goal.returns-clause-tree
returns-clause-tree c g q lines known it = node-refutes it.tree g Now (sketch_of q.board) known (board-whole q.board) it.holds

pub returns-clause-queries : goal.returns-clause-queries
returns-clause-queries c g q lines known same it m leads =
    let tree = returns-clause-tree c g q lines known it in
    no-game g.odds g.held (sketch_of q.board) (tree-refutes tree.0 g.odds g.held g.exact (sketch_of q.board) tree.1) m
    (record { game = leads.game; rights = λ x held. leads.held x (subst (λ (r : Rights). holds r x ≡ true) same held); fits = query-fits g.odds m q leads })
