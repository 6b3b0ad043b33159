use Rattle.sketch_list.specs.Figures.{sketch_of}
use Rattle.sketch_list.proofs.Queries.{query-fits}
use Rattle.sketch_list.proofs.Refutes.{no-game}
use Rattle.sketch_rule.proofs.Refuting.{tree-refutes}
use Rattle.sketch_rule.proofs.laws.trees_refute.Goals as goal

pub returns-clause-sketches : goal.returns-clause-sketches
returns-clause-sketches c = tree-refutes

pub returns-clause-queries : goal.returns-clause-queries
returns-clause-queries c tree o exact q it g leads =
    no-game o q.held (sketch_of q.board) (tree-refutes tree o q.held exact (sketch_of q.board) it) g (record { game = leads.game; rights = leads.held; fits = query-fits o g q leads })
