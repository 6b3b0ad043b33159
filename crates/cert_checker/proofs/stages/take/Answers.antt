use Rattle.std.proofs.Common.{reverse}
use Rattle.cert_text.specs.Due.{nodes_due}
use Rattle.cert_checker.proofs.Counted.{counted_rest}
use Rattle.cert_checker.proofs.stages.take.Goals as goal

pub returns-in-Nodes-clause-rest : goal.returns-in-Nodes-clause-rest
returns-in-Nodes-clause-rest c = λ lines a rest.
    let counted = rw c.in-Nodes.is at c.count_line-counted.ensures.step in
    let left = rw c.in-Counting.is at rest in
    rw c.in-Counting.is (counted_rest c.in-Counting.field-2 c.in-Counting.field-0 c.in-Counting.field-1 (nodes_due c.args.sketching.now.units (reverse c.args.counts.now.items)) c.count_line-counted.new.sketching.units counted.0 (reverse c.count_line-counted.new.counts.items) c.args.number c.args.line.now lines a counted.1 counted.2 left)
