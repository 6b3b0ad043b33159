use Rattle.std.proofs.Common.{ap, is_some}
use Rattle.sketch_found.proofs.OneNode.{plain-proof, plain-within}
use Rattle.sketch_found.proofs.plain.proof_by.Goals as goal

pub returns-clause-all : goal.returns-clause-all
returns-clause-all c = λ can so.
    ap is_some (c.if_proved.ensures.all can (plain-proof c.args.query.now c.args.end _ c.in_ok-node.ensures so) (plain-within c.args.most _ _ _ c.args.end _ c.in_ok-node.ensures so))
