use Rattle.std.proofs.Common.{reverse, sym, subst}
use Rattle.cert_checker.specs.Staging.{taken}
use Rattle.cert_checker.specs.Stages.{Rest}
use Rattle.cert_checker.specs.declared.frames.NodeStep.{NodeStep}
use Rattle.cert_checker.proofs.Settling.{settled_step}
use Rattle.cert_checker.proofs.stages.step_after.Goals as goal

pub returns-in-Nodes-clause-rest : goal.returns-in-Nodes-clause-rest
returns-in-Nodes-clause-rest c = λ k n lines a rest.
    subst (λ (s : NodeStep). Rest (taken s k c.args.claim c.args.query (reverse c.args.frames.now.items) c.args.number) n lines a) (sym c.in-Nodes.is)
    (settled_step c.args.claim c.args.query k.units c.in-Nodes.fault c.settle-found.result (reverse c.args.frames.now.items) (reverse c.settle-found.new.frames.items) _ n lines a
    c.settle-found.ensures.walk c.settle-found.ensures.due (c.step_at.ensures.stage k) rest)
