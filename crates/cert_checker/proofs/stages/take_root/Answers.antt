use Rattle.std.proofs.Common.{◌+◌, ◌∙◌, ap, reverse, sym}
use Rattle.cert_text.proofs.Fitting.{root_room}
use Rattle.cert_checker.proofs.Settling.{root_rest}
use Rattle.cert_checker.proofs.Taking.{root_stack}
use Rattle.cert_checker.proofs.stages.take_root.Goals as goal

pub step_after-requires : goal.step_after-requires
step_after-requires c =
    root_stack c.go_below-root.result c.in-Some.body c.target-aim.result (reverse c.clear.new.self.items) (reverse c.go_below-root.new.frames.items) c.args.number (ap reverse c.clear.ensures) (root_room c.args.line.now c.in-Some.body (sym c.read_root_line.ensures ∙ c.in-Some.is)) c.go_below-root.ensures.frames

pub returns-clause-rest : goal.returns-clause-rest
returns-clause-rest c = λ lines a rest.
    root_rest c.go_below-root.result c.go_below-root.new.sketching c.args.sketching.now.units c.args.claim c.args.query c.target-aim.result c.in-Some.body c.body_fault-fault.result c.as_slice.result.now c.clear.new.self.items (reverse c.go_below-root.new.frames.items) c.args.number c.args.line.now lines a
    c.requires.first (sym c.read_root_line.ensures ∙ c.in-Some.is) c.target-aim.ensures.query (c.as_slice.ensures.value ∙ c.clear.ensures) c.clear.ensures c.body_fault-fault.ensures c.go_below-root.ensures.frames
    c.go_below-root.ensures.due c.go_below-root.ensures.walk (c.step_after.ensures.rest c.go_below-root.new.sketching (c.args.number + 1) lines a rest)

pub returns-clause-ready : goal.returns-clause-ready
returns-clause-ready c =
    c.step_after.ensures.ready c.go_below-root.new.sketching (c.go_below-root.ensures.reading 0 (root_room c.args.line.now c.in-Some.body (sym c.read_root_line.ensures ∙ c.in-Some.is)))
