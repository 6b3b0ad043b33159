use Rattle.std.proofs.Common.{◌∷◌, List, ap, arith}
use Rattle.std.proofs.lemmas.Result.{on_ok_weaker}
use Rattle.sketch_text.specs.Trees.{Line}
use Rattle.sketch_proof.specs.Proofs.{Setting}
use Rattle.sketch_checker.specs.Walks.{Completes, Frame}
use Rattle.sketch_checker.proofs.Steering.{err-anyway, left-over, taken-off}
use Rattle.sketch_checker.proofs.frames.go_below.Goals as goal

pub returns-in_err-end_frame-clause-refused : goal.returns-in_err-end_frame-clause-refused
returns-in_err-end_frame-clause-refused c =
    let none = c.if-frame-gt0.false in
    let same = ap (λ (f : Frame). f.announced) c.frame.view_is in
    let refused : (g : Setting) (lines : List Line) → Completes g (c.args.frame ∷ c.args.frames.now) lines → ⊥ = λ g lines it. left-over g c.args.frame c.args.frames.now lines (λ some. omega (arith, none, same, some)) c.in_err-end_frame.ensures.fault.1 it in
    err-anyway c.from_residual.result _ refused

pub returns-clause-done : goal.returns-clause-done
returns-clause-done c =
    let none = c.if-frame-gt0.false in
    let same = ap (λ (f : Frame). f.announced) c.frame.view_is in
    on_ok_weaker c.settle.result (λ walk g lines.
    let off = taken-off g c.args.frame c.args.frames.now lines (λ some. omega (arith, none, same, some)) c.in_ok-end_frame.ensures.done c.len.ensures.few in
    let rest = walk g lines in
    (λ it. off.0 (rest.0 it), λ it. rest.1 (off.1 it))) c.settle.ensures.done

pub returns-clause-able : goal.returns-clause-able
returns-clause-able c = on_ok_weaker c.settle.result (λ keeps o it. keeps o it.1) c.settle.ensures.able
