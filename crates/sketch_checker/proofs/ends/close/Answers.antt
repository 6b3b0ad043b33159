use Rattle.std.proofs.Common.{◌≡◌, ◌∷◌, List, None, subst, sym}
use Rattle.std.proofs.lemmas.Result.{on_err_weaker, on_ok_weaker}
use Rattle.sketch_text.specs.Trees.{Line}
use Rattle.sketch_checker.specs.Walks.{CompletesOpened}
use Rattle.sketch_checker.specs.Steering.{AreAbleBelow, EndsWith, IsBelow, read}
use Rattle.sketch_checker.specs.LineWalk.{OnEnd, Walking, ended}
use Rattle.sketch_checker.proofs.Settling.{after-weaker}
use Rattle.sketch_checker.proofs.Steering.{err-anyway}
use Rattle.sketch_checker.proofs.ends.close.Goals as goal

pub returns-in_err-frame-clause-refused : goal.returns-in_err-frame-clause-refused
returns-in_err-frame-clause-refused c =
    let refused : (lines : List Line) → CompletesOpened c.args.setting.now (read c.args.line c.args.end c.args.sketch.now) c.args.frames.now lines → ⊥ = λ lines it. c.in_err-frame.ensures.refused c.args.frames.now lines it in
    err-anyway c.from_residual.result _ refused

pub returns-in-Some-clause-done : goal.returns-in-Some-clause-done
returns-in-Some-clause-done c =
    let below = subst (IsBelow c.args.setting.now (read c.args.line c.args.end c.args.sketch.now)) c.in-Some.is c.in_ok-frame.ensures.frame in
    on_ok_weaker c.go_below.result (λ walk lines.
    let rest = walk c.args.setting.now lines in
    let here = below.1 c.args.frames.now lines in
    (λ it. here.0 (rest.0 it), λ it. rest.1 (here.1 it))) c.go_below.ensures.done

pub returns-in-Some-clause-able : goal.returns-in-Some-clause-able
returns-in-Some-clause-able c =
    let below = subst (AreAbleBelow c.args.setting.now.odds) c.in-Some.is c.in_ok-frame.ensures.able in
    on_ok_weaker c.go_below.result (λ keeps able. keeps c.args.setting.now.odds (below, able)) c.go_below.ensures.able

pub returns-in-Some-clause-refused : goal.returns-in-Some-clause-refused
returns-in-Some-clause-refused c =
    let below = subst (IsBelow c.args.setting.now (read c.args.line c.args.end c.args.sketch.now)) c.in-Some.is c.in_ok-frame.ensures.frame in
    on_err_weaker c.go_below.result (λ none lines it. none c.args.setting.now lines ((below.1 c.args.frames.now lines).1 it)) c.go_below.ensures.refused

pub returns-in-None-clause-able : goal.returns-in-None-clause-able
returns-in-None-clause-able c = on_ok_weaker c.settle.result (λ keeps able. keeps c.args.setting.now.odds able) c.settle.ensures.able

pub returns-in-Some-clause-ended : goal.returns-in-Some-clause-ended
returns-in-Some-clause-ended c =
    let Ends : Walking → Type 0 = OnEnd c.args.end c.args.setting.now c.args.sketch.now c.args.line c.args.frames.now in
    let below = subst (EndsWith c.args.setting.now c.args.end c.args.sketch.now c.args.line) c.in-Some.is c.in_ok-frame.ensures.ended in
    after-weaker c.go_below.result None c.go_below.new.frames (λ w. w ≡ ended (c.in-Some.frame ∷ c.args.frames.now)) Ends (λ w e. subst Ends (sym e) (below c.args.frames.now)) c.go_below.ensures.ended

pub returns-in-None-clause-ended : goal.returns-in-None-clause-ended
returns-in-None-clause-ended c =
    let Ends : Walking → Type 0 = OnEnd c.args.end c.args.setting.now c.args.sketch.now c.args.line c.args.frames.now in
    let below = subst (EndsWith c.args.setting.now c.args.end c.args.sketch.now c.args.line) c.in-None.is c.in_ok-frame.ensures.ended in
    after-weaker c.settle.result None c.settle.new.frames (λ w. w ≡ ended c.args.frames.now) Ends (λ w e. subst Ends (sym e) (below c.args.frames.now)) c.settle.ensures.ended
