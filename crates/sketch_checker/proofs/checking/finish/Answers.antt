use Rattle.std.proofs.Common.{◌≡◌, ℕ, ◌+◌, ap, refl, ◌∙◌, subst, arith}
use Rattle.sketch_proof.specs.Proofs.{Setting}
use Rattle.sketch_checker.specs.LineWalk.{IsStop, OnLine, going}
use Rattle.sketch_body.specs.Seen.{line_of}
use Rattle.sketch_checker.proofs.Finishing.{finish-end, finish-not, finish-step, walk-ends, walk-step, walk-stops}
use Rattle.sketch_checker.proofs.checking.finish.Goals as goal

pub loop-line-init : goal.loop-line-init
loop-line-init c = record {
  done = (λ it. it, λ it. it);
  setting = refl;
  count = λ few. refl;
  walked = λ last few walk. walk;
}

pub loop-line-preserved : goal.loop-line-preserved
loop-line-preserved c = record {
  done = finish-step c.args.start c.loop-line.walk c.take.new.self c.args.lines.now c.loop-line.line-index c.line-item.result c.loop-line-test.true c.line-item.is c.in-Ok.ensures.done c.loop-line.invariant.done;
  setting = c.in-Ok.ensures.setting ∙ c.loop-line.invariant.setting;
  count = λ few.
      let before = c.loop-line.invariant.count few in
      let inside = c.loop-line-test.true in
      c.next_number-number.ensures (omega (arith, few, before, inside)) ∙ ap (λ (n : ℕ). n + 1) before;
  walked = λ last few.
      let before = c.loop-line.invariant.count few in
      let inside = c.loop-line-test.true in
      let number : c.next_number-number.result ≡ c.loop-line.line-index + 1 = c.next_number-number.ensures (omega (arith, few, before, inside)) ∙ ap (λ (n : ℕ). n + 1) before in
      let on = subst (λ (g : Setting). OnLine g c.loop-line.walk.opened c.loop-line.walk.frames c.next_number-number.result (line_of c.line-item.result) (going c.take.new.self.opened c.take.new.self.frames)) c.loop-line.invariant.setting c.in-Ok.ensures.line in
      walk-step c.args.start.setting (going c.args.start.opened c.args.start.frames) c.args.lines.now c.loop-line.line-index c.next_number-number.result c.loop-line.walk.opened c.loop-line.walk.frames _ c.line-item.result c.loop-line-test.true c.line-item.is number on (λ end. c.loop-line.invariant.walked end few) last;
}

pub returns-in-Err-clause-refused : goal.returns-in-Err-clause-refused
returns-in-Err-clause-refused c = finish-not c.args.start c.loop-line.walk c.loop-line.walk c.args.lines.now c.loop-line.line-index c.line-item.result c.loop-line-test.true c.line-item.is c.in-Err.ensures.refused c.loop-line.invariant.done

pub returns-in-Err-clause-walked : goal.returns-in-Err-clause-walked
returns-in-Err-clause-walked c = λ few.
    let before = c.loop-line.invariant.count few in
    let inside = c.loop-line-test.true in
    let number : c.next_number-number.result ≡ c.loop-line.line-index + 1 = c.next_number-number.ensures (omega (arith, few, before, inside)) ∙ ap (λ (n : ℕ). n + 1) before in
    let on = subst (λ (g : Setting). IsStop c.in-Err.fault (OnLine g c.loop-line.walk.opened c.loop-line.walk.frames c.next_number-number.result (line_of c.line-item.result))) c.loop-line.invariant.setting c.in-Err.ensures.line in
    walk-stops c.args.start.setting (going c.args.start.opened c.args.start.frames) c.args.lines.now c.loop-line.line-index c.next_number-number.result c.in-Err.fault c.loop-line.walk.opened c.loop-line.walk.frames c.line-item.result c.loop-line-test.true c.line-item.is number on (λ end. c.loop-line.invariant.walked end few)

pub returns-clause-done : goal.returns-clause-done
returns-clause-done c = finish-end c.args.start c.loop-line.walk c.args.lines.now c.loop-line.line-index c.is_done.result (omega arith) c.is_done.ensures.done c.loop-line.invariant.done

pub returns-clause-walked : goal.returns-clause-walked
returns-clause-walked c = λ few. (
  c.loop-line.walk.opened,
  c.loop-line.walk.frames,
  c.is_done.ensures.nothing,
  walk-ends c.args.start.setting (going c.args.start.opened c.args.start.frames) c.args.lines.now c.loop-line.line-index 0 (going c.loop-line.walk.opened c.loop-line.walk.frames) (omega arith) (λ end. c.loop-line.invariant.walked end few),
)
