use Rattle.std.proofs.Common.{◌≡◌, ◌+◌, ◌<◌, get_or, length, arith}
use Rattle.line_claims.proofs.LineTexts.{after_first, fits_at, readable_more, written_more}
use Rattle.line_claims.proofs.writing.push_steps.Goals as goal

pub push_next-requires-clause-text : goal.push_next-requires-clause-text
push_next-requires-clause-text c = fits_at c.args.steps.now (c.loop-step.step-index + 1) c.step-item.result (omega arith) (after_first c.args.steps.now c.loop-step.step-index c.step-item.result c.step-item.is) c.requires.texts

pub loop-step-preserved : goal.loop-step-preserved
loop-step-preserved c =
    let inside : c.loop-step.step-index + 1 < length c.args.steps.now = omega arith in
    let here : c.step-item.result ≡ get_or c.args.steps.now (c.loop-step.step-index + 1) c.step-item.result = after_first c.args.steps.now c.loop-step.step-index c.step-item.result c.step-item.is in
    record {
      text = written_more c.args.steps.now (c.loop-step.step-index + 1) c.step-item.result c.args.out.now.items c.loop-step.out.items c.push_next.new.out.items inside (omega arith) here c.loop-step.invariant.text c.push_next.ensures.text;
      short = omega arith;
      read = readable_more c.args.steps.now (c.loop-step.step-index + 1) c.step-item.result inside here c.loop-step.invariant.read c.push_next.ensures.read;
    }
