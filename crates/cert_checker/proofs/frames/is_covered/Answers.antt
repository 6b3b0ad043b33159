use Rattle.std.proofs.Common.{sym}
use Rattle.cert_checker.proofs.Opening.{ancestor_at}
use Rattle.cert_checker.proofs.frames.is_covered.Goals as goal

pub returns : goal.returns
returns c =
    rw (sym c.from-steps.ensures, ancestor_at c.args.frames.now c.from-steps.result c.index-frames-frames.result c.if-steps-eq0.false c.if-frames-steps.false, sym c.index-frames-frames.is) (rw c.query-ancestor.ensures at c.covers.ensures.answer)
