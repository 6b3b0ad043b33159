use Rattle.std.proofs.Common.{ℕ, sym, subst, ◌∙◌}
use Rattle.cert_text.specs.Tree.{sketch}
use Rattle.cert_text.specs.Lines.{cut}
use Rattle.cert_text.specs.Reading.{ReadsBelow}
use Rattle.cert_text.specs.declared.node_lines.BodyLine.TheVariants.{Sketch}
use Rattle.cert_text.proofs.SketchReading.{sketch_bad, sketch_begun, sketch_done, sketch_ends, sketch_next}
use Rattle.cert_text.proofs.sketch_reading.read_sketch.Goals as goal

pub lines-init : goal.lines-init
lines-init c = sketch_begun c.args.units c.args.head.now (cut c.args.bytes.now) c.args.line _ _ (sym c.start.ensures ∙ c.in-Some.is) c.new-body.ensures

pub returns-in_default-first_line-clause-bad : goal.returns-in_default-first_line-clause-bad
returns-in_default-first_line-clause-bad c = λ depth. sketch_ends _ depth _ _ _ _ _ _ _ (sym c.is_done.ensures ∙ c.lines-test.true) c.in_default-first_line.ensures c.lines.invariant

pub returns-in_default-read_sketch_line-clause-bad : goal.returns-in_default-read_sketch_line-clause-bad
returns-in_default-read_sketch_line-clause-bad c = λ depth.
    sketch_bad _ depth _ _ _ _ _ _ _ _ _ (sym c.is_done.ensures ∙ c.lines-test.true) c.in-Some-first_line.ensures (sym c.in_default-read_sketch_line.ensures.read) c.lines.invariant

pub lines-preserved : goal.lines-preserved
lines-preserved c = sketch_next _ _ _ _ _ _ _ _ _ _ _ _ _ c.in-Some-first_line.ensures (sym c.in-Some-read_sketch_line.ensures.read) c.in-Ok.ensures.ok c.lines.invariant

pub returns-clause-ok : goal.returns-clause-ok
returns-clause-ok c = λ depth.
    subst (λ (u : ℕ). ReadsBelow (Sketch c.args.head.now) depth (cut c.args.bytes.now) c.args.line c.args.units (sketch c.lines.body) (cut c.lines.rest.now) c.lines.next u) (sym c.units.ensures)
    (sketch_done _ depth _ _ _ _ _ _ _ (sym c.is_done.ensures ∙ c.lines-test.false) c.lines.invariant)
