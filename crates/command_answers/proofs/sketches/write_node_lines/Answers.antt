use Rattle.std.proofs.Common.{ℕ, ◌<◌, List, length, arith}
use Rattle.sketch_body.specs.Bodies.{of_line}
use Rattle.sketch_body.specs.Seen.{line_of}
use Rattle.cert_text.specs.Lines.{ended}
use Rattle.sketch_body.specs.Texts.{item_text}
use Rattle.sketch_body.specs.declared.lines.SketchLine.{SketchLine}
use Rattle.cert_text.proofs.SketchWritten.{line_at}
use Rattle.retro_ports.proofs.Pieces.{piece_cut, piece_written}
use Rattle.command_answers.proofs.SketchLines.{at_line, lines_end}
use Rattle.command_answers.proofs.sketches.write_node_lines.Goals as goal

abbrev text_of : SketchLine → List ℕ
text_of l = ended (item_text (of_line (line_of l)))

pub node_line-requires-clause-known : goal.node_line-requires-clause-known
node_line-requires-clause-known g c =
    let inside : c.loop-line.line-index < length c.args.lines.now = omega arith in
    line_at c.args.prices c.args.lines.now c.loop-line.line-index c.line-item.result c.requires.known inside c.line-item.is

pub loop-line-preserved : goal.loop-line-preserved
loop-line-preserved g c =
    let inside : c.loop-line.line-index < length c.args.lines.now = omega arith in
    let taken = rw (c.as_slice.ensures.value, c.node_line.ensures) at c.in_ok-write_all.ensures.ok in
    piece_written _ _ _ _ _ _ _ _ _ (at_line text_of _ _ _ _ _ c.args.lines.now c.loop-line.line-index c.line-item.result inside c.line-item.is c.loop-line.invariant) taken c.in_ok-write_all.ensures.cause.kept

pub returns-in_err-write_all-clause-failed : goal.returns-in_err-write_all-clause-failed
returns-in_err-write_all-clause-failed g c =
    let inside : c.loop-line.line-index < length c.args.lines.now = omega arith in
    let cut = rw (c.as_slice.ensures.value, c.node_line.ensures) at c.in_err-write_all.ensures.failed in
    piece_cut _ _ _ _ _ _ _ _ _ (at_line text_of _ _ _ _ _ c.args.lines.now c.loop-line.line-index c.line-item.result inside c.line-item.is c.loop-line.invariant) cut

pub returns-clause-ok : goal.returns-clause-ok
returns-clause-ok g c = lines_end text_of _ _ _ _ _ c.args.lines.now c.loop-line.line-index (omega arith) c.loop-line.invariant
