use Rattle.std.proofs.Common.{◌<◌, length, arith}
use Rattle.cert_text.proofs.SketchWritten.{line_at}
use Rattle.cert_text.proofs.sketch_writing.push_lines.Goals as goal

pub write_line-requires-clause-known : goal.write_line-requires-clause-known
write_line-requires-clause-known c =
    let inside : c.loop-line.line-index < length c.args.lines.now = omega arith in
    line_at c.args.prices c.args.lines.now c.loop-line.line-index c.line-item.result c.requires.known inside c.line-item.is
