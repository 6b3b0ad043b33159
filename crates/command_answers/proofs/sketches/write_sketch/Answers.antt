use Rattle.std.proofs.Common.{ℕ, ◌∙◌, ap, length, map}
use Rattle.std.specs.List.{concat, list_all}
use Rattle.cert_text.specs.Lines.{ended}
use Rattle.cert_text.specs.Written.{line_texts, price_texts}
use Rattle.cert_text.proofs.SketchWritten.{lines_known}
use Rattle.sketch_body.specs.Bodies.{items_of}
use Rattle.sketch_body.specs.Seen.{line_of}
use Rattle.sketch_body.specs.Taken.{is_line}
use Rattle.sketch_body.specs.Texts.{item_text}
use Rattle.retro_ports.proofs.Pieces.{last_failed, last_ok, piece_cut}
use Rattle.command_answers.proofs.SketchLines.{none_written, prices_written}
use Rattle.command_answers.proofs.sketches.write_sketch.Goals as goal

pub write_node_lines-requires-clause-known : goal.write_node_lines-requires-clause-known
write_node_lines-requires-clause-known g c =
    ap (λ (n : ℕ). list_all (is_line n) (map line_of c.lines-lines.result.now)) (ap length c.prices-prices.ensures)
    ∙ ap (list_all (is_line (length c.args.sketch.now.prices))) c.lines-lines.ensures ∙ lines_known c.args.sketch.now c.requires

pub returns-in_err-write_price_lines-clause-failed : goal.returns-in_err-write_price_lines-clause-failed
returns-in_err-write_price_lines-clause-failed g c =
    piece_cut _ _ _ _ _ _ _ _ _ (none_written c.args.sketch.now c.lines-lines.result.now c.prices-prices.result.now _ (g.K.Sink.faults c.args.sink.now) c.prices-prices.ensures c.lines-lines.ensures) c.in_err-write_price_lines.ensures.failed

pub returns-clause-ok : goal.returns-clause-ok
returns-clause-ok g c =
    let rest = prices_written c.args.sketch.now c.lines-lines.result.now c.prices-prices.result.now _ _ _ _ c.prices-prices.ensures c.lines-lines.ensures c.in_ok-write_price_lines.ensures.ok c.in_ok-write_price_lines.ensures.cause.kept in
    last_ok _ _ _ _ _ (concat (map ended (map item_text (items_of c.args.sketch.now)))) (concat (line_texts c.lines-lines.result.now)) c.write_node_lines.result rest c.write_node_lines.ensures.ok

pub returns-clause-failed : goal.returns-clause-failed
returns-clause-failed g c =
    let rest = prices_written c.args.sketch.now c.lines-lines.result.now c.prices-prices.result.now _ _ _ _ c.prices-prices.ensures c.lines-lines.ensures c.in_ok-write_price_lines.ensures.ok c.in_ok-write_price_lines.ensures.cause.kept in
    last_failed _ _ _ _ _ (concat (map ended (map item_text (items_of c.args.sketch.now)))) (concat (line_texts c.lines-lines.result.now)) c.write_node_lines.result rest c.write_node_lines.ensures.failed
