use Rattle.std.proofs.Common.{ℕ, ◌∙◌, ap, length, map}
use Rattle.std.specs.List.{list_all}
use Rattle.sketch_body.specs.Seen.{line_of}
use Rattle.sketch_body.specs.Taken.{is_line}
use Rattle.cert_text.proofs.SketchWritten.{lines_known, sketch_put}
use Rattle.cert_text.proofs.sketch_writing.push_sketch.Goals as goal

pub push_lines-requires-clause-known : goal.push_lines-requires-clause-known
push_lines-requires-clause-known c =
    ap (λ (n : ℕ). list_all (is_line n) (map line_of c.lines.result.now)) (ap length c.prices-prices.ensures)
    ∙ ap (list_all (is_line (length c.args.body.now.prices))) c.lines.ensures ∙ lines_known c.args.body.now c.requires

pub returns : goal.returns
returns c =
    sketch_put c.args.body.now c.lines.result.now c.prices-prices.result.now c.args.out.now.items c.push_all_prices.new.out.items c.push_lines.new.out.items c.prices-prices.ensures c.lines.ensures c.in_ok-push_all_prices.ensures c.in_ok-push_lines.ensures
