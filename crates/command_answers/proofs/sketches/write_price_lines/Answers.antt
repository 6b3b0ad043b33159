use Rattle.std.proofs.Common.{ℕ, ◌<◌, List, length, arith}
use Rattle.capture_prices.specs.Prices.{PriceList}
use Rattle.cert_text.specs.Lines.{ended}
use Rattle.price_text.specs.PriceTexts.{prices_text}
use Rattle.retro_ports.proofs.Pieces.{piece_cut, piece_written}
use Rattle.command_answers.proofs.SketchLines.{at_line, lines_end}
use Rattle.command_answers.proofs.sketches.write_price_lines.Goals as goal

abbrev text_of : PriceList → List ℕ
text_of p = ended (prices_text p)

pub loop-price-preserved : goal.loop-price-preserved
loop-price-preserved g c =
    let inside : c.loop-price.price-index < length c.args.prices.now = omega arith in
    let taken = rw (c.as_slice.ensures.value, c.price_line.ensures) at c.in_ok-write_all.ensures.ok in
    piece_written _ _ _ _ _ _ _ _ _ (at_line text_of _ _ _ _ _ c.args.prices.now c.loop-price.price-index c.price-item.result inside c.price-item.is c.loop-price.invariant) taken c.in_ok-write_all.ensures.cause.kept

pub returns-in_err-write_all-clause-failed : goal.returns-in_err-write_all-clause-failed
returns-in_err-write_all-clause-failed g c =
    let inside : c.loop-price.price-index < length c.args.prices.now = omega arith in
    let cut = rw (c.as_slice.ensures.value, c.price_line.ensures) at c.in_err-write_all.ensures.failed in
    piece_cut _ _ _ _ _ _ _ _ _ (at_line text_of _ _ _ _ _ c.args.prices.now c.loop-price.price-index c.price-item.result inside c.price-item.is c.loop-price.invariant) cut

pub returns-clause-ok : goal.returns-clause-ok
returns-clause-ok g c = lines_end text_of _ _ _ _ _ c.args.prices.now c.loop-price.price-index (omega arith) c.loop-price.invariant
