use Rattle.std.proofs.Common.{get_or, refl}
use Rattle.std.specs.Fmt.{decimal}
use Rattle.capture_prices.specs.declared.prices.Gate.{Gate}
use Rattle.price_text.proofs.PricesWritten.{no_gate, gate_within, gates_next, pushed}
use Rattle.price_text.proofs.PriceTexts.{low_short}
use Rattle.price_text.proofs.price_writing.push_gates.Goals as goal

pub push_price-requires-clause-low : goal.push_price-requires-clause-low
push_price-requires-clause-low c = (gate_within 0 c.args.gates.now c.loop-gate.gate-index no_gate c.requires.ascending c.loop-gate-test.true).toll

pub loop-gate-preserved : goal.loop-gate-preserved
loop-gate-preserved c =
    let g : Gate = get_or c.args.gates.now c.loop-gate.gate-index no_gate in
    gates_next c.args.gates.now c.loop-gate.gate-index c.args.out.now.items c.loop-gate.out.items c.push_price.new.out.items g no_gate c.loop-gate-test.true refl
    (pushed c.loop-gate.out.items _ _ _ _ _ g.square (decimal g.toll) c.push.ensures.items c.push-in-loop-gate.ensures.items c.push-in-loop-gate-2.ensures.items c.push-in-loop-gate-3.ensures.items c.push_price.ensures.text)
    (low_short g.toll (gate_within 0 c.args.gates.now c.loop-gate.gate-index no_gate c.requires.ascending c.loop-gate-test.true).toll) c.loop-gate.invariant
