use Rattle.std.proofs.Common.{◌+◌, ◌∷◌, ℕ, List, Option, Bor, sym, ap, subst, ◌∙◌}
use Rattle.capture_prices.specs.declared.prices.Gate.{Gate}
use Rattle.price_text.proofs.WordLemmas.{left}
use Rattle.price_text.proofs.PriceWords.{GatesSoFar, cut_left, gates_bad, gates_next, gates_odd, gates_over}
use Rattle.price_text.proofs.price_reading.read_gates.Goals as goal

pub returns-in_default-behind : goal.returns-in_default-behind
returns-in_default-behind c =
    gates_odd c.args.text.now c.loop-n.n c.loop-n.least c.loop-n.rest c.loop-n.gates.items c.split_part.result.0.now c.loop-n-test.true
    (cut_left c.loop-n.rest c.in-Some.pair c.split_part.result.0.now c.split_part.result.1 c.in-Some.is c.split_part.ensures.part.free c.split_part.ensures.rest ∙ ap (λ (o : Option (Bor (List ℕ))). c.split_part.result.0.now ∷ left o) c.in_default-behind.is) c.loop-n.invariant

pub returns-in_default-read_gate : goal.returns-in_default-read_gate
returns-in_default-read_gate c =
    gates_bad c.args.text.now c.loop-n.n c.loop-n.least c.loop-n.rest c.loop-n.gates.items c.split_part.result.0.now c.split_part-in-loop-n.result.0.now (left c.split_part-in-loop-n.result.1) c.loop-n-test.true
    (cut_left c.loop-n.rest c.in-Some.pair c.split_part.result.0.now c.split_part.result.1 c.in-Some.is c.split_part.ensures.part.free c.split_part.ensures.rest
    ∙ ap (λ (l : List (List ℕ)). c.split_part.result.0.now ∷ l) (cut_left c.split_part.result.1 c.in-Some-behind.behind c.split_part-in-loop-n.result.0.now c.split_part-in-loop-n.result.1 c.in-Some-behind.is c.split_part-in-loop-n.ensures.part.free c.split_part-in-loop-n.ensures.rest))
    (sym c.in_default-read_gate.ensures.value) c.loop-n.invariant

pub loop-n-preserved : goal.loop-n-preserved
loop-n-preserved c =
    subst (λ (l : List Gate). GatesSoFar c.args.text.now (c.loop-n.n + 1) (c.in-Some-read_gate.gate.square + 1) c.split_part-in-loop-n.result.1 l) (sym c.push.ensures.items)
    (gates_next c.args.text.now c.loop-n.n c.loop-n.least c.loop-n.rest c.split_part-in-loop-n.result.1 c.loop-n.gates.items c.split_part.result.0.now c.split_part-in-loop-n.result.0.now c.in-Some-read_gate.gate c.loop-n-test.true
    (cut_left c.loop-n.rest c.in-Some.pair c.split_part.result.0.now c.split_part.result.1 c.in-Some.is c.split_part.ensures.part.free c.split_part.ensures.rest
    ∙ ap (λ (l : List (List ℕ)). c.split_part.result.0.now ∷ l) (cut_left c.split_part.result.1 c.in-Some-behind.behind c.split_part-in-loop-n.result.0.now c.split_part-in-loop-n.result.1 c.in-Some-behind.is c.split_part-in-loop-n.ensures.part.free c.split_part-in-loop-n.ensures.rest))
    (sym c.in-Some-read_gate.ensures.value) c.in-Some-read_gate.ensures.on_board c.loop-n.invariant)

pub returns-then-is_some : goal.returns-then-is_some
returns-then-is_some c = gates_over c.args.text.now c.loop-n.n c.loop-n.least c.loop-n.rest c.loop-n.gates.items c.loop-n-test.false (sym c.if-is_some.ensures) c.loop-n.invariant
