use Rattle.std.proofs.Common.{◌++◌, refl}
use Rattle.std.proofs.lemmas.Result.{IfOk-equal}
use Rattle.std.specs.Prelude.{codes, slice_index}
use Rattle.capture_prices.specs.Prices.{all_gates}
use Rattle.prose_words.proofs.Squares.{thence}
use Rattle.balance_prose.specs.Pricing.{gates_words, prices_words}
use Rattle.balance_prose.proofs.pricing.push_priced.Goals as goal

pub returns : goal.returns
returns c =
    let o = c.args.out.now.items in
    let white = prices_words (slice_index c.args.prices.now.white 15) c.args.prices.now.white in
    let black = prices_words (slice_index c.args.prices.now.black 15) c.args.prices.now.black in
    let end = codes ": the side that captures pays it, and the man who is taken earns it. " in
    let a1 = codes "Let a capture by a white pawn cost" in
    let a2 = a1 ++ white in
    let a3 = a2 ++ codes ", and one by a black pawn" in
    let a4 = a3 ++ black in
    let h2 = thence o _ _ a1 white c.in_ok-say.ensures (rw c.takes.ensures.value at c.in_ok-push_prices.ensures) in
    let h3 = thence o _ _ a2 (codes ", and one by a black pawn") h2 c.in_ok-say-2.ensures in
    let h4 = thence o _ _ a3 black h3 (rw c.takes-2.ensures.value at c.in_ok-push_prices-2.ensures) in
    let h5 = thence o _ _ a4 end h4 c.in_ok-say-3.ensures in
    IfOk-equal c.push_gates.result c.push_gates.new.out.items _ _ c.push_gates.ensures (thence o _ _ (a4 ++ end) (gates_words c.args.prices.now.gates (all_gates c.args.prices.now)) h5 refl)
