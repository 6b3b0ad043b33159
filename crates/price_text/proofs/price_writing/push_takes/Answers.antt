use Rattle.std.proofs.Common.{◌+◌, ◌<◌, length, sym, subst, refl, arith}
use Rattle.price_text.proofs.PricesWritten.{TakesWritten, price_within, takes_next}
use Rattle.price_text.proofs.price_writing.push_takes.Goals as goal

pub push_price-requires-clause-low : goal.push_price-requires-clause-low
push_price-requires-clause-low c =
    let inside : c.loop-take.take-index < length c.args.takes.now = omega arith in
    price_within c.args.takes.now c.loop-take.take-index c.requires.low inside

pub loop-take-preserved : goal.loop-take-preserved
loop-take-preserved c =
    let inside : c.loop-take.take-index < length c.args.takes.now = omega arith in
    subst (TakesWritten c.args.takes.now (c.loop-take.take-index + 1) c.args.out.now.items) (sym c.push.ensures.items)
    (takes_next c.args.takes.now c.loop-take.take-index c.args.out.now.items c.loop-take.out.items c.push_price.new.out.items _ inside refl c.push_price.ensures.text c.push_price.ensures.short c.loop-take.invariant)
