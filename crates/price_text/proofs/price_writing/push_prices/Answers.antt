use Rattle.price_text.proofs.PricesWritten.{put_together}
use Rattle.price_text.proofs.price_writing.push_prices.Goals as goal

pub returns-clause-text : goal.returns-clause-text
returns-clause-text c =
    put_together c.args.prices.now c.args.out.now.items _ _ _ _ _ _ _ _ _ c.takes.ensures.value c.takes-2.ensures.value c.gates.ensures.value c.push_takes.ensures.text c.push.ensures.items c.push-2.ensures.items c.push_takes-2.ensures.text c.push-3.ensures.items c.push_gates.ensures.text
