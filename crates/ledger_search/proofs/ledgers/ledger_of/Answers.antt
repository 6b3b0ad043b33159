use Rattle.price_search.specs.FlatPrices.{flat_prices}
use Rattle.price_search.specs.declared.payers.Payers.TheVariants.{Both, WhiteAlone, BlackAlone}
use Rattle.ledger_search.proofs.Grown.{all-flat}
use Rattle.ledger_search.proofs.ledgers.ledger_of.Goals as goal

pub returns : goal.returns
returns c =
    let q = c.args.query.now in
    let set = c.greatest_as_array-set.result in
    let white = c.learn_flat-white.ensures.grows in
    let black = c.learn_flat-black.ensures.grows in
    let near = c.learn_near.ensures in
    record {
      set = set;
      frozen = c.greatest_as_array-set.ensures.frozen;
      as_array = c.greatest_as_array-set.ensures.as_array;
      greatest = c.greatest_as_array-set.ensures.greatest;
      ledger = near.sound (black.sound (white.sound (c.learn_flat-both.ensures.grows.sound (c.no_ledger.ensures q))));
      flat = all-flat q set c.learn_near.result
          (near.stays set (flat_prices Both) (black.stays set (flat_prices Both) (white.stays set (flat_prices Both) c.learn_flat-both.ensures.all)))
          (near.stays set (flat_prices WhiteAlone) (black.stays set (flat_prices WhiteAlone) c.learn_flat-white.ensures.all))
          (near.stays set (flat_prices BlackAlone) c.learn_flat-black.ensures.all);
    }
