use Rattle.std.proofs.Common.{List, append-nil, refl, sym, ap}
use Rattle.capture_prices.specs.Prices.{PriceList}
use Rattle.cert_checker.proofs.sketch_walking.add_all_prices.Goals as goal

pub loop-line-init : goal.loop-line-init
loop-line-init c = record { setting = ap (λ (l : List PriceList). record c.args.walk.now.setting { prices = l }) (sym (append-nil c.args.walk.now.setting.prices)); kept = refl }
