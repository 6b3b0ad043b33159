use Rattle.std.proofs.Common.{IsTrue, List, subst}
use Rattle.std.specs.List.{Contains}
use Rattle.capture_prices.specs.Prices.{PriceList, are_prices}
use Rattle.sketch_proof.specs.Proofs.{Setting}
use Rattle.sketch_checker.proofs.settings.SketchSetting.are_known.Goals as goal

pub returns : goal.returns
returns c =
    subst (λ (g : Setting). (p : PriceList) → Contains g.prices p → IsTrue (are_prices p)) c.self.view_is
    (subst (λ (l : List PriceList). (p : PriceList) → Contains l p → IsTrue (are_prices p)) c.as_slice-lines.ensures.value c.are_known.ensures)
