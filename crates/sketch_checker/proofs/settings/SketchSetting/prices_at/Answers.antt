use Rattle.std.proofs.Common.{subst}
use Rattle.std.specs.Prelude.{MatchOption}
use Rattle.capture_prices.specs.Prices.{PriceList}
use Rattle.sketch_proof.specs.Proofs.{Setting}
use Rattle.sketch_checker.specs.Steering.{IsLineAt}
use Rattle.sketch_checker.proofs.Steering.{priced-at}
use Rattle.sketch_checker.proofs.settings.SketchSetting.prices_at.Goals as goal

pub returns : goal.returns
returns c =
    subst (λ (g : Setting). MatchOption c.line_at.result ((p : PriceList) → IsLineAt g c.args.number p → ⊥) (λ p. IsLineAt g c.args.number p)) c.self.view_is
    (priced-at _ c.args.number c.as_slice-lines.result.now c.line_at.result c.as_slice-lines.ensures.value c.if-number-eq0.false c.line_at.ensures)
