use Rattle.std.proofs.Common.{◌≡◌, List, subst, sym}
use Rattle.std.specs.Prelude.{MatchOption}
use Rattle.board_base.specs.declared.men.Colour.{Colour}
use Rattle.board_base.specs.declared.men.Colour.TheVariants.{White, Black}
use Rattle.sketch_grounds.specs.Account.{Counted}
use Rattle.sketch_account.specs.Basis.{AreFew, cost_on}
use Rattle.sketch_account.specs.Counting.{counted_as}
use Rattle.sketch_account.proofs.Weighed.{side-told}
use Rattle.sketch_account.proofs.accounts.Scales.side_cost.Goals as goal

pub returns-in-White-clause-value : goal.returns-in-White-clause-value
returns-in-White-clause-value c =
    let b = c.args.self.now in
    let xs : List Counted = counted_as c.args.against c.args.sketch.now in
    subst (λ (d : Colour). MatchOption c.ground_cost.result (AreFew b xs d → ⊥) (λ cost. AreFew b xs d × (cost ≡ cost_on b xs d))) (sym c.in-White.is)
    (side-told b c.self.inside.odds c.self.inside.prices c.self.inside.wall c.self.inside.zones White c.self.inside.white xs c.ground_cost.result c.self.view_is c.self.invariant.0 c.ground_cost.ensures.value)

pub returns-in-Black-clause-value : goal.returns-in-Black-clause-value
returns-in-Black-clause-value c =
    let b = c.args.self.now in
    let xs : List Counted = counted_as c.args.against c.args.sketch.now in
    subst (λ (d : Colour). MatchOption c.ground_cost-in-Black.result (AreFew b xs d → ⊥) (λ cost. AreFew b xs d × (cost ≡ cost_on b xs d))) (sym c.in-Black.is)
    (side-told b c.self.inside.odds c.self.inside.prices c.self.inside.wall c.self.inside.zones Black c.self.inside.black xs c.ground_cost-in-Black.result c.self.view_is c.self.invariant.1 c.ground_cost-in-Black.ensures.value)
