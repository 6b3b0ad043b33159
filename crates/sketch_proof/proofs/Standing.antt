-- What a node says of the sketch, an account says.
use Rattle.std.proofs.Common.{◌≡◌, Bool, true, ℕ, List}
use Rattle.board_base.specs.Rights.{Rights}
use Rattle.capture_prices.specs.Prices.{PriceList, are_prices}
use Rattle.sketch_node.specs.Figures.{Sketch}
use Rattle.sketch_node.specs.Account.{AreTooDear, Counted, against, by_marks}
use Rattle.sketch_node.specs.Closes.{Closes, Forces, costs, foreign}
use Rattle.sketch_node.specs.FrozenSets.{greatest_frozen}
use Rattle.sketch_node.specs.LeastZones.{pair_zones}
use Rattle.sketch_node.proofs.Joining.{frozen-fixed}
use Rattle.sketch_node.specs.Basis.{IsAbove, IsClosedAt, basis_of}
use Rattle.sketch_node.specs.Nodes.{IsMarkable, IsVoid}
use Rattle.sketch_proof.proofs.Grounds.{greatest-frozen, greatest-size, pairs-are}
use Rattle.sketch_proof.proofs.Whole.{AreWhole}

pub void-closes : (o : List Bool) (held : Rights) (S : Sketch) → IsVoid o held S → Closes o held S
void-closes o held S void = foreign (greatest_frozen held S) (greatest-frozen held S) void

dear : (o : List Bool) (held : Rights) (S : Sketch) (p : PriceList) (xs : List Counted) → AreWhole S → are_prices p ≡ true → IsAbove (basis_of o held S p) xs → AreTooDear o S (greatest_frozen held S) (pair_zones (greatest_frozen held S) S) p xs
dear o held S p xs whole known it = record {
  fixed = frozen-fixed held S (greatest_frozen held S) (greatest-size held S) (greatest-frozen held S);
  zones_are = pairs-are (greatest_frozen held S) S whole;
  prices = known;
  above = it.above;
}

pub closed-closes : (o : List Bool) (held : Rights) (S : Sketch) (p : PriceList) → AreWhole S → are_prices p ≡ true → IsClosedAt o held S p → Closes o held S
closed-closes o held S p whole known it = costs (greatest_frozen held S) (pair_zones (greatest_frozen held S) S) p (greatest-frozen held S) (dear o held S p (by_marks S) whole known it)

pub markable-forces : (o : List Bool) (held : Rights) (S : Sketch) (p : PriceList) (n : ℕ) → AreWhole S → are_prices p ≡ true → (it : IsMarkable o held p S n) → Forces o held it.index S
markable-forces o held S p n whole known it = record {
  set = greatest_frozen held S;
  zones = pair_zones (greatest_frozen held S) S;
  prices = p;
  frozen = greatest-frozen held S;
  forced = dear o held S p (against it.index S) whole known it.forced;
}
