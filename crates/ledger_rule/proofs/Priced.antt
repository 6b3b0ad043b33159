-- Prices of classes.
use Rattle.std.proofs.Common.{◌≡◌, ℕ, ◌≤◌, slice_index}
use Rattle.std.proofs.lemmas.Bool.{and_parts}
use Rattle.std.specs.Prelude.{IsTrue}
use Rattle.board_base.specs.declared.men.Colour.{Colour}
use Rattle.board_base.specs.declared.men.Colour.TheVariants.{White, Black}
use Rattle.capture_prices.specs.Prices.{PriceList, are_ascending, are_prices, takes}
use Rattle.balance_rule.proofs.Priced.{low-index}

pub takes-low : (p : PriceList) (c : Colour) → IsTrue (are_prices p) → (k : ℕ) → slice_index (takes p c) k ≤ 96
takes-low p White known k =
    let a = and_parts _ _ (and_parts _ (are_ascending 0 p.gates) known).0 in
    let b = and_parts _ _ (and_parts _ _ (and_parts _ _ a.0).0).0 in
    low-index p.white k b.1
takes-low p Black known k =
    let a = and_parts _ _ (and_parts _ (are_ascending 0 p.gates) known).0 in
    low-index p.black k (and_parts _ _ a.0).1
