-- What the scales say of a side, and of both.
use Rattle.std.proofs.Common.{◌≡◌, ℕ, ◌+◌, ◌<◌, ◌≤◌, Bool, List, length, subst, arith}
use Rattle.std.specs.Prelude.{Option, Some, None, MatchOption}
use Rattle.std.specs.List.{filter}
use Rattle.board_base.specs.Board.{array_of}
use Rattle.board_base.specs.declared.men.Colour.{Colour}
use Rattle.board_base.specs.declared.men.Colour.TheVariants.{White, Black}
use Rattle.capture_prices.specs.Prices.{PriceList}
use Rattle.balance_rule.specs.Balance.{men_on, most_cost}
use Rattle.sketch_grounds.specs.Account.{Counted, figures_cost, is_figure_of}
use Rattle.sketch_grounds.specs.Zones.{Room, room_past}
use Rattle.sketch_account.specs.Basis.{AreFew, Basis, IsAbove, cost_on}
use Rattle.sketch_account.specs.Grounds.{IsGround, IsGroundOf}
use Rattle.sketch_account.specs.declared.grounds.Ground.{Ground}

both-mapped : (r : Option ℕ) (A B : Type 0) (P Q : ℕ → Type 0) → (A → B) → ((n : ℕ) → P n → Q n) → MatchOption r A P → MatchOption r B Q
both-mapped None A B P Q none some h = none h
both-mapped (Some n) A B P Q none some h = some n h

-- what is told of a side's ground, of the basis
abbrev Told : List Bool → PriceList → List Bool → Room → List Counted → Colour → Option ℕ → Type 0
Told o p wall R xs c r = MatchOption r (men_on c (array_of o) < length (filter (is_figure_of c) xs)) (λ cost. (length (filter (is_figure_of c) xs) ≤ men_on c (array_of o)) × (cost ≡ figures_cost o p wall R xs c))

pub side-told : (b : Basis) (o : List Bool) (p : PriceList) (wall : List Bool) (zones : List (List Bool)) (c : Colour) (g : Ground) (xs : List Counted) (r : Option ℕ) → record { odds = o; prices = p; wall = wall; zones = zones } ≡ b → IsGroundOf o p wall zones c g → ((q : PriceList) (R : Room) → IsGround o q R g → Told o q g.base.frozen R xs g.base.side r) → MatchOption r (AreFew b xs c → ⊥) (λ cost. AreFew b xs c × (cost ≡ cost_on b xs c))
side-told b o p wall zones c g xs r view is told =
    let R : Room = room_past wall zones in
    let here : Told o p wall R xs c r = subst (λ (l : List Bool). Told o p l R xs c r) is.wall_is (subst (λ (d : Colour). Told o p g.base.frozen R xs d r) is.side (told p R is.ground)) in
    subst (λ (y : Basis). MatchOption r (AreFew y xs c → ⊥) (λ cost. AreFew y xs c × (cost ≡ cost_on y xs c))) view
    (both-mapped r (men_on c (array_of o) < length (filter (is_figure_of c) xs)) (length (filter (is_figure_of c) xs) ≤ men_on c (array_of o) → ⊥) (λ cost. (length (filter (is_figure_of c) xs) ≤ men_on c (array_of o)) × (cost ≡ figures_cost o p wall R xs c)) (λ cost. (length (filter (is_figure_of c) xs) ≤ men_on c (array_of o)) × (cost ≡ figures_cost o p wall R xs c))
    (λ more few. omega (arith, more, few)) (λ n h. h) here)

pub above-told : (b : Basis) (xs : List Counted) (most white black : ℕ) → most ≡ most_cost b.odds b.prices → AreFew b xs White × (white ≡ cost_on b xs White) → AreFew b xs Black × (black ≡ cost_on b xs Black) → most < white + black → IsAbove b xs
above-told b xs most white black most_is w d less = record { white = w.0; black = d.0; above = omega (arith, most_is, w.1, d.1, less) }

pub above-tells : (b : Basis) (xs : List Counted) (most white black : ℕ) → most ≡ most_cost b.odds b.prices → white ≡ cost_on b xs White → black ≡ cost_on b xs Black → IsAbove b xs → most < white + black
above-tells b xs most white black most_is w d above = omega (arith, most_is, w, d, above.above)
