-- Where the balance of captures supports a query, no game leads there.
use Rattle.std.proofs.Common.{inl, inr, ◌≡◌, ℕ, ◌+◌, ◌≤◌, Bool, true, List, refl, ap, sym, ◌∙◌, subst, arith}
use Rattle.std.proofs.lemmas.Bool.{and_from, cases_Bool}
use Rattle.std.specs.Prelude.{IsTrue}
use Rattle.general_lemmas.proofs.Differing.{contains-has, has-contains, pairs-differ}
use Rattle.board_base.specs.Board.{Places, array_of, at, is_of, is_the, opponent, same_colour, same_kind, men_squares}
use Rattle.board_base.specs.Game.{board_after}
use Rattle.board_base.specs.declared.men.Colour.{Colour}
use Rattle.board_base.specs.declared.men.Colour.TheVariants.{White, Black}
use Rattle.board_base.specs.declared.men.Kind.TheVariants.{King}
use Rattle.board_base.specs.declared.moves.Move.{Move}
use Rattle.men_account.specs.Labels.{labels_after}
use Rattle.men_account.proofs.PawnLaws.{man-of}
use Rattle.query_base.specs.Asked.{Asked}
use Rattle.query_base.specs.Reach.{Reaches}
use Rattle.cage_rules.specs.Laws.{Caged, Walled}
use Rattle.cage_rules.specs.Reach.{LeadsTo}
use Rattle.cage_rules.proofs.Histories.{reaches-leads}
use Rattle.cage_rules.proofs.WalledGames.{caged-walled}
use Rattle.capture_prices.specs.Prices.{PriceList, are_prices, gate, take}
use Rattle.men_ledger.proofs.Balance.{earns-later}
use Rattle.men_ledger.proofs.Closing.{costs-fit}
use Rattle.balance_rule.specs.Balance.{BalanceAt, BalanceSupports, most_cost, side_cost}
use Rattle.balance_rule.proofs.GateSums.{gates-sum}
use Rattle.balance_rule.proofs.StandingMen.{kind-turned, spent, stands-most, stays}
use Rattle.men_fates.proofs.Lasting.{king-lasts}
use Rattle.balance_rule.proofs.LostMen.{gained, gone-most}
use Rattle.balance_rule.proofs.TrueHomes.{fate, fate_at, fate_cost, home-listed, least-most, listed-home, missing, squares-differ, standing}

-- home by home
fate-most : (o : List Bool) (g : List Move) (set : List Bool) (p : PriceList) (c : Colour) (h : ℕ) → IsTrue (are_prices p) → Walled o g set → is_of c (at (array_of o) h) ≡ true → fate_cost p set c (array_of o) (board_after o g) (labels_after o g) h + gained p o g c h ≤ 96 + spent p o g c h
fate-most o g set p c h known walled home = elim (fate o g h walled.game) [
  | standing s place label ↦
      let here = ap (fate_at p set c (array_of o) (board_after o g) h) place in
      omega (arith, here, stands-most o g set p c h s walled (stays o g c h s walled.game home label), earns-later o g (opponent c) (take p (opponent c)) s h walled.game label)
  | missing none lost ↦
      let here = ap (fate_at p set c (array_of o) (board_after o g) h) none in
      let first = man-of (is_of c) (at (array_of o) h) refl home in
      let own : same_colour c first.0.colour ≡ true = sym (ap (is_of c) first.1) ∙ home in
      elim (cases_Bool (same_kind first.0.kind King)) [
        | inl king ↦ absurd (king-lasts o g c h walled.game (ap (is_the c King) first.1 ∙ and_from _ _ own (kind-turned King first.0.kind ∙ king)) lost)
        | inr other ↦ omega (arith, here, gone-most o g set p c known walled h first.0 first.1 own lost other)
      ]
]

-- the least costs of both sides are no more than 96 for each man and all gates
pub least-both : (o : List Bool) (g : List Move) (set : List Bool) (p : PriceList) → IsTrue (are_prices p) → Walled o g set → side_cost o (board_after o g) p set White + side_cost o (board_after o g) p set Black ≤ most_cost o p
least-both o g set p known walled =
    let cost : Colour → ℕ → ℕ = λ c. fate_cost p set c (array_of o) (board_after o g) (labels_after o g) in
    let homes : Colour → List ℕ = λ c. men_squares c (array_of o) in
    let fit = costs-fit o g 96 (take p) (gate p) homes cost walled.game (λ c. pairs-differ (homes c) (squares-differ c (array_of o))) (λ c h home. has-contains (homes c) h (home-listed o c h home))
    (λ c h there. fate-most o g set p c h known walled (listed-home o c h (contains-has (homes c) h there))) in
    omega (arith, fit, least-most o g p set White walled.game, least-most o g p set Black walled.game, gates-sum p)

pub balance-closed : (o : List Bool) (q : Asked) (set : List Bool) (p : PriceList) → BalanceAt o q set p → (g : List Move) → LeadsTo o g q → ⊥
balance-closed o q set p supports g leads =
    let caged : Caged o g q set = record { leads = leads; frozen = supports.settled.frozen } in
    let least = subst (λ (b : Places). side_cost o b p set White + side_cost o b p set Black ≤ most_cost o p) leads.board (least-both o g set p supports.prices (caged-walled o g q set caged)) in
    omega (arith, least, supports.above)

pub balance-unreached : (q : Asked) (set : List Bool) (p : PriceList) → BalanceSupports q set p → (g : List Move) → Reaches g q → ⊥
balance-unreached q set p supports g reaches = balance-closed q.odds q set p supports g (reaches-leads g q reaches)
