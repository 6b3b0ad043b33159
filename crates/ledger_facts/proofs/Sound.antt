-- No game that leads to a query has a property that prices refute.
use Rattle.std.proofs.Common.{◌≡◌, ℕ, ◌+◌, ◌≤◌, Bool, true, false, cond, List, refl, ap, subst, arith}
use Rattle.std.specs.Prelude.{IsTrue}
use Rattle.std.specs.List.{sum_by}
use Rattle.general_lemmas.proofs.Differing.{contains-has, has-contains, pairs-differ}
use Rattle.board_base.specs.Board.{Places, array_of, at, is_of, opponent, men_squares, same_colour}
use Rattle.board_base.specs.Game.{board_after}
use Rattle.board_base.specs.declared.men.Colour.{Colour}
use Rattle.board_base.specs.declared.men.Colour.TheVariants.{White, Black}
use Rattle.board_base.specs.declared.moves.Move.{Move}
use Rattle.query_base.specs.Asked.{Asked}
use Rattle.query_base.specs.Reach.{Reaches}
use Rattle.cage_rules.specs.Laws.{Caged, Walled}
use Rattle.cage_rules.specs.Reach.{LeadsTo}
use Rattle.cage_rules.proofs.Histories.{reaches-leads}
use Rattle.cage_rules.proofs.WalledGames.{caged-walled}
use Rattle.men_fates.specs.Deeds.{strikes}
use Rattle.capture_prices.specs.Prices.{PriceList, are_prices, gate, take, toll_at}
use Rattle.capture_prices.specs.declared.prices.Gate.{Gate}
use Rattle.men_ledger.specs.Files.{gates_passed, trodden}
use Rattle.men_ledger.specs.Ledger.{earned, paid, turnover}
use Rattle.men_ledger.proofs.Balance.{earns-later}
use Rattle.balance_rule.specs.Balance.{most_cost}
use Rattle.balance_rule.proofs.GateSums.{gates-sum}
use Rattle.balance_rule.proofs.LostMen.{gained}
use Rattle.balance_rule.proofs.StandingMen.{spent}
use Rattle.balance_rule.proofs.TrueHomes.{cost, cost_of, fate, home-listed, listed-home, missing, squares-differ, standing, table-most}
use Rattle.ledger_facts.specs.Supposed.{IsSupposed, captures}
use Rattle.ledger_facts.specs.Accounts.{cost_table_if, earned_over, gone_if, gone_row_if, list_for, paid_over, raised, side_cost_if, stand_row_if, stands_if}
use Rattle.ledger_facts.specs.Refuted.{IsRefuted}
use Rattle.ledger_facts.specs.declared.suppositions.Squares.{Squares}
use Rattle.ledger_facts.specs.declared.suppositions.Supposition.{Supposition}
use Rattle.ledger_facts.specs.declared.suppositions.Supposition.TheVariants.{Began, Went, Stands, Gone, AtMost, AtLeast}
use Rattle.ledger_facts.proofs.Apart.{costs-apart}
use Rattle.ledger_facts.proofs.Cells.{gone-fits, stand-fits}
use Rattle.ledger_facts.proofs.Raised.{turnover-raised}

module _ (o : List Bool) (g : List Move) (set : List Bool) (walled : Walled o g set) (x : Supposition) (true_here : IsSupposed x o g) where
  -- what the man of a home costs on a square, and if he is gone
  abbrev stand : PriceList → Colour → ℕ → ℕ → ℕ
  stand p c h s = stands_if x p set c (at (array_of o) h) h (at (board_after o g) s) s

  abbrev away : PriceList → Colour → ℕ → ℕ
  away p c h = gone_if x p set c (at (array_of o) h) h

  -- home by home
  fate-most : (p : PriceList) (c : Colour) (h : ℕ) → IsTrue (are_prices p) → is_of c (at (array_of o) h) ≡ true → cost o g c (stand p c) (away p c) h + gained p o g c h ≤ 96 + spent p o g c h
  fate-most p c h known home = elim (fate o g h walled.game) [
    | standing s place label ↦
        let here = ap (cost_of (stand p c) (away p c) h) place in
        omega (arith, here, stand-fits o g set p c walled h home s label x true_here, earns-later o g (opponent c) (take p (opponent c)) s h walled.game label)
    | missing none lost ↦
        let here = ap (cost_of (stand p c) (away p c) h) none in
        omega (arith, here, gone-fits o g set p c walled h home known lost x true_here)
  ]

  side-most : (p : PriceList) (c : Colour) → side_cost_if x o (board_after o g) p set c ≤ sum_by (cost o g c (stand p c) (away p c)) (men_squares c (array_of o))
  unfolding cost_table_if stand_row_if gone_row_if
  side-most p c = table-most o g c (stand p c) (away p c) walled.game

  -- with the prices of its side's list, and the gates of another that has the same
  home-most : (p : PriceList) (list : Colour → PriceList) → ((c : Colour) → IsTrue (are_prices (list c))) → ((c : Colour) → (list c).gates ≡ p.gates) → (c : Colour) (h : ℕ) → is_of c (at (array_of o) h) ≡ true
      → cost o g c (stand (list c) c) (away (list c) c) h + earned (take (list (opponent (opponent c))) (opponent c)) (strikes o g (opponent c)) h ≤ 96 + (paid (take (list c) c) (strikes o g c) h + gates_passed (gate p) o g c h)
  home-most p list known gates White h home =
      let same : gates_passed (gate (list White)) o g White h ≡ gates_passed (gate p) o g White h = ap (λ (l : List Gate). sum_by (λ s. toll_at l s) (trodden o g White h)) (gates White) in
      omega (arith, fate-most (list White) White h (known White) home, same)
  home-most p list known gates Black h home =
      let same : gates_passed (gate (list Black)) o g Black h ≡ gates_passed (gate p) o g Black h = ap (λ (l : List Gate). sum_by (λ s. toll_at l s) (trodden o g Black h)) (gates Black) in
      omega (arith, fate-most (list Black) Black h (known Black) home, same)

  -- both sides, each by prices of its own with the same gates
  pub both-most : (p : PriceList) (list : Colour → PriceList) → ((c : Colour) → IsTrue (are_prices (list c))) → ((c : Colour) → (list c).gates ≡ p.gates)
      → side_cost_if x o (board_after o g) (list White) set White + side_cost_if x o (board_after o g) (list Black) set Black + (turnover (take (list Black) White) (strikes o g White) + turnover (take (list White) Black) (strikes o g Black))
      ≤ most_cost o p + (turnover (take (list White) White) (strikes o g White) + turnover (take (list Black) Black) (strikes o g Black))
  both-most p list known gates =
      let homes : Colour → List ℕ = λ c. men_squares c (array_of o) in
      let fit = costs-apart o g 96 (λ c. take (list c) c) (λ c. take (list (opponent c)) c) (gate p) homes (λ c. cost o g c (stand (list c) c) (away (list c) c)) walled.game (λ c. pairs-differ (homes c) (squares-differ c (array_of o))) (λ c h home. has-contains (homes c) h (home-listed o c h home))
      (λ c h there. home-most p list known gates c h (listed-home o c h (contains-has (homes c) h there))) in
      omega (arith, fit, side-most (list White) White, side-most (list Black) Black, gates-sum p)

-- the lists of both sides are prices, with the same gates
list-known : (x : Supposition) (p : PriceList) → IsTrue (are_prices (list_for x p White)) → IsTrue (are_prices (list_for x p Black)) → (c : Colour) → IsTrue (are_prices (list_for x p c))
list-known x p white black White = white
list-known x p white black Black = black

either-gates : (b : Bool) (p r : PriceList) (l : List Gate) → p.gates ≡ l → r.gates ≡ l → (cond b p r).gates ≡ l
either-gates true p r l first second = first
either-gates false p r l first second = second

raised-gates : (side : Colour) (squares : Squares) (p : PriceList) → (raised side squares p).gates ≡ p.gates
raised-gates White squares p = refl
raised-gates Black squares p = refl

list-gates : (x : Supposition) (p : PriceList) (c : Colour) → (list_for x p c).gates ≡ p.gates
list-gates (Began t homes) p c = refl
list-gates (Went t straight) p c = refl
list-gates (Stands k promoted) p c = refl
list-gates (Gone k promoted struck) p c = refl
list-gates (AtMost side squares n) p c = either-gates (same_colour side c) (raised side squares p) p p.gates (raised-gates side squares p) refl
list-gates (AtLeast side squares n) p c = either-gates (same_colour (opponent side) c) (raised side squares p) p p.gates (raised-gates side squares p) refl

-- what is paid over what is earned, if the supposition is true
over-most : (o : List Bool) (g : List Move) (p : PriceList) (x : Supposition) → IsSupposed x o g
    → turnover (take (list_for x p White) White) (strikes o g White) + turnover (take (list_for x p Black) Black) (strikes o g Black) + earned_over x
    ≤ turnover (take (list_for x p Black) White) (strikes o g White) + turnover (take (list_for x p White) Black) (strikes o g Black) + paid_over x
over-most o g p (Began t homes) is = omega arith
over-most o g p (Went t straight) is = omega arith
over-most o g p (Stands k promoted) is = omega arith
over-most o g p (Gone k promoted struck) is = omega arith
over-most o g p (AtMost White squares n) is =
    let same : turnover (take (raised White squares p) Black) (strikes o g Black) ≡ turnover (take p Black) (strikes o g Black) = refl in
    let few : captures o g White squares ≤ n = is in
    omega (arith, turnover-raised White squares p (strikes o g White), same, few)
over-most o g p (AtMost Black squares n) is =
    let same : turnover (take (raised Black squares p) White) (strikes o g White) ≡ turnover (take p White) (strikes o g White) = refl in
    let few : captures o g Black squares ≤ n = is in
    omega (arith, turnover-raised Black squares p (strikes o g Black), same, few)
over-most o g p (AtLeast White squares n) is =
    let same : turnover (take (raised White squares p) Black) (strikes o g Black) ≡ turnover (take p Black) (strikes o g Black) = refl in
    let many : n ≤ captures o g White squares = is in
    omega (arith, turnover-raised White squares p (strikes o g White), same, many)
over-most o g p (AtLeast Black squares n) is =
    let same : turnover (take (raised Black squares p) White) (strikes o g White) ≡ turnover (take p White) (strikes o g White) = refl in
    let many : n ≤ captures o g Black squares = is in
    omega (arith, turnover-raised Black squares p (strikes o g Black), same, many)

pub refuted : (x : Supposition) (q : Asked) (set : List Bool) (p : PriceList) → IsRefuted x q set p → (g : List Move) → LeadsTo q.odds g q → IsSupposed x q.odds g → ⊥
refuted x q set p it g leads is =
    let caged : Caged q.odds g q set = record { leads = leads; frozen = it.settled.frozen } in
    let both = both-most q.odds g set (caged-walled q.odds g q set caged) x is p (list_for x p) (list-known x p it.white_prices it.black_prices) (list-gates x p) in
    let here : side_cost_if x q.odds q.board (list_for x p White) set White + side_cost_if x q.odds q.board (list_for x p Black) set Black + (turnover (take (list_for x p Black) White) (strikes q.odds g White) + turnover (take (list_for x p White) Black) (strikes q.odds g Black))
    ≤ most_cost q.odds p + (turnover (take (list_for x p White) White) (strikes q.odds g White) + turnover (take (list_for x p Black) Black) (strikes q.odds g Black)) =
    subst (λ (b : Places). side_cost_if x q.odds b (list_for x p White) set White + side_cost_if x q.odds b (list_for x p Black) set Black + (turnover (take (list_for x p Black) White) (strikes q.odds g White) + turnover (take (list_for x p White) Black) (strikes q.odds g Black))
    ≤ most_cost q.odds p + (turnover (take (list_for x p White) White) (strikes q.odds g White) + turnover (take (list_for x p Black) Black) (strikes q.odds g Black))) leads.board both in
    let over = over-most q.odds g p x is in
    let above = it.above in
    omega (arith, here, over, above)

pub refuted-reached : (x : Supposition) (q : Asked) (set : List Bool) (p : PriceList) → IsRefuted x q set p → (g : List Move) → Reaches g q → IsSupposed x q.odds g → ⊥
refuted-reached x q set p it g reaches is = refuted x q set p it g (reaches-leads g q reaches) is
