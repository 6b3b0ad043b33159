-- The least cost of ways of a pawn who stands where they end, and captured nowhere, or somewhere.
use Rattle.std.proofs.Common.{◌≡◌, ℕ, ◌+◌, ◌<◌, ◌≤◌, ◌==◌, Bool, true, false, ◌&&◌, not, min, List, refl, ap, sym, subst, ◌∙◌, arith}
use Rattle.std.proofs.lemmas.Bool.{and_from, and_parts, both_ways, cond-true, cond-false, eqb-true, not-true, not_from_false}
use Rattle.std.specs.Prelude.{IsTrue}
use Rattle.std.specs.Bool.{beq}
use Rattle.general_lemmas.proofs.Truth.{beq-same}
use Rattle.board_base.specs.Board.{rank}
use Rattle.board_base.specs.Legal.{last_rank}
use Rattle.board_base.specs.declared.men.Colour.{Colour}
use Rattle.board_base.specs.declared.men.Kind.TheVariants.{Pawn}
use Rattle.men_fates.specs.Fates.{brings}
use Rattle.men_fates.specs.Ways.{fee, is_straight, toll, way_end}
use Rattle.capture_prices.specs.Prices.{PriceList, are_prices, gate, take}
use Rattle.balance_rule.specs.Costs.{never, way_cost}
use Rattle.balance_rule.specs.LeastWays.{AreLeastTo, IsLeast, aside_to, ends_on, fee_of, gates_on, seen_by, straight_to, toll_of}
use Rattle.balance_rule.proofs.Brought.{last-rank, short-of}
use Rattle.balance_rule.proofs.Gates.{gate-small}
use Rattle.balance_rule.proofs.Leasts.{least-like, least-none, least-plus, only-least}
use Rattle.balance_rule.proofs.Listed.{least-listed}
use Rattle.balance_rule.proofs.Reaching.{fee-least, toll-least}
use Rattle.balance_rule.proofs.Seen.{seen-inside, seen-seen}
use Rattle.ledger_facts.specs.Supposed.{is_last}
use Rattle.ledger_facts.specs.Accounts.{loss_as, pawn_goes}

module _ (p : PriceList) (set : List Bool) (c : Colour) (h : ℕ) (on_board : h < 64) where
  -- the ways that count
  abbrev so : Bool → ℕ → List ℕ → Bool
  so straight s way = beq straight (is_straight h way) && brings set c h way Pawn s

  made : (straight : Bool) (s x n : ℕ) → IsLeast c set h (so straight s) (toll (take p c) (gate p) h) x → n ≡ min never (96 + x) → n ≡ pawn_goes straight p set c h s
  unfolding pawn_goes
  made straight s x n least is =
      only-least c set h (so straight s) (way_cost p c h) _ _
      (subst (IsLeast c set h (so straight s) (way_cost p c h)) (sym is) (least-plus c set h (so straight s) (toll (take p c) (gate p) h) (way_cost p c h) 96 x (λ way is_it passes. refl) least))
      (least-listed c set h (so straight s) (way_cost p c h) on_board)

  -- a square short of the last rank
  short-square : (s i : ℕ) → s < 64 → i ≡ seen_by c s → i < 56 → (seen_by c i ≡ s) × (not (rank s == last_rank c) ≡ true)
  short-square s i inside is low =
      let number : i < 64 = omega arith in
      let back : seen_by c i ≡ s = ap (seen_by c) is ∙ seen-seen c s inside in
      (back, not_from_false _ (ap (λ (u : ℕ). rank u == last_rank c) (sym back) ∙ short-of c i number low))

  pub straight-made : (s i x y n : ℕ) → s < 64 → i ≡ seen_by c s → i < 56 → AreLeastTo p set c h (seen_by c i) x y → n ≡ min never (96 + x) → n ≡ pawn_goes true p set c h s
  straight-made s i x y n inside is low least told =
      let there = short-square s i inside is low in
      made true s x n
      (least-like c set h (straight_to h (seen_by c i)) (so true s) (gates_on p h) (toll (take p c) (gate p) h) x
      (λ way is_it passes.
      let parts = and_parts (beq true (is_straight h way)) (brings set c h way Pawn s) passes in
      let ends = and_parts (way_end h way == s) (not (rank s == last_rank c)) parts.1 in
      and_from _ _ (sym (beq-same true (is_straight h way) parts.0)) (ap (λ (u : ℕ). way_end h way == u) there.0 ∙ ends.0))
      (λ way is_it passes.
      let parts = and_parts (is_straight h way) (ends_on h (seen_by c i) way) passes in (
        and_from _ _ (ap (beq true) parts.0) (and_from _ _ (ap (λ (u : ℕ). way_end h way == u) (sym there.0) ∙ parts.1) there.1),
        cond-true (is_straight h way) (gates_on p h way) (fee (take p c) h way) parts.0,
      )) least.straight) told

  pub aside-made : (s i x y n : ℕ) → s < 64 → i ≡ seen_by c s → i < 56 → AreLeastTo p set c h (seen_by c i) x y → n ≡ min never (96 + y) → n ≡ pawn_goes false p set c h s
  aside-made s i x y n inside is low least told =
      let there = short-square s i inside is low in
      made false s y n
      (least-like c set h (aside_to h (seen_by c i)) (so false s) (fee (take p c) h) (toll (take p c) (gate p) h) y
      (λ way is_it passes.
      let parts = and_parts (beq false (is_straight h way)) (brings set c h way Pawn s) passes in
      let ends = and_parts (way_end h way == s) (not (rank s == last_rank c)) parts.1 in
      and_from _ _ (not_from_false _ (sym (beq-same false (is_straight h way) parts.0))) (ap (λ (u : ℕ). way_end h way == u) there.0 ∙ ends.0))
      (λ way is_it passes.
      let parts = and_parts (not (is_straight h way)) (ends_on h (seen_by c i) way) passes in
      let aside : is_straight h way ≡ false = not-true (is_straight h way) parts.0 in (
        and_from _ _ (ap (beq false) aside) (and_from _ _ (ap (λ (u : ℕ). way_end h way == u) (sym there.0) ∙ parts.1) there.1),
        cond-false (is_straight h way) (gates_on p h way) (fee (take p c) h way) aside,
      )) least.aside) told

  -- no pawn stands on the last rank
  pub last-made : (straight : Bool) (s n : ℕ) → s < 64 → 56 ≤ seen_by c s → n ≡ never → n ≡ pawn_goes straight p set c h s
  unfolding pawn_goes
  last-made straight s n inside high told =
      let last : (rank s == last_rank c) ≡ true = ap (λ (u : ℕ). rank u == last_rank c) (sym (seen-seen c s inside)) ∙ last-rank c (seen_by c s) (seen-inside c s inside) high in
      only-least c set h (so straight s) (way_cost p c h) _ _
      (subst (IsLeast c set h (so straight s) (way_cost p c h)) (sym told) (least-none c set h (so straight s) (way_cost p c h) (λ way is_it passes.
      let parts = and_parts (beq straight (is_straight h way)) (brings set c h way Pawn s) passes in
      both_ways _ (not-true _ (and_parts (way_end h way == s) (not (rank s == last_rank c)) parts.1).1) last)))
      (least-listed c set h (so straight s) (way_cost p c h) on_board)

  -- one whom no pawn took: as a pawn, and after a promotion
  pub unstruck-short : (i x y n : ℕ) → IsTrue (are_prices p) → i < 56 → AreLeastTo p set c h (seen_by c i) x y → n ≡ min never (96 + fee_of x y) → IsLeast c set h (ends_on h (seen_by c i)) (loss_as false p set c h) n
  unstruck-short i x y n known low least told =
      let inside : i < 64 = omega arith in
      let fees = fee-least c set h on_board p (seen_by c i) x y (gate-small p known) least in
      subst (IsLeast c set h (ends_on h (seen_by c i)) (loss_as false p set c h)) (sym told)
      (least-plus c set h (ends_on h (seen_by c i)) (fee (take p c) h) (loss_as false p set c h) 96 (fee_of x y)
      (λ way is_it ends.
      let short : is_last c h way ≡ false = ap (λ (u : ℕ). rank u == last_rank c) (eqb-true (way_end h way) (seen_by c i) ends) ∙ short-of c i inside low in
      cond-false (is_last c h way) (way_cost p c h way) (96 + fee (take p c) h way) short) fees)

  pub unstruck-last : (i x y n : ℕ) → 56 ≤ i → i < 64 → AreLeastTo p set c h (seen_by c i) x y → n ≡ min never (96 + toll_of x y) → IsLeast c set h (ends_on h (seen_by c i)) (loss_as false p set c h) n
  unstruck-last i x y n high inside least told =
      let tolls = toll-least c set h on_board p (seen_by c i) x y least in
      subst (IsLeast c set h (ends_on h (seen_by c i)) (loss_as false p set c h)) (sym told)
      (least-plus c set h (ends_on h (seen_by c i)) (toll (take p c) (gate p) h) (loss_as false p set c h) 96 (toll_of x y)
      (λ way is_it ends.
      let last : is_last c h way ≡ true = ap (λ (u : ℕ). rank u == last_rank c) (eqb-true (way_end h way) (seen_by c i) ends) ∙ last-rank c i inside high in
      cond-true (is_last c h way) (way_cost p c h way) (96 + fee (take p c) h way) last) tolls)
