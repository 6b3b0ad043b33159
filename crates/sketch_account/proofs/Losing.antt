-- What it costs at least that a pawn is gone.
use Rattle.std.proofs.Common.{◌≡◌, ℕ, ◌+◌, ◌-◌, ◌<◌, ◌≤◌, inl, inr, Bool, true, false, ◌&&◌, ◌||◌, ◌==◌, min, List, refl, ap, sym, ◌∙◌, arith}
use Rattle.std.proofs.lemmas.Bool.{cases_eq, cond-true, cond-false, eq-eqb, eqb-true, lt-ltb, ltb-true}
use Rattle.std.specs.Prelude.{IsTrue, nat_lt}
use Rattle.board_base.specs.Board.{man, rank}
use Rattle.board_base.specs.Legal.{last_rank}
use Rattle.board_base.specs.declared.men.Colour.{Colour}
use Rattle.board_base.specs.declared.men.Kind.TheVariants.{Knight, Bishop, Rook, Queen}
use Rattle.men_fates.specs.Ways.{fee, toll, way_end}
use Rattle.capture_prices.specs.Prices.{PriceList, are_prices, gate, take}
use Rattle.balance_rule.specs.Costs.{earned, most_earned, never, way_cost}
use Rattle.sketch_grounds.specs.Limits.{brings_some, loss_in, pawn_lost}
use Rattle.sketch_grounds.specs.Zones.{Room}
use Rattle.sketch_account.specs.Grounds.{comes_promoted}
use Rattle.balance_rule.specs.LeastWays.{AreLeastTo, IsLeast, ends_on, fee_of, seen_by, toll_of}
use Rattle.balance_rule.proofs.Brought.{last-rank, short-of}
use Rattle.balance_rule.proofs.Earned.{greatest-same}
use Rattle.balance_rule.proofs.Gates.{gate-small}
use Rattle.balance_rule.proofs.Leasts.{least-either, least-like, least-none, least-plus, only-least}
use Rattle.balance_rule.proofs.Listed.{least-listed-all}
use Rattle.balance_rule.proofs.Priced.{earned-small}
use Rattle.balance_rule.proofs.Reaching.{fee-least, toll-least}
use Rattle.balance_rule.proofs.Seen.{end-inside, seen-inside, seen-seen, way-ahead}
use Rattle.balance_rule.proofs.Lost.{most-small, or-none}

promoted-is : (R : Room) (c : Colour) (h t : ℕ) (way : List ℕ) (s : ℕ) → way_end h way ≡ t → (rank t == last_rank c) ≡ true → brings_some R c h way s ≡ comes_promoted R c t s
promoted-is R c h t way s ends last =
    ap (λ (b : Bool). (b && true && R (man c Knight) (way_end h way) s) || ((b && true && R (man c Bishop) (way_end h way) s) || ((b && true && R (man c Rook) (way_end h way) s) || ((b && true && R (man c Queen) (way_end h way) s) || false)))) (ap (λ (u : ℕ). rank u == last_rank c) ends ∙ last)
    ∙ or-none (R (man c Knight) (way_end h way) s) (R (man c Bishop) (way_end h way) s) (R (man c Rook) (way_end h way) s) (R (man c Queen) (way_end h way) s)
    ∙ ap (λ (u : ℕ). comes_promoted R c u s) ends

module _ (p : PriceList) (set : List Bool) (R : Room) (c : Colour) (h : ℕ) (known : IsTrue (are_prices p)) (on_board : h < 64) where
  -- taken as a pawn
  pub loss-short : (i x y e : ℕ) → i < 56 → e ≡ earned p set c (seen_by c i) → AreLeastTo p set c h (seen_by c i) x y → IsLeast c set h (ends_on h (seen_by c i)) (loss_in p set R c h) (min never ((96 - e) + fee_of x y))
  loss-short i x y e low is least =
      let inside : i < 64 = omega arith in
      let fees = fee-least c set h on_board p (seen_by c i) x y (gate-small p known) least in
      least-plus c set h (ends_on h (seen_by c i)) (fee (take p c) h) (loss_in p set R c h) (96 - e) (fee_of x y)
      (λ way is_it ends.
      let there : way_end h way ≡ seen_by c i = eqb-true _ _ ends in
      let short : (rank (way_end h way) == last_rank c) ≡ false = ap (λ (u : ℕ). rank u == last_rank c) there ∙ short-of c i inside low in
      let told : loss_in p set R c h way ≡ 96 + fee (take p c) h way - earned p set c (way_end h way) = cond-false _ _ _ short in
      let gained : earned p set c (way_end h way) ≡ e = ap (earned p set c) there ∙ sym is in
      omega (arith, told, gained, earned-small p set c (way_end h way) known)) fees

  -- taken after a promotion
  pub loss-last : (i x y m : ℕ) → 56 ≤ i → i < 64 → m ≡ most_earned p set c (comes_promoted R c (seen_by c i)) → AreLeastTo p set c h (seen_by c i) x y → IsLeast c set h (ends_on h (seen_by c i)) (loss_in p set R c h) (min never ((96 - m) + toll_of x y))
  loss-last i x y m high inside is least =
      let tolls = toll-least c set h on_board p (seen_by c i) x y least in
      least-plus c set h (ends_on h (seen_by c i)) (toll (take p c) (gate p) h) (loss_in p set R c h) (96 - m) (toll_of x y)
      (λ way is_it ends.
      let there : way_end h way ≡ seen_by c i = eqb-true _ _ ends in
      let at_last : (rank (seen_by c i) == last_rank c) ≡ true = last-rank c i inside high in
      let last : (rank (way_end h way) == last_rank c) ≡ true = ap (λ (u : ℕ). rank u == last_rank c) there ∙ at_last in
      let told : loss_in p set R c h way ≡ way_cost p c h way - most_earned p set c (brings_some R c h way) = cond-true _ _ _ last in
      let gained : most_earned p set c (brings_some R c h way) ≡ m = greatest-same (brings_some R c h way) (comes_promoted R c (seen_by c i)) (earned p set c) (λ s _. promoted-is R c h (seen_by c i) way s there at_last) ∙ sym is in
      omega (arith, told, gained, most-small p set c (brings_some R c h way) known)) tolls

  -- the ways that end before the square with number i
  abbrev pub ends_before : ℕ → List ℕ → Bool
  ends_before i way = nat_lt (seen_by c (way_end h way)) i

  pub lost-none : 1 ≤ rank (seen_by c h) → IsLeast c set h (ends_before 8) (loss_in p set R c h) never
  lost-none second =
      least-none c set h (ends_before 8) (loss_in p set R c h) (λ way is passes.
      let low : seen_by c (way_end h way) < 8 = ltb-true _ _ passes in
      let up = (way-ahead c set h way on_board is).up in
      omega arith)

  pub lost-more : (i n m : ℕ) → i < 64 → IsLeast c set h (ends_before i) (loss_in p set R c h) n → IsLeast c set h (ends_on h (seen_by c i)) (loss_in p set R c h) m → IsLeast c set h (ends_before (i + 1)) (loss_in p set R c h) (min m n)
  lost-more i n m inside before here =
      least-either c set h (ends_on h (seen_by c i)) (ends_before i) (ends_before (i + 1)) (loss_in p set R c h) m n
      (λ way is passes.
      let low : seen_by c (way_end h way) < i + 1 = ltb-true _ _ passes in
      elim (cases_eq (seen_by c (way_end h way)) i) [
        | inl same ↦ inl (eq-eqb _ _ (sym (seen-seen c (way_end h way) (end-inside c set h way on_board is)) ∙ ap (seen_by c) same))
        | inr other ↦ inr (lt-ltb _ _ (omega arith))
      ])
      (λ way is ends. let number : seen_by c (way_end h way) ≡ i = ap (seen_by c) (eqb-true _ _ ends) ∙ seen-seen c i inside in lt-ltb _ _ (omega arith))
      (λ way is passes. let low : seen_by c (way_end h way) < i = ltb-true _ _ passes in lt-ltb _ _ (omega arith)) here before

  pub lost-all : (i n : ℕ) → 64 ≤ i → IsLeast c set h (ends_before i) (loss_in p set R c h) n → n ≡ pawn_lost p set R c h
  unfolding pawn_lost
  lost-all i n past before =
      only-least c set h (λ way. true) (loss_in p set R c h) n _
      (least-like c set h (ends_before i) (λ way. true) (loss_in p set R c h) (loss_in p set R c h) n
      (λ way is any. let inside : seen_by c (way_end h way) < 64 = seen-inside c (way_end h way) (end-inside c set h way on_board is) in lt-ltb _ _ (omega arith)) (λ way is passes. (refl, refl)) before)
      (least-listed-all c set h (loss_in p set R c h) on_board)
