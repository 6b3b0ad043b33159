-- What it costs that a pawn went straight, or didn't, is no more than what he paid and the gates that he passed.
use Rattle.std.proofs.Common.{◌≡◌, ℕ, ◌+◌, ◌<◌, ◌≤◌, ◌==◌, inl, inr, Bool, true, false, cond, ◌&&◌, ◌||◌, List, [], refl, ap, sym, ◌∙◌, arith}
use Rattle.std.proofs.lemmas.Bool.{and_from, cases_Bool, cond-true, cond-false, eq-eqb, or_left}
use Rattle.std.proofs.lemmas.List.{append-nil}
use Rattle.std.specs.Prelude.{Option}
use Rattle.std.specs.Bool.{beq}
use Rattle.board_base.specs.Board.{array_of, at, is_a, is_in, is_of, is_the, rank, same_colour, same_kind}
use Rattle.board_base.specs.Game.{board_after}
use Rattle.board_base.specs.Legal.{last_rank}
use Rattle.board_base.specs.declared.men.Colour.{Colour}
use Rattle.board_base.specs.declared.men.Kind.{Kind}
use Rattle.board_base.specs.declared.men.Kind.TheVariants.{Pawn}
use Rattle.board_base.specs.declared.men.Man.{Man}
use Rattle.board_base.specs.declared.moves.Move.{Move}
use Rattle.board_base.proofs.KindsOfMen.{kind_is}
use Rattle.men_account.specs.Labels.{labels_after}
use Rattle.men_account.proofs.Bishops.{pawn-label}
use Rattle.men_account.proofs.FilesLeft.{array-inside}
use Rattle.men_account.proofs.Labelled.{labels-promotions}
use Rattle.cage_rules.specs.Laws.{Walled}
use Rattle.men_fates.specs.Deeds.{way_of}
use Rattle.men_fates.specs.Fates.{brings}
use Rattle.men_fates.specs.Ways.{is_straight, is_way, way_end}
use Rattle.men_fates.proofs.Brought.{brought}
use Rattle.men_fates.proofs.Roads.{way-past}
use Rattle.men_ledger.specs.Files.{is_there}
use Rattle.men_ledger.proofs.PawnTolls.{toll-paid}
use Rattle.capture_prices.specs.Prices.{PriceList, gate, take}
use Rattle.balance_rule.specs.Costs.{never, way_cost}
use Rattle.balance_rule.proofs.Listed.{least-listed}
use Rattle.balance_rule.proofs.StandingMen.{Stays, kind-turned, spent, stands-home, there-now}
use Rattle.ledger_facts.specs.Accounts.{goes, goes_as, pawn_goes}

pub beq-self : (b : Bool) → beq b b ≡ true
beq-self true = refl
beq-self false = refl

module _ (o : List Bool) (g : List Move) (set : List Bool) (p : PriceList) (c : Colour) (h s : ℕ) (walled : Walled o g set) (x : Stays o g c h s) (straight : Bool) (pawn : is_a Pawn (at (board_after o g) s) ≡ true) (went : is_straight h (way_of o g h) ≡ straight) where
  still : same_kind Pawn x.man.kind ≡ true
  still = sym (ap (is_a Pawn) x.there) ∙ pawn

  -- who is a pawn began as one
  began : same_kind x.first.kind Pawn ≡ true
  began = kind-turned x.first.kind Pawn ∙ sym (ap (is_a Pawn) x.began) ∙ pawn-label (array_of o) s h x.man (labels-promotions o g walled.game s h x.man x.label x.there) still

  goes-so : pawn_goes straight p set c h s ≤ 96 + spent p o g c h
  unfolding pawn_goes
  goes-so =
      let way : List ℕ = way_of o g h in
      let home : is_the c Pawn (at (array_of o) h) ≡ true = ap (is_the c Pawn) x.began ∙ and_from _ _ x.own (kind-turned Pawn x.first.kind ∙ began) in
      let inside : h < 64 = array-inside o (is_the c Pawn) h refl home in
      let is : is_way c set h way ≡ true = way-past o g g [] set c h walled (sym (append-nil g)) (ap (is_of c) x.began ∙ x.own) in
      let comes : brings set c h way Pawn s ≡ true = ap (λ (k : Kind). brings set c h way k s) (kind_is Pawn x.man.kind still) ∙ brought o g g [] set c h s x.man walled (sym (append-nil g)) home x.label x.there in
      let so : beq straight (is_straight h way) ≡ true = ap (beq straight) went ∙ beq-self straight in
      let least = (least-listed c set h (λ w. beq straight (is_straight h w) && brings set c h w Pawn s) (way_cost p c h) inside).below way is (and_from _ _ so comes) in
      let tolls = toll-paid o g c (take p c) (gate p) h walled.game home (or_left (is_there (labels_after o g) h) (rank (way_end h way) == last_rank c) (there-now o g set p c h s walled x)) in
      omega (arith, least, tolls)

  pub goes-most : goes straight p set c (at (array_of o) h) h (at (board_after o g) s) s ≤ 96 + spent p o g c h
  goes-most =
      let cell : ℕ = cond (is_in set h || is_in set s) (cond (h == s) 96 never) (pawn_goes straight p set c h s) in
      let here : goes straight p set c (at (array_of o) h) h (at (board_after o g) s) s ≡ cell =
      ap (λ (place : Option Man). goes straight p set c place h (at (board_after o g) s) s) x.began ∙ cond-true (same_colour c x.first.colour) (goes_as straight p set c x.first.kind h (at (board_after o g) s) s) never x.own
      ∙ cond-true (same_kind x.first.kind Pawn && is_a Pawn (at (board_after o g) s)) cell never (and_from _ _ began pawn) in
      elim (cases_Bool (is_in set h || is_in set s)) [
        | inl member ↦
            let e = cond-true (is_in set h || is_in set s) (cond (h == s) 96 never) (pawn_goes straight p set c h s) member in
            let home = cond-true (h == s) 96 never (eq-eqb h s (stands-home o g set p c h s walled x member)) in
            omega (arith, here, e, home)
        | inr away ↦
            let e = cond-false (is_in set h || is_in set s) (cond (h == s) 96 never) (pawn_goes straight p set c h s) away in
            omega (arith, here, e, goes-so)
      ]
