-- If a supposition is true of a game, what became of each man costs no more in its account than he paid and what gates he passed, less
-- what he earned.
use Rattle.std.proofs.Common.{◌≡◌, ℕ, ◌+◌, ◌≤◌, ◌==◌, inl, inr, Bool, true, false, ◌&&◌, not, List, [], refl, ap, sym, ◌∙◌, arith}
use Rattle.std.proofs.lemmas.Bool.{and_parts, both_ways, cases_Bool, cases_eq, cond-true, cond-false, eq-eqb, eqb-true, ne_eqb, not-true}
use Rattle.std.proofs.lemmas.List.{append-nil}
use Rattle.std.proofs.lemmas.Option.{same_Some}
use Rattle.std.specs.Prelude.{IsTrue, Some}
use Rattle.std.specs.Bool.{beq}
use Rattle.board_base.specs.Board.{array_of, at, is_a, is_in, is_of, is_the, rank, same_colour, same_kind}
use Rattle.board_base.specs.Game.{board_after}
use Rattle.board_base.specs.Legal.{last_rank}
use Rattle.board_base.specs.declared.men.Colour.{Colour}
use Rattle.board_base.specs.declared.men.Kind.TheVariants.{Pawn, King}
use Rattle.board_base.specs.declared.men.Man.{Man}
use Rattle.board_base.specs.declared.moves.Move.{Move}
use Rattle.men_account.specs.Labels.{label_at, labels_after}
use Rattle.men_account.proofs.Captured.{same-side}
use Rattle.men_account.proofs.PawnLaws.{man-of}
use Rattle.cage_rules.specs.Laws.{IsGone, Walled}
use Rattle.men_fates.specs.Deeds.{way_of}
use Rattle.men_fates.specs.Fates.{brings}
use Rattle.men_fates.specs.Ways.{is_straight}
use Rattle.men_fates.proofs.Brought.{brought, brought-officer, brought-pawn}
use Rattle.men_fates.proofs.Goings.{no-way}
use Rattle.men_fates.proofs.Lasting.{king-lasts}
use Rattle.capture_prices.specs.Prices.{PriceList, are_prices}
use Rattle.balance_rule.specs.Costs.{gone, never, stands}
use Rattle.balance_rule.proofs.LostMen.{gained, gone-most}
use Rattle.balance_rule.proofs.StandingMen.{kind-turned, spent, stands-most, stays}
use Rattle.ledger_facts.specs.Supposed.{IsSupposed, is_last, was_struck}
use Rattle.ledger_facts.specs.Accounts.{gone_if, goes, has_become, lost, stands_if}
use Rattle.ledger_facts.specs.declared.suppositions.Supposition.{Supposition}
use Rattle.ledger_facts.specs.declared.suppositions.Supposition.TheVariants.{Began, Went, Stands, Gone, AtMost, AtLeast}
use Rattle.ledger_facts.proofs.Going.{beq-self, goes-most}
use Rattle.ledger_facts.proofs.Losing.{home-short, lost-most}

module _ (o : List Bool) (g : List Move) (set : List Bool) (p : PriceList) (c : Colour) (walled : Walled o g set) (h : ℕ) (home : is_of c (at (array_of o) h) ≡ true) where
  -- he stands
  module _ (s : ℕ) (label : label_at (labels_after o g) s ≡ Some h) where
    plain : stands p set c (at (array_of o) h) h (at (board_after o g) s) s ≤ 96 + spent p o g c h
    plain = stands-most o g set p c h s walled (stays o g c h s walled.game home label)

    -- who began as a pawn and isn't one any more was promoted, and nobody else was
    became-is : is_last c h (way_of o g h) ≡ has_become (at (array_of o) h) (at (board_after o g) s)
    became-is =
        let x = stays o g c h s walled.game home label in
        let now : is_a Pawn (at (board_after o g) s) ≡ same_kind Pawn x.man.kind = ap (is_a Pawn) x.there in
        elim (cases_Bool (is_a Pawn (at (array_of o) h))) [
          | inl pawn ↦
              let first : is_the c Pawn (at (array_of o) h) ≡ true = ap (λ (b : Bool). b && is_a Pawn (at (array_of o) h)) home ∙ pawn in
              let there : brings set c h (way_of o g h) x.man.kind s ≡ true = brought o g g [] set c h s x.man walled (sym (append-nil g)) first x.label x.there in
              let turned : has_become (at (array_of o) h) (at (board_after o g) s) ≡ not (same_kind Pawn x.man.kind) = ap (λ (b : Bool). b && not (is_a Pawn (at (board_after o g) s))) pawn ∙ ap not now in
              elim (cases_Bool (same_kind Pawn x.man.kind)) [
                | inl still ↦
                    let ends = brought-pawn set c h (way_of o g h) x.man.kind s still there in
                    ap (λ (t : ℕ). rank t == last_rank c) ends.0 ∙ ends.1 ∙ sym (turned ∙ ap not still)
                | inr officer ↦ (brought-officer set c h (way_of o g h) x.man.kind s officer there).last ∙ sym (turned ∙ ap not officer)
              ]
          | inr piece ↦
              ap (is_last c h) (no-way o g h walled.game piece) ∙ home-short o c h home
              ∙ sym (ap (λ (b : Bool). b && not (is_a Pawn (at (board_after o g) s))) piece)
        ]

    pub stand-fits : (x : Supposition) → IsSupposed x o g → stands_if x p set c (at (array_of o) h) h (at (board_after o g) s) s ≤ 96 + spent p o g c h
    stand-fits (Began t homes) x = elim (cases_Bool ((s == t) && not (is_in homes h))) [
      | inl barred ↦
          let parts = and_parts (s == t) (not (is_in homes h)) barred in
          let same : x.0 ≡ h = same_Some x.0 h (sym x.1 ∙ ap (label_at (labels_after o g)) (sym (eqb-true s t parts.0)) ∙ label) in
          absurd (both_ways (is_in homes h) (not-true (is_in homes h) parts.1) (ap (is_in homes) (sym same) ∙ x.2))
      | inr free ↦
          let e = cond-false ((s == t) && not (is_in homes h)) never (stands p set c (at (array_of o) h) h (at (board_after o g) s) s) free in
          omega (arith, e, plain)
    ]
    stand-fits (Went t straight) x = elim (cases_eq s t) [
      | inl here ↦
          let same : x.0 ≡ h = same_Some x.0 h (sym x.1 ∙ ap (label_at (labels_after o g)) (sym here) ∙ label) in
          let e = cond-true (s == t) (goes straight p set c (at (array_of o) h) h (at (board_after o g) s) s) (stands p set c (at (array_of o) h) h (at (board_after o g) s) s) (eq-eqb s t here) in
          let still : is_a Pawn (at (board_after o g) s) ≡ true = ap (λ (u : ℕ). is_a Pawn (at (board_after o g) u)) here ∙ x.2 in
          let way : is_straight h (way_of o g h) ≡ straight = ap (λ (u : ℕ). is_straight u (way_of o g u)) (sym same) ∙ x.3 in
          omega (arith, e, goes-most o g set p c h s walled (stays o g c h s walled.game home label) straight still way)
      | inr other ↦
          let e = cond-false (s == t) (goes straight p set c (at (array_of o) h) h (at (board_after o g) s) s) (stands p set c (at (array_of o) h) h (at (board_after o g) s) s) (ne_eqb s t other) in
          omega (arith, e, plain)
    ]
    stand-fits (Stands k promoted) x =
        let barred : Bool = (h == k) && not (beq promoted (has_become (at (array_of o) h) (at (board_after o g) s))) in
        elim (cases_Bool barred) [
          | inl is ↦
              let parts = and_parts (h == k) (not (beq promoted (has_become (at (array_of o) h) (at (board_after o g) s)))) is in
              let same : h ≡ k = eqb-true h k parts.0 in
              let side : x.side ≡ c = same-side x.side c (at (array_of o) k) x.home (ap (λ (u : ℕ). is_of c (at (array_of o) u)) (sym same) ∙ home) in
              let became : is_last c h (way_of o g h) ≡ promoted = ap (λ (u : ℕ). is_last c u (way_of o g u)) same ∙ ap (λ (d : Colour). is_last d k (way_of o g k)) (sym side) ∙ x.became in
              let so : has_become (at (array_of o) h) (at (board_after o g) s) ≡ promoted = sym became-is ∙ became in
              absurd (both_ways (beq promoted (has_become (at (array_of o) h) (at (board_after o g) s))) (not-true (beq promoted (has_become (at (array_of o) h) (at (board_after o g) s))) parts.1) (ap (beq promoted) so ∙ beq-self promoted))
          | inr free ↦
              let e = cond-false barred never (stands p set c (at (array_of o) h) h (at (board_after o g) s) s) free in
              omega (arith, e, plain)
        ]
    stand-fits (Gone k promoted struck) x = elim (cases_eq h k) [
      | inl same ↦ absurd (x.gone s (label ∙ ap Some same))
      | inr other ↦
          let e = cond-false (h == k) never (stands p set c (at (array_of o) h) h (at (board_after o g) s) s) (ne_eqb h k other) in
          omega (arith, e, plain)
    ]
    stand-fits (AtMost side squares n) x = plain
    stand-fits (AtLeast side squares n) x = plain

  -- he is gone
  module _ (known : IsTrue (are_prices p)) (lost_now : IsGone o g h) where
    first : (m : Man) × (at (array_of o) h ≡ Some m)
    first = man-of (is_of c) (at (array_of o) h) refl home

    own : same_colour c first.0.colour ≡ true
    own = sym (ap (is_of c) first.1) ∙ home

    no-king : same_kind first.0.kind King ≡ false
    no-king = elim (cases_Bool (same_kind first.0.kind King)) [
      | inl king ↦ absurd (king-lasts o g c h walled.game (ap (λ (b : Bool). b && is_a King (at (array_of o) h)) home ∙ ap (is_a King) first.1 ∙ kind-turned King first.0.kind ∙ king) lost_now)
      | inr other ↦ other
    ]

    missed : gone p set c (at (array_of o) h) h + gained p o g c h ≤ 96 + spent p o g c h
    missed = gone-most o g set p c known walled h first.0 first.1 own lost_now no-king

    pub gone-fits : (x : Supposition) → IsSupposed x o g → gone_if x p set c (at (array_of o) h) h + gained p o g c h ≤ 96 + spent p o g c h
    gone-fits (Began t homes) x = missed
    gone-fits (Went t straight) x = missed
    gone-fits (Stands k promoted) x = elim (cases_eq h k) [
      | inl same ↦ absurd (lost_now x.square (x.label ∙ ap Some (sym same)))
      | inr other ↦
          let e = cond-false (h == k) never (gone p set c (at (array_of o) h) h) (ne_eqb h k other) in
          omega (arith, e, missed)
    ]
    gone-fits (Gone k promoted struck) x = elim (cases_eq h k) [
      | inl same ↦
          let side : x.side ≡ c = same-side x.side c (at (array_of o) k) x.home (ap (λ (u : ℕ). is_of c (at (array_of o) u)) (sym same) ∙ home) in
          let became : is_last c h (way_of o g h) ≡ promoted = ap (λ (u : ℕ). is_last c u (way_of o g u)) same ∙ ap (λ (d : Colour). is_last d k (way_of o g k)) (sym side) ∙ x.became in
          let fell : was_struck o g c h ≡ struck = ap (was_struck o g c) same ∙ ap (λ (d : Colour). was_struck o g d k) (sym side) ∙ x.fell in
          let e = cond-true (h == k) (lost promoted struck p set c (at (array_of o) h) h) (gone p set c (at (array_of o) h) h) (eq-eqb h k same) in
          omega (arith, e, lost-most o g set p c known walled h first.0 first.1 own promoted struck lost_now no-king became fell)
      | inr other ↦
          let e = cond-false (h == k) (lost promoted struck p set c (at (array_of o) h) h) (gone p set c (at (array_of o) h) h) (ne_eqb h k other) in
          omega (arith, e, missed)
    ]
    gone-fits (AtMost side squares n) x = missed
    gone-fits (AtLeast side squares n) x = missed
