-- What it costs that a man is gone, with what he earned where he had room, is no more than what he paid as a pawn, and the gates that he passed.
use Rattle.std.proofs.Common.{◌≡◌, ℕ, ◌+◌, ◌-◌, ◌<◌, ◌≤◌, ◌==◌, inl, inr, Bool, true, false, cond, List, [], ◌∷◌, ◌++◌, refl, ap, sym, ◌∙◌, subst, arith}
use Rattle.std.proofs.lemmas.Bool.{and_from, and_parts, both_ways, cases_Bool, cond-true, cond-false, false_from_ne_true}
use Rattle.std.proofs.lemmas.List.{append-nil}
use Rattle.std.proofs.lemmas.Option.{same_Some}
use Rattle.std.specs.Prelude.{IsTrue, Option, Some}
use Rattle.std.specs.List.{Contains, sum_by}
use Rattle.board_base.specs.Board.{array_of, at, is_a, is_in, is_of, is_the, man, opponent, rank, same_colour, same_kind}
use Rattle.board_base.specs.Game.{IsGame, board_after, turn_after, last_move, unmoved}
use Rattle.board_base.specs.Legal.{is_officer, last_rank}
use Rattle.board_base.specs.declared.men.Colour.{Colour}
use Rattle.board_base.specs.declared.men.Kind.{Kind}
use Rattle.board_base.specs.declared.men.Kind.TheVariants.{Pawn, King}
use Rattle.board_base.specs.declared.men.Man.{Man}
use Rattle.board_base.specs.declared.moves.Move.{Move}
use Rattle.board_base.proofs.KindsOfMen.{no_officer}
use Rattle.play_rules.proofs.Legality.{Legality}
use Rattle.men_account.specs.Homes.{is_officer_of}
use Rattle.men_account.specs.Labels.{label_at, labels_after}
use Rattle.men_account.proofs.Captured.{man-there}
use Rattle.men_account.proofs.InRegions.{officer-no-pawn}
use Rattle.men_account.proofs.Labelled.{labels-each_man}
use Rattle.men_account.proofs.PawnLaws.{himself}
use Rattle.cage_rules.specs.Laws.{IsGone, Walled}
use Rattle.cage_rules.specs.Regions.{region, region_from}
use Rattle.cage_rules.proofs.Regions.{length-region}
use Rattle.cage_rules.proofs.Tested.{member-inside}
use Rattle.men_fates.specs.Deeds.{Strike, strikes, way_of}
use Rattle.men_fates.specs.Fates.{FellOn}
use Rattle.men_fates.specs.Ways.{fee, is_way, way_end}
use Rattle.men_fates.proofs.Blows.{Blow, falling-rests, fallen-rests, in-each-blow}
use Rattle.men_fates.proofs.Brought.{as-man, brought-officer, brought-pawn, his-colour}
use Rattle.men_fates.proofs.Goings.{no-way}
use Rattle.men_fates.proofs.Lasting.{walled-last}
use Rattle.men_fates.proofs.Tombs.{each-officer-fell, fell-now as fell-on-now, plain-victim}
use Rattle.capture_prices.specs.Prices.{PriceList, are_prices, take}
use Rattle.balance_rule.specs.Costs.{earned, most_earned, never, way_cost}
use Rattle.balance_rule.proofs.Greatests.{greatest-listed}
use Rattle.balance_rule.proofs.Listed.{least-listed-all}
use Rattle.balance_rule.proofs.LostMen.{any-officer, gained, gains, gains-nothing, home, inside, pays, taken-or-not, tolled, whole}
use Rattle.balance_rule.proofs.StandingMen.{is-officer, spent}
use Rattle.past_account.specs.Limits.{brings_in, brings_some, loss_in, lost, lost_as, pawn_lost, piece_lost}
use Rattle.past_account.specs.Zones.{Room}
use Rattle.past_account.proofs.Comers.{brings-in}
use Rattle.past_account.proofs.Rooms.{HasRoom}

no-pawn : (k : Kind) → is_officer k ≡ true → k ≡ Pawn → ⊥
no-pawn k officer pawn = both_ways (same_kind Pawn k) (no_officer Pawn k refl officer) (ap (same_kind Pawn) pawn)

-- a man was taken so, where he had room
record FellIn (R : Room) (set : List Bool) (c : Colour) (h : ℕ) (all : List ℕ) (s : ℕ) : Type 0 where
  fell : FellOn set c h all s
  room : is_officer fell.kind ≡ true → R (man c fell.kind) (way_end h fell.way) s ≡ true

fell-moved : (R : Room) (set : List Bool) (c : Colour) (h : ℕ) (old new : List ℕ) (s t : ℕ) → old ≡ new → s ≡ t → FellIn R set c h old s → FellIn R set c h new t
fell-moved R set c h old new s t e f fell = subst (FellIn R set c h new) f (subst (λ (w : List ℕ). FellIn R set c h w s) e fell)

module _ (o : List Bool) (g : List Move) (set : List Bool) (R : Room) (room : HasRoom o g R) (c : Colour) (walled : Walled o g set) where
  -- an officer's room in the array's words
  room-of : (k after : List Move) → g ≡ k ++ after → IsGame o k → (s h : ℕ) (who : Man) → is_of c (at (array_of o) h) ≡ true → label_at (labels_after o k) s ≡ Some h → at (board_after o k) s ≡ Some who → is_officer who.kind ≡ true → R (man c who.kind) (way_end h (way_of o k h)) s ≡ true
  room-of k after split game s h who began label there officer =
      ap (λ (m : Option Man). R m (way_end h (way_of o k h)) s) (sym (as-man who c (his-colour o k c s h who game began label there))) ∙ room k after split s h who label there officer

  -- how a pawn's home is left by its man when a pawn takes him
  fell-now : (k after : List Move) (m : Move) (x : Strike) → g ≡ k ++ m ∷ after → IsGame o k → Legality (board_after o k) (turn_after k) (unmoved o k) (last_move k) m → is_the c Pawn (at (array_of o) x.of) ≡ true → Blow (board_after o k) (labels_after o k) (opponent c) m x → FellIn R set c x.of (way_of o k x.of) m.to
  fell-now k after m x e game legal first b =
      let began : is_of c (at (array_of o) x.of) ≡ true = (and_parts (is_of c (at (array_of o) x.of)) (is_a Pawn (at (array_of o) x.of)) first).0 in
      let how = fell-on-now o g k after m set c x walled e game legal first b in
      record {
        fell = how.0;
        room = λ officer. elim how.1 [
          | inl pawn ↦ absurd (no-pawn _ officer pawn)
          | inr it ↦
              subst (λ (j : Kind). R (man c j) (way_end x.of how.0.way) m.to ≡ true) (sym it.his) (subst (λ (w : List ℕ). R (man c it.who.kind) (way_end x.of w) m.to ≡ true) (sym it.whole)
              (room-of k (m ∷ after) e game m.to x.of it.who began it.label it.there (subst (λ (j : Kind). is_officer j ≡ true) it.his officer)))
        ];
      }

  each-pawn-fell : (x : Strike) → Contains (strikes o g (opponent c)) x → is_the c Pawn (at (array_of o) x.of) ≡ true → FellIn R set c x.of (way_of o g x.of) x.on
  each-pawn-fell =
      in-each-blow o g (opponent c) (λ k x. is_the c Pawn (at (array_of o) x.of) ≡ true → FellIn R set c x.of (way_of o k x.of) x.on)
      (λ k after m x e game old here first. fell-moved R set c x.of (way_of o k x.of) (way_of o (k ++ m ∷ []) x.of) x.on x.on (sym (fallen-rests o k m (opponent c) x game old)) refl (here first))
      (λ k after m x e game legal b first.
      fell-moved R set c x.of (way_of o k x.of) (way_of o (k ++ m ∷ []) x.of) m.to x.on (sym (falling-rests o k m c x game (and_parts (is_of c (at (array_of o) x.of)) (is_a Pawn (at (array_of o) x.of)) first).0 b)) b.on
      (fell-now k after m x e game legal first b))
      walled.game

  -- if he began as an officer, he had room there
  each-officer-room : (x : Strike) → Contains (strikes o g (opponent c)) x → (first : Man) → at (array_of o) x.of ≡ Some first → is_officer_of c (at (array_of o) x.of) ≡ true → R (man c first.kind) x.of x.on ≡ true
  each-officer-room =
      in-each-blow o g (opponent c) (λ k x. (first : Man) → at (array_of o) x.of ≡ Some first → is_officer_of c (at (array_of o) x.of) ≡ true → R (man c first.kind) x.of x.on ≡ true) (λ k after m x e game old here. here)
      (λ k after m x e game legal b first began officer.
      let no_pawn : is_a Pawn (at (array_of o) x.of) ≡ false = officer-no-pawn c (at (array_of o) x.of) officer in
      let label : label_at (labels_after o k) m.to ≡ Some x.of = plain-victim o k m x.of game legal no_pawn b.of in
      let who = man-there (board_after o k) (labels_after o k) m.to x.of (labels-each_man o k game) label in
      let same : first ≡ who.0 = same_Some first who.0 (sym began ∙ himself o k game m.to x.of who.0 label who.1 no_pawn) in
      let parts = and_parts (same_colour c first.colour) (is_officer first.kind) (ap (is_officer_of c) (sym began) ∙ officer) in
      let had = room-of k (m ∷ after) e game m.to x.of who.0 (ap (is_of c) began ∙ parts.0) label who.1 (ap (λ (y : Man). is_officer y.kind) (sym same) ∙ parts.1) in
      ap (R (man c first.kind) x.of) (sym b.on) ∙ ap (λ (y : Man). R (man c y.kind) x.of m.to) same ∙ ap (λ (w : List ℕ). R (man c who.0.kind) (way_end x.of w) m.to) (sym (no-way o k x.of game no_pawn)) ∙ had)
      walled.game

module _ (o : List Bool) (g : List Move) (set : List Bool) (p : PriceList) (R : Room) (c : Colour) (known : IsTrue (are_prices p)) (walled : Walled o g set) (room : HasRoom o g R) (h : ℕ) (first : Man) (began : at (array_of o) h ≡ Some first) (own : same_colour c first.colour ≡ true) where
  -- an officer
  officer-lost : same_kind first.kind Pawn ≡ false → same_kind first.kind King ≡ false → (96 - most_earned p set c (R (man c first.kind) h)) + gained p o g c h ≤ 96
  officer-lost piece king = elim (taken-or-not (strikes o g (opponent c)) h) [
    | inr none ↦ omega (arith, gains-nothing o g set p c known walled h none)
    | inl (x, there, same) ↦
        let officer : is_officer_of c (at (array_of o) x.of) ≡ true = ap (λ (k : ℕ). is_officer_of c (at (array_of o) k)) same ∙ ap (is_officer_of c) began ∙ and_from _ _ own (is-officer first.kind piece king) in
        let inside_it : x.on < 64 = member-inside (region set x.of) x.on (length-region set _ x.of) (each-officer-fell o g set c walled x there officer) in
        let member : R (man c first.kind) h x.on ≡ true = ap (λ (k : ℕ). R (man c first.kind) k x.on) (sym same) ∙ each-officer-room o g set R room c walled x there first (ap (at (array_of o)) same ∙ began) officer in
        let most = (greatest-listed (R (man c first.kind) h) (earned p set c)).above x.on inside_it member in
        let here = gains o g set p c known walled x there in
        let his : gained p o g c h ≡ earned p set c x.on = ap (gained p o g c) (sym same) ∙ here.0 in
        let small = here.1 in
        omega (arith, most, his, small)
  ]

  module _ (pawn : same_kind first.kind Pawn ≡ true) where
    -- no way costs less than the least
    under : (way : List ℕ) → is_way c set h way ≡ true → pawn_lost p set R c h ≤ loss_in p set R c h way
    unfolding pawn_lost
    under way is = (least-listed-all c set h (loss_in p set R c h) (inside o g set p c known walled h first began own pawn)).below way is refl

    loss-last : (way : List ℕ) → (rank (way_end h way) == last_rank c) ≡ true → loss_in p set R c h way ≡ way_cost p c h way - most_earned p set c (brings_some R c h way)
    loss-last way last = cond-true (rank (way_end h way) == last_rank c) (way_cost p c h way - most_earned p set c (brings_some R c h way)) (96 + fee (take p c) h way - earned p set c (way_end h way)) last

    loss-short : (way : List ℕ) → (rank (way_end h way) == last_rank c) ≡ false → loss_in p set R c h way ≡ 96 + fee (take p c) h way - earned p set c (way_end h way)
    loss-short way short = cond-false (rank (way_end h way) == last_rank c) (way_cost p c h way - most_earned p set c (brings_some R c h way)) (96 + fee (take p c) h way - earned p set c (way_end h way)) short

    untaken : pawn_lost p set R c h ≤ 96 + spent p o g c h
    untaken = elim (cases_Bool (rank (way_end h (way_of o g h)) == last_rank c)) [
      | inl last ↦ omega (arith, under (way_of o g h) (whole o g set p c known walled h first began own pawn), loss-last (way_of o g h) last, tolled o g set p c known walled h first began own pawn last)
      | inr short ↦ omega (arith, under (way_of o g h) (whole o g set p c known walled h first began own pawn), loss-short (way_of o g h) short, pays o g set p c known walled h first began own pawn)
    ]

    -- one who was taken as a pawn
    fell-short : (s : ℕ) (fell : FellOn set c h (way_of o g h) s) → same_kind Pawn fell.kind ≡ true → earned p set c s ≤ 96 → pawn_lost p set R c h + earned p set c s ≤ 96 + spent p o g c h
    fell-short s fell still small =
        let ends = brought-pawn set c h fell.way fell.kind s still fell.brought in
        let short : (rank (way_end h fell.way) == last_rank c) ≡ false = ap (λ (t : ℕ). rank t == last_rank c) ends.0 ∙ ends.1 in
        let same : fee (take p c) h fell.way ≡ fee (take p c) h (way_of o g h) = ap (sum_by (take p c)) fell.captures in
        let here : earned p set c (way_end h fell.way) ≡ earned p set c s = ap (earned p set c) ends.0 in
        omega (arith, under fell.way fell.goes, loss-short fell.way short, same, here, pays o g set p c known walled h first began own pawn, small)

    -- one who was taken after he was promoted
    fell-last : (s : ℕ) (x : FellIn R set c h (way_of o g h) s) → same_kind Pawn x.fell.kind ≡ false → earned p set c s ≤ 96 → pawn_lost p set R c h + earned p set c s ≤ 96 + spent p o g c h
    fell-last s x officer small =
        let fell = x.fell in
        let became = brought-officer set c h fell.way fell.kind s officer fell.brought in
        let none : fell.rest ≡ [] = elim fell.crossing [ inl none ↦ none | inr pawn_still ↦ absurd (both_ways (same_kind Pawn fell.kind) officer (ap (same_kind Pawn) pawn_still)) ] in
        let all : fell.way ≡ way_of o g h = sym (append-nil fell.way) ∙ ap (λ (l : List ℕ). fell.way ++ l) (sym none) ∙ sym fell.begins in
        let cost : way_cost p c h fell.way ≡ 96 + spent p o g c h = ap (way_cost p c h) all ∙ tolled o g set p c known walled h first began own pawn (ap (λ (l : List ℕ). rank (way_end h l) == last_rank c) (sym all) ∙ became.last) in
        let on : s < 64 = member-inside (region_from set (man c fell.kind) (way_end h fell.way)) s (length-region set (man c fell.kind) (way_end h fell.way)) became.member in
        let comes : brings_some R c h fell.way s ≡ true = any-officer (λ k. brings_in R c h fell.way k s) fell.kind became.officer (brings-in set R c h fell.way fell.kind s fell.brought x.room) in
        let most = (greatest-listed (brings_some R c h fell.way) (earned p set c)).above s on comes in
        omega (arith, under fell.way fell.goes, loss-last fell.way became.last, cost, most, small)

    pawn-lost : pawn_lost p set R c h + gained p o g c h ≤ 96 + spent p o g c h
    pawn-lost = elim (taken-or-not (strikes o g (opponent c)) h) [
      | inr none ↦ omega (arith, gains-nothing o g set p c known walled h none, untaken)
      | inl (x, there, same) ↦
          let of-pawn : is_the c Pawn (at (array_of o) x.of) ≡ true = ap (λ (k : ℕ). is_the c Pawn (at (array_of o) k)) same ∙ home o g set p c known walled h first began own pawn in
          let fell : FellIn R set c h (way_of o g h) x.on = subst (λ (k : ℕ). FellIn R set c k (way_of o g k) x.on) same (each-pawn-fell o g set R room c walled x there of-pawn) in
          let here = gains o g set p c known walled x there in
          let his : gained p o g c h ≡ earned p set c x.on = ap (gained p o g c) (sym same) ∙ here.0 in
          elim (cases_Bool (same_kind Pawn fell.fell.kind)) [
            | inl still ↦ omega (arith, fell-short x.on fell.fell still here.1, his)
            | inr became ↦ omega (arith, fell-last x.on fell became here.1, his)
          ]
    ]

  lost-so : is_in set h ≡ false → same_kind first.kind King ≡ false → (lost_as p set R c first.kind h + gained p o g c h ≤ 96 + spent p o g c h) × (lost_as p set R c first.kind h ≤ 96 + spent p o g c h)
  lost-so outside king =
      let e = cond-false (is_in set h) never (cond (same_kind first.kind Pawn) (pawn_lost p set R c h) (piece_lost p set R c first.kind h)) outside in
      elim (cases_Bool (same_kind first.kind Pawn)) [
        | inl pawn ↦
            let is = cond-true (same_kind first.kind Pawn) (pawn_lost p set R c h) (piece_lost p set R c first.kind h) pawn in
            (omega (arith, e, is, pawn-lost pawn), omega (arith, e, is, untaken pawn))
        | inr piece ↦
            let is = cond-false (same_kind first.kind Pawn) (pawn_lost p set R c h) (piece_lost p set R c first.kind h) piece in
            let officer = cond-false (same_kind first.kind King) never (96 - most_earned p set c (R (man c first.kind) h)) king in
            (omega (arith, e, is, officer, officer-lost piece king), omega (arith, e, is, officer))
      ]

  lost-is : lost p set R c (at (array_of o) h) h ≡ lost_as p set R c first.kind h
  lost-is = ap (λ (place : Option Man). lost p set R c place h) began ∙ cond-true (same_colour c first.colour) (lost_as p set R c first.kind h) never own

  -- whether he is gone or not, that he is gone would cost no more
  pub unearned-most : is_in set h ≡ false → same_kind first.kind King ≡ false → lost p set R c (at (array_of o) h) h ≤ 96 + spent p o g c h
  unearned-most outside king = omega (arith, lost-is, (lost-so outside king).1)

  pub lost-most : IsGone o g h → same_kind first.kind King ≡ false → lost p set R c (at (array_of o) h) h + gained p o g c h ≤ 96 + spent p o g c h
  lost-most gone king = omega (arith, lost-is, (lost-so (false_from_ne_true _ (λ member. walled-last o g set h walled member gone)) king).0)
