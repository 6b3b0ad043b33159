-- What it costs that a man came so to his square is no more than what he paid as a pawn, and the gates that he passed.
use Rattle.std.proofs.Common.{◌≡◌, ℕ, ◌+◌, ◌<◌, ◌≤◌, ◌==◌, inl, inr, Bool, true, false, cond, ◌&&◌, ◌||◌, not, List, [], refl, ap, sym, ◌∙◌, arith}
use Rattle.std.proofs.lemmas.Bool.{and_from, cases_Bool, cond-true, cond-false, eq-eqb, or_left, or_right}
use Rattle.std.proofs.lemmas.List.{append-nil}
use Rattle.std.specs.Prelude.{Option}
use Rattle.board_base.specs.Board.{array_of, at, is_a, is_in, is_of, is_the, man, rank, same_colour, same_kind}
use Rattle.board_base.specs.Legal.{is_officer, last_rank}
use Rattle.board_base.specs.declared.men.Colour.{Colour}
use Rattle.board_base.specs.declared.men.Kind.{Kind}
use Rattle.board_base.specs.declared.men.Kind.TheVariants.{King, Pawn}
use Rattle.board_base.specs.declared.men.Man.{Man}
use Rattle.board_base.specs.declared.moves.Move.{Move}
use Rattle.board_base.proofs.KindsOfMen.{same_kind-self}
use Rattle.men_account.specs.Labels.{labels_after}
use Rattle.men_account.proofs.FilesLeft.{array-inside}
use Rattle.cage_rules.specs.Laws.{Walled}
use Rattle.cage_rules.specs.Regions.{region_from}
use Rattle.men_fates.specs.Deeds.{way_of}
use Rattle.men_fates.specs.Fates.{brings}
use Rattle.men_fates.specs.Ways.{is_straight, is_way, way_end}
use Rattle.men_fates.proofs.Brought.{as-man, brought, brought-officer, his-colour}
use Rattle.men_fates.proofs.Goings.{no-way}
use Rattle.men_fates.proofs.Roads.{way-past}
use Rattle.balance_rule.specs.Files.{is_there}
use Rattle.balance_rule.proofs.PawnTolls.{toll-paid}
use Rattle.capture_prices.specs.Prices.{PriceList, gate, take}
use Rattle.balance_rule.specs.Costs.{never, way_cost}
use Rattle.balance_rule.proofs.Listed.{least-listed}
use Rattle.balance_rule.proofs.StandingMen.{Stays, himself-still, is-officer, kind-turned, spent, stands-home, there-now}
use Rattle.past_sketches.specs.Fits.{is_plain}
use Rattle.past_account.specs.Limits.{Limit, allows, brings_in, comes, comes_as, may_come_by, pawn_comes, piece_comes}
use Rattle.past_account.specs.Zones.{Room}
use Rattle.past_account.proofs.Rooms.{HasRoom}

-- what a mark says of a man who began as a pawn
plain-pawn : (b straight began : Bool) → began ≡ true → cond b straight (not began) ≡ (b && straight)
plain-pawn true straight began is = refl
plain-pawn false straight began is = ap not is

-- and of one who began as another man
plain-piece : (b straight began : Bool) → b ≡ false → began ≡ false → cond b straight (not began) ≡ true
plain-piece b straight began other is = cond-false b straight (not began) other ∙ ap not is

-- where a way brings a man, and he has room, it brings him in the room
pub brings-in : (set : List Bool) (R : Room) (c : Colour) (h : ℕ) (way : List ℕ) (k : Kind) (s : ℕ) → brings set c h way k s ≡ true → (is_officer k ≡ true → R (man c k) (way_end h way) s ≡ true) → brings_in R c h way k s ≡ true
brings-in set R c h way k s there room = elim (cases_Bool (same_kind Pawn k)) [
  | inl pawn ↦
      cond-true (same_kind Pawn k) ((way_end h way == s) && not (rank s == last_rank c)) ((rank (way_end h way) == last_rank c) && is_officer k && R (man c k) (way_end h way) s) pawn
      ∙ sym (cond-true (same_kind Pawn k) ((way_end h way == s) && not (rank s == last_rank c)) ((rank (way_end h way) == last_rank c) && is_officer k && is_in (region_from set (man c k) (way_end h way)) s) pawn) ∙ there
  | inr piece ↦
      let became = brought-officer set c h way k s piece there in
      cond-false (same_kind Pawn k) ((way_end h way == s) && not (rank s == last_rank c)) ((rank (way_end h way) == last_rank c) && is_officer k && R (man c k) (way_end h way) s) piece
      ∙ and_from _ _ (and_from _ _ became.last became.officer) (room became.officer)
]

module _ (o : List Bool) (g : List Move) (set : List Bool) (p : PriceList) (R : Room) (room : HasRoom o g R) (c : Colour) (h s : ℕ) (walled : Walled o g set) (x : Stays o g c h s) (limit : Limit) (within : allows limit (is_plain o g h x.man) ≡ true) where
  has-room : is_officer x.man.kind ≡ true → R (man c x.man.kind) (way_end h (way_of o g h)) s ≡ true
  has-room officer =
      let side : c ≡ x.man.colour = his-colour o g c s h x.man walled.game (ap (is_of c) x.began ∙ x.own) x.label x.there in
      ap (λ (m : Option Man). R m (way_end h (way_of o g h)) s) (sym (as-man x.man c side)) ∙ room g [] (sym (append-nil g)) s h x.man x.label x.there officer

  pawn-comes : same_kind x.first.kind Pawn ≡ true → pawn_comes p set R c limit h x.man.kind s ≤ 96 + spent p o g c h
  unfolding pawn_comes
  pawn-comes pawn =
      let way : List ℕ = way_of o g h in
      let home : is_the c Pawn (at (array_of o) h) ≡ true = ap (is_the c Pawn) x.began ∙ and_from _ _ x.own (kind-turned Pawn x.first.kind ∙ pawn) in
      let inside : h < 64 = array-inside o (is_the c Pawn) h refl home in
      let is : is_way c set h way ≡ true = way-past o g g [] set c h walled (sym (append-nil g)) (ap (is_of c) x.began ∙ x.own) in
      let comes : brings_in R c h way x.man.kind s ≡ true = brings-in set R c h way x.man.kind s (brought o g g [] set c h s x.man walled (sym (append-nil g)) home x.label x.there) has-room in
      let began : is_a Pawn (at (array_of o) h) ≡ true = ap (is_a Pawn) x.began ∙ kind-turned Pawn x.first.kind ∙ pawn in
      let so : may_come_by limit h x.man.kind way ≡ true = ap (allows limit) (sym (plain-pawn (same_kind Pawn x.man.kind) (is_straight h way) (is_a Pawn (at (array_of o) h)) began)) ∙ within in
      let least = (least-listed c set h (λ w. may_come_by limit h x.man.kind w && brings_in R c h w x.man.kind s) (way_cost p c h) inside).below way is (and_from _ _ so comes) in
      let tolls = toll-paid o g c (take p c) (gate p) h walled.game home (or_left (is_there (labels_after o g) h) (rank (way_end h way) == last_rank c) (there-now o g set p c h s walled x)) in
      omega (arith, least, tolls)

  piece-comes : same_kind x.first.kind Pawn ≡ false → piece_comes R c limit x.first.kind h x.man.kind s ≡ 96
  piece-comes piece =
      let began : is_a Pawn (at (array_of o) h) ≡ false = ap (is_a Pawn) x.began ∙ kind-turned Pawn x.first.kind ∙ piece in
      let still : x.first ≡ x.man = himself-still o g set p c h s walled x piece in
      let other : same_kind Pawn x.man.kind ≡ false = ap (λ (m : Man). same_kind Pawn m.kind) (sym still) ∙ kind-turned Pawn x.first.kind ∙ piece in
      let so : allows limit true ≡ true = ap (allows limit) (sym (plain-piece (same_kind Pawn x.man.kind) (is_straight h (way_of o g h)) (is_a Pawn (at (array_of o) h)) other began)) ∙ within in
      let same : same_kind x.first.kind x.man.kind ≡ true = ap (λ (m : Man). same_kind x.first.kind m.kind) (sym still) ∙ same_kind-self x.first.kind in
      let may : (same_kind x.first.kind King || R (man c x.first.kind) h s) ≡ true = elim (cases_Bool (same_kind x.first.kind King)) [
        | inl king ↦ or_left (same_kind x.first.kind King) (R (man c x.first.kind) h s) king
        | inr not_king ↦
            let officer : is_officer x.man.kind ≡ true = ap (λ (m : Man). is_officer m.kind) (sym still) ∙ is-officer x.first.kind piece not_king in
            or_right (same_kind x.first.kind King) (R (man c x.first.kind) h s)
            (ap (λ (m : Man). R (man c m.kind) h s) still ∙ ap (λ (w : List ℕ). R (man c x.man.kind) (way_end h w) s) (sym (no-way o g h walled.game began)) ∙ has-room officer)
      ] in
      cond-true (allows limit true && same_kind x.first.kind x.man.kind && (same_kind x.first.kind King || R (man c x.first.kind) h s)) 96 never (and_from _ _ (and_from _ _ so same) may)

  comes-so : comes_as p set R c limit x.first.kind h x.man.kind s ≤ 96 + spent p o g c h
  comes-so = elim (cases_Bool (is_in set h || is_in set s)) [
    | inl member ↦
        let e = cond-true (is_in set h || is_in set s) (cond (h == s) 96 never) (cond (same_kind x.first.kind Pawn) (pawn_comes p set R c limit h x.man.kind s) (piece_comes R c limit x.first.kind h x.man.kind s)) member in
        let home = cond-true (h == s) 96 never (eq-eqb h s (stands-home o g set p c h s walled x member)) in
        omega (arith, e, home)
    | inr away ↦
        let e = cond-false (is_in set h || is_in set s) (cond (h == s) 96 never) (cond (same_kind x.first.kind Pawn) (pawn_comes p set R c limit h x.man.kind s) (piece_comes R c limit x.first.kind h x.man.kind s)) away in
        elim (cases_Bool (same_kind x.first.kind Pawn)) [
          | inl pawn ↦ let is = cond-true (same_kind x.first.kind Pawn) (pawn_comes p set R c limit h x.man.kind s) (piece_comes R c limit x.first.kind h x.man.kind s) pawn in omega (arith, e, is, pawn-comes pawn)
          | inr piece ↦ let is = cond-false (same_kind x.first.kind Pawn) (pawn_comes p set R c limit h x.man.kind s) (piece_comes R c limit x.first.kind h x.man.kind s) piece in omega (arith, e, is, piece-comes piece)
        ]
  ]

  pub comes-most : comes p set R c limit (at (array_of o) h) h x.man.kind s ≤ 96 + spent p o g c h
  comes-most =
      let here : comes p set R c limit (at (array_of o) h) h x.man.kind s ≡ comes_as p set R c limit x.first.kind h x.man.kind s =
      ap (λ (place : Option Man). comes p set R c limit place h x.man.kind s) x.began ∙ cond-true (same_colour c x.first.colour) (comes_as p set R c limit x.first.kind h x.man.kind s) never x.own in
      omega (arith, here, comes-so)
