-- What it costs that a man is gone as he is, with what he earned, is no more than what he paid as a pawn, and the gates that he passed.
use Rattle.std.proofs.Common.{◌≡◌, ℕ, ◌+◌, ◌-◌, ◌<◌, ◌≤◌, ◌==◌, inl, inr, Bool, true, false, cond, ◌&&◌, ◌||◌, List, [], ◌∷◌, ◌++◌, refl, ap, sym, ◌∙◌, subst, arith}
use Rattle.std.proofs.lemmas.Bool.{and_from, both_ways, cases_Bool, cond-true, cond-false, eq-eqb, eqb-true, false_from_ne_true, ne_eqb, or_cases, or_left, or_right}
use Rattle.std.proofs.lemmas.List.{append-nil}
use Rattle.std.specs.Prelude.{IsTrue, Option, Some}
use Rattle.std.specs.Bool.{beq}
use Rattle.std.specs.List.{Contains, list_any, sum_by}
use Rattle.general_lemmas.proofs.Lists.{contains-cases, contains-first, contains-later, contains-none}
use Rattle.general_lemmas.proofs.Ranges.{any-found}
use Rattle.board_base.specs.Board.{array_of, at, is_a, is_in, is_of, is_the, man, opponent, rank, same_colour, same_kind}
use Rattle.board_base.specs.Legal.{last_rank}
use Rattle.board_base.specs.declared.men.Colour.{Colour}
use Rattle.board_base.specs.declared.men.Colour.TheVariants.{White, Black}
use Rattle.board_base.specs.declared.men.Kind.TheVariants.{Pawn, King}
use Rattle.board_base.specs.declared.men.Man.{Man}
use Rattle.board_base.specs.declared.moves.Move.{Move}
use Rattle.men_account.specs.Homes.{is_officer_of}
use Rattle.men_account.proofs.SideHomes.{home-black, home-white}
use Rattle.cage_rules.specs.Laws.{IsGone, Walled}
use Rattle.cage_rules.specs.Regions.{region, region_from}
use Rattle.cage_rules.proofs.Regions.{length-region}
use Rattle.cage_rules.proofs.Tested.{member-inside}
use Rattle.men_fates.specs.Deeds.{Strike, strikes, way_of}
use Rattle.men_fates.specs.Fates.{FellOn, brings, may_fall}
use Rattle.men_fates.specs.Ways.{fee, is_way, way_end}
use Rattle.men_fates.proofs.Brought.{brought-officer, brought-pawn}
use Rattle.men_fates.proofs.Goings.{no-way}
use Rattle.men_fates.proofs.Lasting.{walled-last}
use Rattle.men_fates.proofs.Tombs.{each-exposed, each-officer-fell, each-pawn-fell}
use Rattle.capture_prices.specs.Prices.{PriceList, are_prices, take}
use Rattle.balance_rule.specs.Costs.{brings_officer, earned, loss_cost, most_earned, never, way_cost}
use Rattle.balance_rule.proofs.Greatests.{greatest-listed}
use Rattle.balance_rule.proofs.Listed.{least-listed}
use Rattle.balance_rule.proofs.LostMen.{any-officer, gained, gains, gains-nothing, home, inside, pays, tolled, whole}
use Rattle.balance_rule.proofs.StandingMen.{is-officer, kind-turned, spent}
use Rattle.ledger_facts.specs.Supposed.{is_last, was_struck}
use Rattle.ledger_facts.specs.Accounts.{is_lost_by, loss_as, lost, lost_as, may_be_struck, may_fall_on, pawn_lost, piece_lost}
use Rattle.ledger_facts.proofs.Fell.{each-fell-as}
use Rattle.ledger_facts.proofs.Going.{beq-self}

-- a pawn took this man, or none did
pub struck-found : (all : List Strike) (h : ℕ) → list_any (λ (x : Strike). x.of == h) all ≡ true → (x : Strike) × Contains all x × (x.of ≡ h)
struck-found [] h is = absurd (both_ways false refl is)
struck-found (y ∷ all) h is = elim (or_cases (y.of == h) (list_any (λ (x : Strike). x.of == h) all) is) [
  | inl here ↦ (y, contains-first y all, eqb-true y.of h here)
  | inr later ↦ let found = struck-found all h later in (found.0, contains-later y all found.0 found.1, found.2)
]

pub struck-any : (all : List Strike) (h : ℕ) (x : Strike) → Contains all x → x.of ≡ h → list_any (λ (x : Strike). x.of == h) all ≡ true
struck-any [] h x there same = absurd (contains-none x there)
struck-any (y ∷ all) h x there same = elim (contains-cases y all x there) [
  | inl first ↦ or_left (y.of == h) (list_any (λ (x : Strike). x.of == h) all) (eq-eqb y.of h (ap (λ (z : Strike). z.of) first ∙ same))
  | inr later ↦ or_right (y.of == h) (list_any (λ (x : Strike). x.of == h) all) (struck-any all h x later same)
]

-- a home isn't on the last rank of its side
pub home-short : (o : List Bool) (c : Colour) (h : ℕ) → is_of c (at (array_of o) h) ≡ true → (rank h == last_rank c) ≡ false
home-short o White h here = let low : h < 16 = home-white o h here in ne_eqb (rank h) 7 (λ same. omega arith)
home-short o Black h here = let high : 47 < h = (home-black o h here).0 in ne_eqb (rank h) 0 (λ same. omega arith)

-- a square that passes the test, and where he may fall
falls-on : (set : List Bool) (c : Colour) (among : ℕ → Bool) (s : ℕ) → s < 64 → among s ≡ true → may_fall set c s ≡ true → may_fall_on set c among ≡ true
falls-on set c among s inside member falls = any-found (λ t. among t && may_fall set c t) 0 64 s (omega arith) (omega arith) (and_from _ _ member falls)

module _ (o : List Bool) (g : List Move) (set : List Bool) (p : PriceList) (c : Colour) (known : IsTrue (are_prices p)) (walled : Walled o g set) (h : ℕ) (first : Man) (began : at (array_of o) h ≡ Some first) (own : same_colour c first.colour ≡ true) where
  untaken : was_struck o g c h ≡ false → gained p o g c h ≡ 0
  untaken none = gains-nothing o g set p c known walled h (λ x there same. both_ways (was_struck o g c h) none (struck-any (strikes o g (opponent c)) h x there same))

  -- who is no pawn has no way, and so is never promoted
  piece-short : same_kind first.kind Pawn ≡ false → is_last c h (way_of o g h) ≡ false
  piece-short piece =
      ap (λ (w : List ℕ). is_last c h w) (no-way o g h walled.game (ap (is_a Pawn) began ∙ kind-turned Pawn first.kind ∙ piece)) ∙ home-short o c h (ap (is_of c) began ∙ own)

  -- what he earned whom a pawn took, and where
  record Taken : Type 0 where
    strike : Strike
    there : Contains (strikes o g (opponent c)) strike
    same : strike.of ≡ h
    his : gained p o g c h ≡ earned p set c strike.on
    small : earned p set c strike.on ≤ 96
    falls : may_fall set c strike.on ≡ true

  taken : was_struck o g c h ≡ true → Taken
  taken is =
      let found = struck-found (strikes o g (opponent c)) h is in
      let here = gains o g set p c known walled found.0 found.1 in
      record {
        strike = found.0;
        there = found.1;
        same = found.2;
        his = ap (gained p o g c) (sym found.2) ∙ here.0;
        small = here.1;
        falls = each-exposed o g set c walled found.0 found.1;
      }

  piece-most : (promoted struck : Bool) → same_kind first.kind Pawn ≡ false → same_kind first.kind King ≡ false → is_last c h (way_of o g h) ≡ promoted → was_struck o g c h ≡ struck → piece_lost promoted struck p set c first.kind h + gained p o g c h ≤ 96
  piece-most true struck piece king became fell = absurd (both_ways _ (piece-short piece) became)
  piece-most false false piece king became fell =
      let e = cond-false (false || same_kind first.kind King) never 96 king in
      omega (arith, e, untaken fell)
  piece-most false true piece king became fell =
      let t = taken fell in
      let officer : is_officer_of c (at (array_of o) t.strike.of) ≡ true = ap (λ (k : ℕ). is_officer_of c (at (array_of o) k)) t.same ∙ ap (is_officer_of c) began ∙ and_from _ _ own (is-officer first.kind piece king) in
      let member : is_in (region set h) t.strike.on ≡ true = ap (λ (k : ℕ). is_in (region set k) t.strike.on) (sym t.same) ∙ each-officer-fell o g set c walled t.strike t.there officer in
      let on_board : t.strike.on < 64 = member-inside (region set h) t.strike.on (length-region set _ h) member in
      let most = (greatest-listed (is_in (region set h)) (earned p set c)).above t.strike.on on_board member in
      let here : ℕ = 96 - most_earned p set c (is_in (region set h)) in
      let e = cond-false (false || same_kind first.kind King) never (cond (may_fall_on set c (is_in (region set h))) here never) king in
      let f = cond-true (may_fall_on set c (is_in (region set h))) here never (falls-on set c (is_in (region set h)) t.strike.on on_board member t.falls) in
      let his = t.his in
      let small = t.small in
      omega (arith, e, f, most, his, small)

  module _ (pawn : same_kind first.kind Pawn ≡ true) where
    abbrev all : List ℕ
    all = way_of o g h

    at_home : is_the c Pawn (at (array_of o) h) ≡ true
    at_home = home o g set p c known walled h first began own pawn

    -- no way that he may have gone costs less than the least
    under : (promoted struck : Bool) (way : List ℕ) → is_way c set h way ≡ true → is_lost_by promoted struck set c h way ≡ true → pawn_lost promoted struck p set c h ≤ loss_as struck p set c h way
    unfolding pawn_lost
    under promoted struck way is passes = (least-listed c set h (is_lost_by promoted struck set c h) (loss_as struck p set c h) (inside o g set p c known walled h first began own pawn)).below way is passes

    goes : is_way c set h all ≡ true
    goes = whole o g set p c known walled h first began own pawn

    -- he paid the fee of his way
    fee-is : fee (take p c) h all ≤ spent p o g c h
    fee-is = omega (arith, pays o g set p c known walled h first began own pawn)

    toll-is : is_last c h all ≡ true → way_cost p c h all ≡ 96 + spent p o g c h
    toll-is last = tolled o g set p c known walled h first began own pawn last

    loss-last : (way : List ℕ) → is_last c h way ≡ true → loss_cost p set c h way ≡ way_cost p c h way - most_earned p set c (brings_officer set c h way)
    loss-last way last = cond-true (is_last c h way) (way_cost p c h way - most_earned p set c (brings_officer set c h way)) (96 + fee (take p c) h way - earned p set c (way_end h way)) last

    loss-short : (way : List ℕ) → is_last c h way ≡ false → loss_cost p set c h way ≡ 96 + fee (take p c) h way - earned p set c (way_end h way)
    loss-short way short = cond-false (is_last c h way) (way_cost p c h way - most_earned p set c (brings_officer set c h way)) (96 + fee (take p c) h way - earned p set c (way_end h way)) short

    -- one whom no pawn took
    unstruck-most : (promoted : Bool) → is_last c h all ≡ promoted → was_struck o g c h ≡ false → pawn_lost promoted false p set c h + gained p o g c h ≤ 96 + spent p o g c h
    unstruck-most promoted became fell =
        let so : is_lost_by promoted false set c h all ≡ true = and_from (beq promoted (is_last c h all)) true (ap (beq promoted) became ∙ beq-self promoted) refl in
        let least = under promoted false all goes so in
        let nothing = untaken fell in
        elim (cases_Bool (is_last c h all)) [
          | inl last ↦ let e = cond-true (is_last c h all) (way_cost p c h all) (96 + fee (take p c) h all) last in omega (arith, least, nothing, e, toll-is last)
          | inr short ↦ let e = cond-false (is_last c h all) (way_cost p c h all) (96 + fee (take p c) h all) short in omega (arith, least, nothing, e, fee-is)
        ]

    -- one who was taken as a pawn
    struck-short : is_last c h all ≡ false → was_struck o g c h ≡ true → pawn_lost false true p set c h + gained p o g c h ≤ 96 + spent p o g c h
    struck-short short fell =
        let t = taken fell in
        let s : ℕ = t.strike.on in
        let first_pawn : is_the c Pawn (at (array_of o) t.strike.of) ≡ true = ap (λ (k : ℕ). is_the c Pawn (at (array_of o) k)) t.same ∙ at_home in
        let how : FellOn set c h all s = subst (λ (k : ℕ). FellOn set c k (way_of o g k) s) t.same (each-pawn-fell o g set c walled t.strike t.there first_pawn) in
        elim (cases_Bool (same_kind Pawn how.kind)) [
          | inl still ↦
              let ends = brought-pawn set c h how.way how.kind s still how.brought in
              let low : is_last c h how.way ≡ false = ap (λ (u : ℕ). rank u == last_rank c) ends.0 ∙ ends.1 in
              let may : may_be_struck set c h how.way ≡ true = cond-false (is_last c h how.way) (may_fall_on set c (brings_officer set c h how.way)) (may_fall set c (way_end h how.way)) low ∙ ap (may_fall set c) ends.0 ∙ t.falls in
              let so : is_lost_by false true set c h how.way ≡ true = and_from (beq false (is_last c h how.way)) (may_be_struck set c h how.way) (ap (beq false) low) may in
              let least = under false true how.way how.goes so in
              let same : fee (take p c) h how.way ≡ fee (take p c) h all = ap (sum_by (take p c)) how.captures in
              let here : earned p set c (way_end h how.way) ≡ earned p set c s = ap (earned p set c) ends.0 in
              let his = t.his in
              let small = t.small in
              omega (arith, least, loss-short how.way low, same, here, fee-is, his, small)
          | inr officer ↦
              let became = brought-officer set c h how.way how.kind s officer how.brought in
              let none : how.rest ≡ [] = elim how.crossing [ inl none ↦ none | inr pawn_still ↦ absurd (both_ways (same_kind Pawn how.kind) officer (ap (same_kind Pawn) pawn_still)) ] in
              let same : how.way ≡ all = sym (append-nil how.way) ∙ ap (λ (l : List ℕ). how.way ++ l) (sym none) ∙ sym how.begins in
              absurd (both_ways _ short (ap (λ (l : List ℕ). is_last c h l) (sym same) ∙ became.last))
        ]

    -- one who was taken after he was promoted
    struck-last : is_last c h all ≡ true → was_struck o g c h ≡ true → pawn_lost true true p set c h + gained p o g c h ≤ 96 + spent p o g c h
    struck-last last fell =
        let t = taken fell in
        let s : ℕ = t.strike.on in
        let first_pawn : is_the c Pawn (at (array_of o) t.strike.of) ≡ true = ap (λ (k : ℕ). is_the c Pawn (at (array_of o) k)) t.same ∙ at_home in
        let how = each-fell-as o g set c walled t.strike t.there first_pawn in
        elim how [
          | inl short ↦ absurd (both_ways _ (ap (λ (k : ℕ). rank (way_end k (way_of o g k)) == last_rank c) (sym t.same) ∙ short) last)
          | inr (k, officer, brings_there) ↦
              let brought : brings set c h all k s ≡ true = ap (λ (l : ℕ). brings set c l (way_of o g l) k s) (sym t.same) ∙ brings_there in
              let became = brought-officer set c h all k s officer brought in
              let on_board : s < 64 = member-inside (region_from set (man c k) (way_end h all)) s (length-region set (man c k) (way_end h all)) became.member in
              let comes : brings_officer set c h all s ≡ true = any-officer (λ j. brings set c h all j s) k became.officer brought in
              let may : may_be_struck set c h all ≡ true = cond-true (is_last c h all) (may_fall_on set c (brings_officer set c h all)) (may_fall set c (way_end h all)) last ∙ falls-on set c (brings_officer set c h all) s on_board comes t.falls in
              let so : is_lost_by true true set c h all ≡ true = and_from (beq true (is_last c h all)) (may_be_struck set c h all) (ap (beq true) last) may in
              let least = under true true all goes so in
              let most = (greatest-listed (brings_officer set c h all) (earned p set c)).above s on_board comes in
              let his = t.his in
              let small = t.small in
              omega (arith, least, loss-last all last, toll-is last, most, his, small)
        ]

    pawn-most : (promoted struck : Bool) → is_last c h all ≡ promoted → was_struck o g c h ≡ struck → pawn_lost promoted struck p set c h + gained p o g c h ≤ 96 + spent p o g c h
    pawn-most promoted false became fell = unstruck-most promoted became fell
    pawn-most true true became fell = struck-last became fell
    pawn-most false true became fell = struck-short became fell

  pub lost-most : (promoted struck : Bool) → IsGone o g h → same_kind first.kind King ≡ false → is_last c h (way_of o g h) ≡ promoted → was_struck o g c h ≡ struck → lost promoted struck p set c (at (array_of o) h) h + gained p o g c h ≤ 96 + spent p o g c h
  lost-most promoted struck gone king became fell =
      let outside : is_in set h ≡ false = false_from_ne_true _ (λ member. walled-last o g set h walled member gone) in
      let rest : ℕ = cond (same_kind first.kind Pawn) (pawn_lost promoted struck p set c h) (piece_lost promoted struck p set c first.kind h) in
      let here : lost promoted struck p set c (at (array_of o) h) h ≡ rest =
      ap (λ (place : Option Man). lost promoted struck p set c place h) began ∙ cond-true (same_colour c first.colour) (lost_as promoted struck p set c first.kind h) never own ∙ cond-false (is_in set h) never rest outside in
      elim (cases_Bool (same_kind first.kind Pawn)) [
        | inl pawn ↦
            let is = cond-true (same_kind first.kind Pawn) (pawn_lost promoted struck p set c h) (piece_lost promoted struck p set c first.kind h) pawn in
            omega (arith, here, is, pawn-most pawn promoted struck became fell)
        | inr piece ↦
            let is = cond-false (same_kind first.kind Pawn) (pawn_lost promoted struck p set c h) (piece_lost promoted struck p set c first.kind h) piece in
            omega (arith, here, is, piece-most promoted struck piece king became fell)
      ]
