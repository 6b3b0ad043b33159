-- What it costs that a man is gone, with what he earned, is no more than what he paid as a pawn, and the gates that he passed.
use Rattle.std.proofs.Common.{◌≡◌, ◌≢◌, ℕ, ◌+◌, ◌-◌, ◌<◌, ◌≤◌, ◌==◌, ◌⊎◌, inl, inr, Bool, true, false, cond, List, [], ◌∷◌, ◌++◌, refl, ap, sym, ◌∙◌, subst, arith}
use Rattle.std.proofs.lemmas.Bool.{and_from, both_ways, cases_Bool, cases_eq, cond-true, cond-false, false_from_ne_true, or_left, or_right}
use Rattle.std.proofs.lemmas.List.{append-nil}
use Rattle.std.specs.Prelude.{IsTrue, Option, Some}
use Rattle.std.specs.List.{Contains, list_any, sum_by}
use Rattle.general_lemmas.proofs.Lists.{contains-cases, contains-first, contains-later, contains-none}
use Rattle.board_base.specs.Board.{array_of, at, is_in, is_of, is_the, man, opponent, rank, same_colour, same_kind}
use Rattle.board_base.specs.Legal.{is_officer, last_rank}
use Rattle.board_base.specs.declared.men.Colour.{Colour}
use Rattle.board_base.specs.declared.men.Kind.{Kind}
use Rattle.board_base.specs.declared.men.Kind.TheVariants.{Pawn, Knight, Bishop, Rook, Queen, King}
use Rattle.board_base.specs.declared.men.Man.{Man}
use Rattle.board_base.specs.declared.moves.Move.{Move}
use Rattle.men_account.specs.Homes.{is_officer_of}
use Rattle.men_account.specs.Labels.{labels_after}
use Rattle.men_account.proofs.FilesLeft.{array-inside}
use Rattle.cage_rules.specs.Laws.{IsGone, Walled}
use Rattle.cage_rules.specs.Regions.{region, region_from}
use Rattle.cage_rules.proofs.Regions.{length-region}
use Rattle.cage_rules.proofs.Tested.{member-inside}
use Rattle.men_fates.specs.Deeds.{Strike, strikes, way_of}
use Rattle.men_fates.specs.Fates.{FellOn, brings, may_fall}
use Rattle.men_fates.specs.Ways.{fee, is_way, way_end}
use Rattle.men_fates.proofs.Brought.{brought-officer, brought-pawn}
use Rattle.men_fates.proofs.Lasting.{walled-last}
use Rattle.men_fates.proofs.Roads.{way-past}
use Rattle.men_fates.proofs.Tombs.{each-exposed, each-officer-fell, each-pawn-fell}
use Rattle.capture_prices.specs.Prices.{PriceList, are_prices, gate, take}
use Rattle.men_ledger.specs.Files.{is_there}
use Rattle.men_ledger.specs.Ledger.{paid}
use Rattle.men_ledger.specs.Ledger as ledger
use Rattle.men_ledger.proofs.Balance.{earns-nothing, earns-price}
use Rattle.men_ledger.proofs.PawnTolls.{fee-paid, toll-paid}
use Rattle.balance_rule.specs.Costs.{brings_officer, earned, gone, gone_as, loss_cost, most_earned, never, pawn_gone, piece_gone, way_cost}
use Rattle.balance_rule.proofs.Greatests.{greatest-listed}
use Rattle.balance_rule.proofs.Listed.{least-listed-all}
use Rattle.balance_rule.proofs.Priced.{take-small}
use Rattle.balance_rule.proofs.StandingMen.{is-officer, kind-turned, spent}

-- an officer is one of those that a pawn may become
pub any-officer : (f : Kind → Bool) (k : Kind) → is_officer k ≡ true → f k ≡ true → list_any f (Knight ∷ Bishop ∷ Rook ∷ Queen ∷ []) ≡ true
any-officer f Pawn officer passes = absurd (both_ways false refl officer)
any-officer f King officer passes = absurd (both_ways false refl officer)
any-officer f Knight officer passes = or_left (f Knight) _ passes
any-officer f Bishop officer passes = or_right (f Knight) _ (or_left (f Bishop) _ passes)
any-officer f Rook officer passes = or_right (f Knight) _ (or_right (f Bishop) _ (or_left (f Rook) _ passes))
any-officer f Queen officer passes = or_right (f Knight) _ (or_right (f Bishop) _ (or_right (f Rook) _ (or_left (f Queen) _ passes)))

-- a pawn took this man, or none did
pub taken-or-not : (all : List Strike) (h : ℕ) → ((x : Strike) × Contains all x × (x.of ≡ h)) ⊎ ((x : Strike) → Contains all x → x.of ≢ h)
taken-or-not [] h = inr (λ x there. absurd (contains-none x there))
taken-or-not (y ∷ all) h = elim (cases_eq y.of h) [
  | inl same ↦ inl (y, contains-first y all, same)
  | inr other ↦ elim (taken-or-not all h) [
    | inl later ↦ inl (later.0, contains-later y all later.0 later.1, later.2)
    | inr none ↦ inr (λ x there. elim (contains-cases y all x there) [
      | inl first ↦ λ e. other (ap (λ (z : Strike). z.of) first ∙ e)
      | inr rest ↦ none x rest
    ])
  ]
]

-- what the man of h earned where pawns of the other side took him
abbrev pub gained : PriceList → List Bool → List Move → Colour → ℕ → ℕ
gained p o g c h = ledger.earned (take p (opponent c)) (strikes o g (opponent c)) h

module _ (o : List Bool) (g : List Move) (set : List Bool) (p : PriceList) (c : Colour) (known : IsTrue (are_prices p)) (walled : Walled o g set) where
  -- a man who was taken by a pawn earns the price of the square
  pub gains : (x : Strike) → Contains (strikes o g (opponent c)) x → (gained p o g c x.of ≡ earned p set c x.on) × (earned p set c x.on ≤ 96)
  gains x there =
      let falls : earned p set c x.on ≡ take p (opponent c) x.on = cond-true (may_fall set c x.on) (take p (opponent c) x.on) 0 (each-exposed o g set c walled x there) in
      (earns-price o g (opponent c) (take p (opponent c)) walled.game x there ∙ sym falls, omega (arith, falls, take-small p (opponent c) x.on known))

  pub gains-nothing : (h : ℕ) → ((x : Strike) → Contains (strikes o g (opponent c)) x → x.of ≢ h) → gained p o g c h ≡ 0
  gains-nothing h none = earns-nothing (take p (opponent c)) (strikes o g (opponent c)) h none

  module _ (h : ℕ) (first : Man) (began : at (array_of o) h ≡ Some first) (own : same_colour c first.colour ≡ true) where
    -- an officer
    officer-lost : same_kind first.kind Pawn ≡ false → same_kind first.kind King ≡ false → (96 - most_earned p set c (is_in (region set h))) + gained p o g c h ≤ 96
    officer-lost piece king = elim (taken-or-not (strikes o g (opponent c)) h) [
      | inr none ↦ omega (arith, gains-nothing h none)
      | inl (x, there, same) ↦
          let officer : is_officer_of c (at (array_of o) x.of) ≡ true = ap (λ (k : ℕ). is_officer_of c (at (array_of o) k)) same ∙ ap (is_officer_of c) began ∙ and_from _ _ own (is-officer first.kind piece king) in
          let member : is_in (region set h) x.on ≡ true = ap (λ (k : ℕ). is_in (region set k) x.on) (sym same) ∙ each-officer-fell o g set c walled x there officer in
          let inside : x.on < 64 = member-inside (region set h) x.on (length-region set _ h) member in
          let most = (greatest-listed (is_in (region set h)) (earned p set c)).above x.on inside member in
          let here = gains x there in
          let his : gained p o g c h ≡ earned p set c x.on = ap (gained p o g c) (sym same) ∙ here.0 in
          let small = here.1 in
          omega (arith, most, his, small)
    ]

    module _ (pawn : same_kind first.kind Pawn ≡ true) where
      pub home : is_the c Pawn (at (array_of o) h) ≡ true
      home = ap (is_the c Pawn) began ∙ and_from _ _ own (kind-turned Pawn first.kind ∙ pawn)

      pub inside : h < 64
      inside = array-inside o (is_the c Pawn) h refl home

      pub whole : is_way c set h (way_of o g h) ≡ true
      whole = way-past o g g [] set c h walled (sym (append-nil g)) (ap (is_of c) began ∙ own)

      pub pays : fee (take p c) h (way_of o g h) ≡ paid (take p c) (strikes o g c) h
      pays = fee-paid o g c (take p c) h walled.game (ap (is_of c) began ∙ own)

      -- one who was promoted
      pub tolled : (rank (way_end h (way_of o g h)) == last_rank c) ≡ true → way_cost p c h (way_of o g h) ≡ 96 + spent p o g c h
      tolled last = ap (λ (n : ℕ). 96 + n) (toll-paid o g c (take p c) (gate p) h walled.game home (or_right (is_there (labels_after o g) h) (rank (way_end h (way_of o g h)) == last_rank c) last))

      -- no way costs less than the least
      under : (way : List ℕ) → is_way c set h way ≡ true → pawn_gone p set c h ≤ loss_cost p set c h way
      unfolding pawn_gone
      under way is = (least-listed-all c set h (loss_cost p set c h) inside).below way is refl

      loss-last : (way : List ℕ) → (rank (way_end h way) == last_rank c) ≡ true → loss_cost p set c h way ≡ way_cost p c h way - most_earned p set c (brings_officer set c h way)
      loss-last way last = cond-true (rank (way_end h way) == last_rank c) (way_cost p c h way - most_earned p set c (brings_officer set c h way)) (96 + fee (take p c) h way - earned p set c (way_end h way)) last

      loss-short : (way : List ℕ) → (rank (way_end h way) == last_rank c) ≡ false → loss_cost p set c h way ≡ 96 + fee (take p c) h way - earned p set c (way_end h way)
      loss-short way short = cond-false (rank (way_end h way) == last_rank c) (way_cost p c h way - most_earned p set c (brings_officer set c h way)) (96 + fee (take p c) h way - earned p set c (way_end h way)) short

      untaken : pawn_gone p set c h ≤ 96 + spent p o g c h
      untaken = elim (cases_Bool (rank (way_end h (way_of o g h)) == last_rank c)) [
        | inl last ↦ omega (arith, under (way_of o g h) whole, loss-last (way_of o g h) last, tolled last)
        | inr short ↦ omega (arith, under (way_of o g h) whole, loss-short (way_of o g h) short, pays)
      ]

      -- one who was taken as a pawn
      fell-short : (s : ℕ) (fell : FellOn set c h (way_of o g h) s) → same_kind Pawn fell.kind ≡ true → earned p set c s ≤ 96 → pawn_gone p set c h + earned p set c s ≤ 96 + spent p o g c h
      fell-short s fell still small =
          let ends = brought-pawn set c h fell.way fell.kind s still fell.brought in
          let short : (rank (way_end h fell.way) == last_rank c) ≡ false = ap (λ (t : ℕ). rank t == last_rank c) ends.0 ∙ ends.1 in
          let same : fee (take p c) h fell.way ≡ fee (take p c) h (way_of o g h) = ap (sum_by (take p c)) fell.captures in
          let here : earned p set c (way_end h fell.way) ≡ earned p set c s = ap (earned p set c) ends.0 in
          omega (arith, under fell.way fell.goes, loss-short fell.way short, same, here, pays, small)

      -- one who was taken after he was promoted
      fell-last : (s : ℕ) (fell : FellOn set c h (way_of o g h) s) → same_kind Pawn fell.kind ≡ false → earned p set c s ≤ 96 → pawn_gone p set c h + earned p set c s ≤ 96 + spent p o g c h
      fell-last s fell officer small =
          let became = brought-officer set c h fell.way fell.kind s officer fell.brought in
          let none : fell.rest ≡ [] = elim fell.crossing [ inl none ↦ none | inr pawn_still ↦ absurd (both_ways (same_kind Pawn fell.kind) officer (ap (same_kind Pawn) pawn_still)) ] in
          let all : fell.way ≡ way_of o g h = sym (append-nil fell.way) ∙ ap (λ (l : List ℕ). fell.way ++ l) (sym none) ∙ sym fell.begins in
          let cost : way_cost p c h fell.way ≡ 96 + spent p o g c h = ap (way_cost p c h) all ∙ tolled (ap (λ (l : List ℕ). rank (way_end h l) == last_rank c) (sym all) ∙ became.last) in
          let on : s < 64 = member-inside (region_from set (man c fell.kind) (way_end h fell.way)) s (length-region set (man c fell.kind) (way_end h fell.way)) became.member in
          let comes : brings_officer set c h fell.way s ≡ true = any-officer (λ k. brings set c h fell.way k s) fell.kind became.officer fell.brought in
          let most = (greatest-listed (brings_officer set c h fell.way) (earned p set c)).above s on comes in
          omega (arith, under fell.way fell.goes, loss-last fell.way became.last, cost, most, small)

      pawn-lost : pawn_gone p set c h + gained p o g c h ≤ 96 + spent p o g c h
      pawn-lost = elim (taken-or-not (strikes o g (opponent c)) h) [
        | inr none ↦ omega (arith, gains-nothing h none, untaken)
        | inl (x, there, same) ↦
            let of-pawn : is_the c Pawn (at (array_of o) x.of) ≡ true = ap (λ (k : ℕ). is_the c Pawn (at (array_of o) k)) same ∙ home in
            let fell : FellOn set c h (way_of o g h) x.on = subst (λ (k : ℕ). FellOn set c k (way_of o g k) x.on) same (each-pawn-fell o g set c walled x there of-pawn) in
            let here = gains x there in
            let his : gained p o g c h ≡ earned p set c x.on = ap (gained p o g c) (sym same) ∙ here.0 in
            elim (cases_Bool (same_kind Pawn fell.kind)) [
              | inl still ↦ omega (arith, fell-short x.on fell still here.1, his)
              | inr became ↦ omega (arith, fell-last x.on fell became here.1, his)
            ]
      ]

    lost-so : is_in set h ≡ false → same_kind first.kind King ≡ false → gone_as p set c first.kind h + gained p o g c h ≤ 96 + spent p o g c h
    lost-so outside king =
        let e = cond-false (is_in set h) never (cond (same_kind first.kind Pawn) (pawn_gone p set c h) (piece_gone p set c first.kind h)) outside in
        elim (cases_Bool (same_kind first.kind Pawn)) [
          | inl pawn ↦ let is = cond-true (same_kind first.kind Pawn) (pawn_gone p set c h) (piece_gone p set c first.kind h) pawn in omega (arith, e, is, pawn-lost pawn)
          | inr piece ↦
              let is = cond-false (same_kind first.kind Pawn) (pawn_gone p set c h) (piece_gone p set c first.kind h) piece in
              let officer = cond-false (same_kind first.kind King) never (96 - most_earned p set c (is_in (region set h))) king in
              omega (arith, e, is, officer, officer-lost piece king)
        ]

    -- whether he is gone or not, that he is gone would cost no more
    unearned-so : is_in set h ≡ false → same_kind first.kind King ≡ false → gone_as p set c first.kind h ≤ 96 + spent p o g c h
    unearned-so outside king =
        let e = cond-false (is_in set h) never (cond (same_kind first.kind Pawn) (pawn_gone p set c h) (piece_gone p set c first.kind h)) outside in
        elim (cases_Bool (same_kind first.kind Pawn)) [
          | inl pawn ↦ let is = cond-true (same_kind first.kind Pawn) (pawn_gone p set c h) (piece_gone p set c first.kind h) pawn in omega (arith, e, is, untaken pawn)
          | inr piece ↦
              let is = cond-false (same_kind first.kind Pawn) (pawn_gone p set c h) (piece_gone p set c first.kind h) piece in
              let officer = cond-false (same_kind first.kind King) never (96 - most_earned p set c (is_in (region set h))) king in
              omega (arith, e, is, officer)
        ]

    pub unearned-most : is_in set h ≡ false → same_kind first.kind King ≡ false → gone p set c (at (array_of o) h) h ≤ 96 + spent p o g c h
    unearned-most outside king =
        let here : gone p set c (at (array_of o) h) h ≡ gone_as p set c first.kind h = ap (λ (place : Option Man). gone p set c place h) began ∙ cond-true (same_colour c first.colour) (gone_as p set c first.kind h) never own in
        omega (arith, here, unearned-so outside king)

    pub gone-most : IsGone o g h → same_kind first.kind King ≡ false → gone p set c (at (array_of o) h) h + gained p o g c h ≤ 96 + spent p o g c h
    gone-most lost king =
        let here : gone p set c (at (array_of o) h) h ≡ gone_as p set c first.kind h = ap (λ (place : Option Man). gone p set c place h) began ∙ cond-true (same_colour c first.colour) (gone_as p set c first.kind h) never own in
        omega (arith, here, lost-so (false_from_ne_true _ (λ member. walled-last o g set h walled member lost)) king)
