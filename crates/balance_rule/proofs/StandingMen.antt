-- What it costs that a man stands where he does is no more than what he paid as a pawn, and the gates that he passed.
use Rattle.std.proofs.Common.{◌≡◌, ℕ, ◌+◌, ◌<◌, ◌≤◌, ◌==◌, inl, inr, Bool, true, false, cond, ◌||◌, List, [], refl, ap, sym, ◌∙◌, subst, arith}
use Rattle.std.proofs.lemmas.Bool.{and_from, both_ways, cases_Bool, cond-true, cond-false, eq-eqb, or_cases, or_left, or_right}
use Rattle.std.proofs.lemmas.List.{append-nil}
use Rattle.std.proofs.lemmas.Option.{same_Some}
use Rattle.std.specs.Prelude.{Option, Some}
use Rattle.general_lemmas.proofs.Ranges.{any-found}
use Rattle.general_lemmas.proofs.Truth.{same_truth}
use Rattle.board_base.specs.Board.{array_of, at, is_a, is_in, is_of, is_the, rank, same_colour, same_kind}
use Rattle.board_base.specs.Game.{IsGame, board_after}
use Rattle.board_base.specs.Legal.{is_officer, last_rank}
use Rattle.board_base.specs.declared.men.Colour.{Colour}
use Rattle.board_base.specs.declared.men.Kind.{Kind}
use Rattle.board_base.specs.declared.men.Kind.TheVariants.{Pawn, Knight, Bishop, Rook, Queen, King}
use Rattle.board_base.specs.declared.men.Man.{Man}
use Rattle.board_base.specs.declared.moves.Move.{Move}
use Rattle.board_base.proofs.KindsOfMen.{kind_is, same_kind-self}
use Rattle.men_account.specs.Homes.{is_officer_of}
use Rattle.men_account.specs.Labels.{label_at, labels_after}
use Rattle.men_account.proofs.FilesLeft.{array-inside}
use Rattle.men_account.proofs.Labelled.{labels-apart, labels-each_man}
use Rattle.men_account.proofs.Captured.{man-there}
use Rattle.men_account.proofs.PawnLaws.{himself, man-of}
use Rattle.cage_rules.specs.Laws.{Walled}
use Rattle.cage_rules.specs.Regions.{region}
use Rattle.cage_rules.proofs.Refuted.{home-there}
use Rattle.cage_rules.proofs.Roamers.{in-region}
use Rattle.men_fates.specs.Deeds.{is_label, strikes, way_of}
use Rattle.men_fates.specs.Fates.{brings}
use Rattle.men_fates.specs.Ways.{is_way, way_end}
use Rattle.men_fates.proofs.Brought.{brought}
use Rattle.men_fates.proofs.MoreDeeds.{label-is}
use Rattle.men_fates.proofs.Roads.{way-past}
use Rattle.capture_prices.specs.Prices.{PriceList, gate, take}
use Rattle.men_ledger.specs.Files.{gates_passed, is_there}
use Rattle.men_ledger.specs.Ledger.{paid}
use Rattle.men_ledger.proofs.PawnTolls.{toll-paid}
use Rattle.balance_rule.specs.Costs.{never, pawn_stands, piece_stands, stands, stands_as, way_cost}
use Rattle.balance_rule.proofs.Listed.{least-listed}
use Rattle.balance_rule.proofs.OnBoard.{labelled-inside}

pub kind-turned : (a b : Kind) → same_kind a b ≡ same_kind b a
kind-turned a b = same_truth (same_kind a b) (same_kind b a) (λ h. subst (λ (k : Kind). same_kind k a ≡ true) (kind_is a b h) (same_kind-self a)) (λ h. subst (λ (k : Kind). same_kind k b ≡ true) (kind_is b a h) (same_kind-self b))

-- who is neither a pawn nor a king is an officer
pub is-officer : (k : Kind) → same_kind k Pawn ≡ false → same_kind k King ≡ false → is_officer k ≡ true
is-officer Pawn a b = absurd (both_ways true a refl)
is-officer Knight a b = refl
is-officer Bishop a b = refl
is-officer Rook a b = refl
is-officer Queen a b = refl
is-officer King a b = absurd (both_ways true b refl)

-- what he paid, and the gates that he passed
abbrev pub spent : PriceList → List Bool → List Move → Colour → ℕ → ℕ
spent p o g c h = paid (take p c) (strikes o g c) h + gates_passed (gate p) o g c h

-- the man on h when the game began, and the man on s with his label
pub record Stays (o : List Bool) (g : List Move) (c : Colour) (h s : ℕ) : Type 0 where
  pub first : Man
  pub man : Man
  pub began : at (array_of o) h ≡ Some first
  pub own : same_colour c first.colour ≡ true
  pub there : at (board_after o g) s ≡ Some man
  pub label : label_at (labels_after o g) s ≡ Some h

pub stays : (o : List Bool) (g : List Move) (c : Colour) (h s : ℕ) → IsGame o g → is_of c (at (array_of o) h) ≡ true → label_at (labels_after o g) s ≡ Some h → Stays o g c h s
stays o g c h s game home label =
    let first = man-of (is_of c) (at (array_of o) h) refl home in
    let man = man-there (board_after o g) (labels_after o g) s h (labels-each_man o g game) label in
    record { first = first.0; man = man.0; began = first.1; own = sym (ap (is_of c) first.1) ∙ home; there = man.1; label = label }

module _ (o : List Bool) (g : List Move) (set : List Bool) (p : PriceList) (c : Colour) (h s : ℕ) (walled : Walled o g set) (x : Stays o g c h s) where
  -- a man of the set stands where he began
  pub stands-home : (is_in set h || is_in set s) ≡ true → h ≡ s
  stands-home member = elim (or_cases (is_in set h) (is_in set s) member) [
    | inl began ↦ sym (labels-apart o g walled.game s h h x.label (walled.labels g ([], sym (append-nil g)) h began))
    | inr here ↦ same_Some h s (sym x.label ∙ walled.labels g ([], sym (append-nil g)) s here)
  ]

  pub there-now : is_there (labels_after o g) h ≡ true
  there-now =
      let inside : s < 64 = labelled-inside o g s h walled.game x.label in
      any-found (λ t. is_label (label_at (labels_after o g) t) h) 0 64 s (omega arith) (omega arith) (label-is (label_at (labels_after o g) s) h x.label)

  pawn-stands : same_kind x.first.kind Pawn ≡ true → pawn_stands p set c h x.man.kind s ≤ 96 + spent p o g c h
  unfolding pawn_stands
  pawn-stands pawn =
      let way : List ℕ = way_of o g h in
      let home : is_the c Pawn (at (array_of o) h) ≡ true = ap (is_the c Pawn) x.began ∙ and_from _ _ x.own (kind-turned Pawn x.first.kind ∙ pawn) in
      let inside : h < 64 = array-inside o (is_the c Pawn) h refl home in
      let is : is_way c set h way ≡ true = way-past o g g [] set c h walled (sym (append-nil g)) (ap (is_of c) x.began ∙ x.own) in
      let comes : brings set c h way x.man.kind s ≡ true = brought o g g [] set c h s x.man walled (sym (append-nil g)) home x.label x.there in
      let least = (least-listed c set h (λ w. brings set c h w x.man.kind s) (way_cost p c h) inside).below way is comes in
      let tolls = toll-paid o g c (take p c) (gate p) h walled.game home (or_left (is_there (labels_after o g) h) (rank (way_end h way) == last_rank c) there-now) in
      omega (arith, least, tolls)

  -- who began as no pawn is who he was
  pub himself-still : same_kind x.first.kind Pawn ≡ false → x.first ≡ x.man
  himself-still piece = same_Some x.first x.man (sym x.began ∙ himself o g walled.game s h x.man x.label x.there (ap (is_a Pawn) x.began ∙ kind-turned Pawn x.first.kind ∙ piece))

  in-his-region : same_kind x.first.kind Pawn ≡ false → same_kind x.first.kind King ≡ false → is_in (region set h) s ≡ true
  in-his-region piece king =
      let home = home-there o c h (ap (is_officer_of c) x.began ∙ and_from _ _ x.own (is-officer x.first.kind piece king)) in
      (in-region o g set h walled home.1 home.0 g ([], sym (append-nil g)) s x.label).0

  pub piece-stands : same_kind x.first.kind Pawn ≡ false → piece_stands set x.first.kind h x.man.kind s ≡ 96
  piece-stands piece =
      let same : same_kind x.first.kind x.man.kind ≡ true = ap (λ (m : Man). same_kind x.first.kind m.kind) (sym (himself-still piece)) ∙ same_kind-self x.first.kind in
      let may : (same_kind x.first.kind King || is_in (region set h) s) ≡ true = elim (cases_Bool (same_kind x.first.kind King)) [
        | inl king ↦ or_left _ (is_in (region set h) s) king
        | inr officer ↦ or_right (same_kind x.first.kind King) _ (in-his-region piece officer)
      ] in
      cond-true _ 96 never (and_from _ _ same may)

  stands-so : stands_as p set c x.first.kind h x.man.kind s ≤ 96 + spent p o g c h
  stands-so = elim (cases_Bool (is_in set h || is_in set s)) [
    | inl member ↦
        let e = cond-true (is_in set h || is_in set s) (cond (h == s) 96 never) (cond (same_kind x.first.kind Pawn) (pawn_stands p set c h x.man.kind s) (piece_stands set x.first.kind h x.man.kind s)) member in
        let home = cond-true (h == s) 96 never (eq-eqb h s (stands-home member)) in
        omega (arith, e, home)
    | inr other ↦
        let e = cond-false (is_in set h || is_in set s) (cond (h == s) 96 never) (cond (same_kind x.first.kind Pawn) (pawn_stands p set c h x.man.kind s) (piece_stands set x.first.kind h x.man.kind s)) other in
        elim (cases_Bool (same_kind x.first.kind Pawn)) [
          | inl pawn ↦ let is = cond-true (same_kind x.first.kind Pawn) (pawn_stands p set c h x.man.kind s) (piece_stands set x.first.kind h x.man.kind s) pawn in omega (arith, e, is, pawn-stands pawn)
          | inr piece ↦ let is = cond-false (same_kind x.first.kind Pawn) (pawn_stands p set c h x.man.kind s) (piece_stands set x.first.kind h x.man.kind s) piece in omega (arith, e, is, piece-stands piece)
        ]
  ]

  pub stands-most : stands p set c (at (array_of o) h) h (at (board_after o g) s) s ≤ 96 + spent p o g c h
  stands-most =
      let here : stands p set c (at (array_of o) h) h (at (board_after o g) s) s ≡ stands_as p set c x.first.kind h x.man.kind s =
      ap (λ (place : Option Man). stands p set c place h (at (board_after o g) s) s) x.began ∙ ap (λ (place : Option Man). stands p set c (Some x.first) h place s) x.there ∙ cond-true (same_colour c x.first.colour) (stands_as p set c x.first.kind h x.man.kind s) never x.own in
      omega (arith, here, stands-so)
