-- Where a sketch fits a moment of a game, its figures cost no more than their true homes can.
use Rattle.std.proofs.Common.{◌≡◌, ℕ, ◌+◌, ◌<◌, ◌≤◌, ◌==◌, inl, inr, Bool, true, false, ◌||◌, not, List, [], ◌∷◌, map, refl, ap, sym, ◌∙◌, subst, arith}
use Rattle.std.proofs.lemmas.Bool.{and_parts, both_ways, eqb-true, false_from_ne_true, not-true, or_cases}
use Rattle.std.proofs.lemmas.List.{append-nil}
use Rattle.std.proofs.lemmas.Option.{same_Some}
use Rattle.std.specs.Prelude.{IsTrue, Option, Some}
use Rattle.std.specs.List.{Contains, filter, flat_map, list_all, list_any, range_with_len, sum_by}
use Rattle.general_lemmas.proofs.Differing.{Differ, Has, contains-has, has-contains, pairs-differ}
use Rattle.general_lemmas.proofs.Lists.{contains-filter, contains-first, contains-flat_map, contains-later, contains-map, filter-contains}
use Rattle.general_lemmas.proofs.Ranges.{contains-range}
use Rattle.board_base.specs.Board.{array_of, at, is_a, is_in, is_of, men_squares, opponent, same_colour, same_kind}
use Rattle.board_base.specs.Game.{IsGame}
use Rattle.board_base.specs.declared.men.Colour.{Colour}
use Rattle.board_base.specs.declared.men.Colour.TheVariants.{White, Black}
use Rattle.board_base.specs.declared.men.Kind.{Kind}
use Rattle.board_base.specs.declared.men.Kind.TheVariants.{King}
use Rattle.board_base.specs.declared.men.Man.{Man}
use Rattle.board_base.specs.declared.moves.Move.{Move}
use Rattle.board_base.proofs.KindsOfMen.{colour_is, kind_is, same_colour-self}
use Rattle.play_rules.specs.Reach.{IsWithin}
use Rattle.men_account.specs.Labels.{label_at, labels_after}
use Rattle.men_account.proofs.Captured.{same-side}
use Rattle.men_account.proofs.Labelled.{labels-colours}
use Rattle.men_account.proofs.PawnLaws.{man-of}
use Rattle.cage_rules.specs.Laws.{Walled}
use Rattle.cage_rules.proofs.Filling.{is_in-that}
use Rattle.cage_rules.proofs.Tested.{at_board}
use Rattle.balance_rule.proofs.Balance.{earns-later}
use Rattle.balance_rule.proofs.Closing.{costs-fit}
use Rattle.capture_prices.specs.Prices.{PriceList, are_prices, gate, take}
use Rattle.balance_rule.proofs.GateSums.{gates-sum}
use Rattle.balance_rule.proofs.Listed.{least-below}
use Rattle.balance_rule.proofs.LostMen.{gained}
use Rattle.balance_rule.proofs.OnBoard.{labelled-inside}
use Rattle.balance_rule.proofs.StandingMen.{Stays, kind-turned, spent}
use Rattle.balance_rule.proofs.TrueHomes.{fate, home-listed, listed-home, missing, squares-differ, standing}
use Rattle.past_sketches.specs.Figures.{Figure, Sketch, figure_at, fixed_squares, is_fixed_on, may_be}
use Rattle.past_sketches.specs.Fits.{Fits, IsManOf, is_plain}
use Rattle.past_account.specs.Account.{CostTooMuch, Counted, counted_by, figure_comes, figures_cost, is_figure_of}
use Rattle.past_account.specs.Limits.{Limit, allows, comes}
use Rattle.past_account.specs.Zones.{Room}
use Rattle.past_account.proofs.Comers.{comes-most}
use Rattle.past_account.proofs.Losses.{lost-most, unearned-most}
use Rattle.past_account.proofs.Placing.{Placed, any-figure, has-label, label-member, labelled-or-not, labels_of, placed-differ, placed-tells, placed-told, placed_by, rows-placed, some-differ, some-rows}
use Rattle.past_account.proofs.Rooms.{HasRoom}
use Rattle.past_account.proofs.Sides.{cost-listed, cost-other, figures-most, home_cost}

-- a kind that a figure may be is one of his
kind-listed : (kinds : List Kind) (k : Kind) → list_any (λ j. same_kind j k) kinds ≡ true → Contains kinds k
kind-listed [] k h = absurd (both_ways false refl h)
kind-listed (j ∷ kinds) k h = elim (or_cases (same_kind j k) (list_any (λ i. same_kind i k) kinds) h) [
  | inl here ↦ subst (λ (i : Kind). Contains (j ∷ kinds) i) (kind_is j k here) (contains-first j kinds)
  | inr later ↦ contains-later j kinds k (kind-listed kinds k later)
]

-- a figure costs no more than his man on his square
figure-below : (p : PriceList) (set : List Bool) (R : Room) (first : Option Man) (h s : ℕ) (k : Kind) (x : Counted) → s < 64 → may_be x.figure k ≡ true → is_in x.figure.squares s ≡ true → figure_comes p set R first h x ≤ comes p set R x.figure.colour x.limit first h k s
unfolding figure_comes
figure-below p set R first h s k x inside kind square =
    let squares : List ℕ = filter (is_in x.figure.squares) (range_with_len 0 64) in
    let here : Contains squares s = contains-filter (is_in x.figure.squares) (range_with_len 0 64) s (contains-range 0 64 s (omega arith) (omega arith)) square in
    least-below (flat_map (λ k. map (comes p set R x.figure.colour x.limit first h k) squares) x.figure.kinds) (comes p set R x.figure.colour x.limit first h k s)
    (contains-flat_map (λ k. map (comes p set R x.figure.colour x.limit first h k) squares) x.figure.kinds k (comes p set R x.figure.colour x.limit first h k s) (kind-listed x.figure.kinds k kind)
    (contains-map (comes p set R x.figure.colour x.limit first h k) squares s here))

-- a figure's man, of whom is true what is known of how he came
record Comer (o : List Bool) (g : List Move) (z : Placed) : Type 0 where
  square : ℕ
  man : Man
  is : IsManOf o g z.row.figure z.label square man
  within : allows z.row.limit (is_plain o g z.label man) ≡ true

module _ (o : List Bool) (g : List Move) (S : Sketch) (set : List Bool) (p : PriceList) (fits : Fits o g S) (walled : Walled o g set) (known : IsTrue (are_prices p)) (fixed : IsWithin set (fixed_squares S)) (R : Room) (room : HasRoom o g R) (limit : ℕ → Figure → Limit)
    (allowed : (i : ℕ) (f : Figure) (s : ℕ) (m : Man) → figure_at S i ≡ Some f → IsManOf o g f (fits.label i) s m → allows (limit i f) (is_plain o g (fits.label i) m) ≡ true) where
  abbrev game : IsGame o g
  game = walled.game

  abbrev all : List Placed
  all = placed_by fits.label limit S

  abbrev mine : Colour → List Placed
  mine c = filter (λ z. is_figure_of c z.row) all

  comer : (z : Placed) → Contains all z → Comer o g z
  comer z there =
      let x = placed-told fits.label limit S z there in
      let stands = fits.stand x.number x.figure x.there in
      subst (Comer o g) x.is (record { square = stands.0; man = stands.1; is = stands.2; within = allowed x.number x.figure stands.0 stands.1 x.there stands.2 })

  -- the side of a figure's man
  his-home : (z : Placed) (x : Comer o g z) → is_of z.row.figure.colour (at (array_of o) z.label) ≡ true
  his-home z x = ap (λ (c : Colour). is_of c (at (array_of o) z.label)) (sym x.is.colour) ∙ labels-colours o g game x.square z.label x.man x.is.label x.is.there

  began : (c : Colour) (h : ℕ) → Has (labels_of (mine c)) h → is_of c (at (array_of o) h) ≡ true
  began c h there =
      let found = label-member (mine c) h there in
      let parts = filter-contains (λ z. is_figure_of c z.row) all found.0 found.1 in
      let own : c ≡ found.0.row.figure.colour = colour_is c found.0.row.figure.colour parts.1 in
      ap (λ (k : ℕ). is_of c (at (array_of o) k)) (sym found.2) ∙ ap (λ (d : Colour). is_of d (at (array_of o) found.0.label)) own ∙ his-home found.0 (comer found.0 parts.0)

  mine-has : (c : Colour) (h : ℕ) → is_of c (at (array_of o) h) ≡ true → Has (labels_of all) h → Has (labels_of (mine c)) h
  mine-has c h home there =
      let found = label-member all h there in
      let z : Placed = found.0 in
      let own : c ≡ z.row.figure.colour = same-side c z.row.figure.colour (at (array_of o) z.label) (ap (λ (k : ℕ). is_of c (at (array_of o) k)) found.2 ∙ home) (his-home z (comer z found.1)) in
      let passes : is_figure_of c z.row ≡ true = ap (λ (d : Colour). same_colour c d) (sym own) ∙ same_colour-self c in
      subst (Has (labels_of (mine c))) found.2 (has-label (mine c) z (contains-filter (λ w. is_figure_of c w.row) all z found.1 passes))

  -- each square of the set is the home of a fixed figure
  set-labelled : (h : ℕ) → is_in set h ≡ true → Has (labels_of all) h
  unfolding fixed_squares
  set-labelled h member =
      let own : label_at (labels_after o g) h ≡ Some h = walled.labels g ([], sym (append-nil g)) h member in
      let inside : h < 64 = labelled-inside o g h h game own in
      let found = any-figure (is_fixed_on h) S (sym (is_in-that (λ s. list_any (is_fixed_on s) S) h inside) ∙ fixed h member) in
      let stands = fits.stand found.0 found.1 found.2 in
      let parts = and_parts (is_in found.1.squares h) (list_all (λ t. not (is_in found.1.squares t) || (t == h)) (range_with_len 0 64)) found.3 in
      let on : stands.0 < 64 = labelled-inside o g stands.0 (fits.label found.0) game stands.2.label in
      let same : stands.0 ≡ h = elim (or_cases (not (is_in found.1.squares stands.0)) (stands.0 == h) (at_board (λ t. not (is_in found.1.squares t) || (t == h)) stands.0 parts.1 on)) [
        | inl away ↦ absurd (both_ways (is_in found.1.squares stands.0) (not-true (is_in found.1.squares stands.0) away) stands.2.square)
        | inr here ↦ eqb-true stands.0 h here
      ] in
      let label : fits.label found.0 ≡ h = same_Some (fits.label found.0) h (sym stands.2.label ∙ ap (label_at (labels_after o g)) same ∙ own) in
      subst (Has (labels_of all)) label (placed-tells fits.label limit S found.0 found.1 found.2)

  king-labelled : (h : ℕ) → is_a King (at (array_of o) h) ≡ true → Has (labels_of all) h
  king-labelled h king =
      let x = fits.kings h king in
      subst (Has (labels_of all)) x.3 (placed-tells fits.label limit S x.0 x.1 x.2)

  differ : (c : Colour) → Differ (labels_of (mine c))
  differ c = some-differ (λ z. is_figure_of c z.row) all (placed-differ fits.label limit S fits.apart)

  -- the home of a figure
  figure-most : (c : Colour) (z : Placed) → Contains (mine c) z → home_cost p set R c (array_of o) (mine c) z.label + gained p o g c z.label ≤ 96 + spent p o g c z.label
  figure-most c z there =
      let parts = filter-contains (λ w. is_figure_of c w.row) all z there in
      let x = comer z parts.0 in
      let home : is_of c (at (array_of o) z.label) ≡ true = began c z.label (has-label (mine c) z there) in
      let first = man-of (is_of c) (at (array_of o) z.label) refl home in
      let his : Stays o g c z.label x.square = record { first = first.0; man = x.man; began = first.1; own = sym (ap (is_of c) first.1) ∙ home; there = x.is.there; label = x.is.label } in
      let most = comes-most o g set p R room c z.label x.square walled his z.row.limit x.within in
      let own : c ≡ z.row.figure.colour = colour_is c z.row.figure.colour parts.1 in
      let same = ap (λ (d : Colour). comes p set R d z.row.limit (at (array_of o) z.label) z.label x.man.kind x.square) own in
      let inside : x.square < 64 = labelled-inside o g x.square z.label game x.is.label in
      let below = figure-below p set R (at (array_of o) z.label) z.label x.square x.man.kind z.row inside x.is.kind x.is.square in
      omega (arith, cost-listed p set R c (array_of o) (mine c) z (differ c) there, below, same, most, earns-later o g (opponent c) (take p (opponent c)) x.square z.label game x.is.label)

  -- any other home
  other-most : (c : Colour) (h : ℕ) → is_of c (at (array_of o) h) ≡ true → (Has (labels_of (mine c)) h → ⊥) → home_cost p set R c (array_of o) (mine c) h + gained p o g c h ≤ 96 + spent p o g c h
  other-most c h home none =
      let first = man-of (is_of c) (at (array_of o) h) refl home in
      let own : same_colour c first.0.colour ≡ true = sym (ap (is_of c) first.1) ∙ home in
      let outside : is_in set h ≡ false = false_from_ne_true (is_in set h) (λ member. none (mine-has c h home (set-labelled h member))) in
      let king : same_kind first.0.kind King ≡ false = false_from_ne_true (same_kind first.0.kind King) (λ is. none (mine-has c h home (king-labelled h (ap (is_a King) first.1 ∙ kind-turned King first.0.kind ∙ is)))) in
      let here = cost-other p set R c (array_of o) (mine c) h none in
      elim (fate o g h game) [
        | standing s place label ↦ omega (arith, here, unearned-most o g set p R c known walled room h first.0 first.1 own outside king, earns-later o g (opponent c) (take p (opponent c)) s h game label)
        | missing away lost ↦ omega (arith, here, lost-most o g set p R c known walled room h first.0 first.1 own lost king)
      ]

  home-most : (c : Colour) (h : ℕ) → is_of c (at (array_of o) h) ≡ true → home_cost p set R c (array_of o) (mine c) h + gained p o g c h ≤ 96 + spent p o g c h
  home-most c h home = elim (labelled-or-not (mine c) h) [
    | inl there ↦
        let found = label-member (mine c) h there in
        subst (λ (k : ℕ). home_cost p set R c (array_of o) (mine c) k + gained p o g c k ≤ 96 + spent p o g c k) found.2 (figure-most c found.0 found.1)
    | inr none ↦ other-most c h home none
  ]

  side : (c : Colour) → figures_cost o p set R (counted_by limit S) c ≤ sum_by (home_cost p set R c (array_of o) (mine c)) (men_squares c (array_of o))
  side c = figures-most o set p R c (mine c) (differ c) (began c) (counted_by limit S) (some-rows (is_figure_of c) all ∙ ap (filter (is_figure_of c)) (rows-placed fits.label limit S))

  pub figures-fit : CostTooMuch o p set R (counted_by limit S) → ⊥
  figures-fit above =
      let homes : Colour → List ℕ = λ c. men_squares c (array_of o) in
      let fit = costs-fit o g 96 (take p) (gate p) homes (λ c. home_cost p set R c (array_of o) (mine c)) game (λ c. pairs-differ (homes c) (squares-differ c (array_of o))) (λ c h home. has-contains (homes c) h (home-listed o c h home))
      (λ c h there. home-most c h (listed-home o c h (contains-has (homes c) h there))) in
      omega (arith, fit, side White, side Black, gates-sum p, above)
