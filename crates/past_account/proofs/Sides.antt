-- The figures of a side began on homes of their own, and its other men on the others. So each row of the table of figures has a home of its
-- own, and the least cost is no more than what the homes cost one by one.
use Rattle.std.proofs.Common.{◌≡◌, ℕ, ◌+◌, ◌-◌, ◌≤◌, ◌==◌, inl, inr, Bool, true, false, cond, not, List, [], ◌∷◌, ◌++◌, length, map, replicate, slice_index, refl, ap, sym, ◌∙◌, subst, arith}
use Rattle.std.proofs.lemmas.Bool.{both_ways, cond-true, cond-false, eq-eqb, eqb-true, ne_eqb, not-true, or_cases, or_left, or_right}
use Rattle.std.proofs.lemmas.List.{length-append, length-map, length-replicate, map-append}
use Rattle.std.proofs.lemmas.List.Filters.{length-filter_both}
use Rattle.std.proofs.lemmas.List.Sums.{sum_by-append, sum_by-cons}
use Rattle.std.specs.List.{Contains, filter, sum_by}
use Rattle.general_lemmas.proofs.Differing.{Differ, Has, contains-has, differ-apart, differ-append, differ-filter, differ-map, has-contains, has-either, has-filter}
use Rattle.general_lemmas.proofs.Lists.{contains-cases, contains-filter, contains-first, contains-later, contains-none}
use Rattle.general_lemmas.proofs.SumsAmong.{sum-among}
use Rattle.board_base.specs.Board.{Places, array_of, at, is_of, men_squares, home_of}
use Rattle.board_base.specs.declared.men.Colour.{Colour}
use Rattle.assignment.specs.Assignments.{IsInjection, assignment_cost, is_among, least_cost}
use Rattle.assignment.proofs.Injections.{least_cost-le}
use Rattle.capture_prices.specs.Prices.{PriceList}
use Rattle.balance_rule.specs.Balance.{men_on}
use Rattle.balance_rule.proofs.TrueHomes.{alike-sum, column, column-is, cost-append, fewer, home-listed, listed-home, row-at, squares-differ, twice, within-side}
use Rattle.past_account.specs.Account.{Counted, figure_comes, figure_row, figure_table, figures_cost, is_figure_of, lost_row}
use Rattle.past_account.specs.Limits.{lost as lost_cost}
use Rattle.past_account.specs.Zones.{Room}
use Rattle.past_account.proofs.Placing.{Placed, has-label, labels_of, rows_of}

-- what the home costs: the figure who began there, or the man who is said to be gone
abbrev pub home_cost : PriceList → List Bool → Room → Colour → Places → List Placed → ℕ → ℕ
home_cost p set R c first [] h = lost_cost p set R c (at first h) h
home_cost p set R c first (z ∷ Z) h = cond (z.label == h) (figure_comes p set R (at first h) h z.row) (home_cost p set R c first Z h)

pub cost-listed : (p : PriceList) (set : List Bool) (R : Room) (c : Colour) (first : Places) (Z : List Placed) (z : Placed) → Differ (labels_of Z) → Contains Z z → home_cost p set R c first Z z.label ≡ figure_comes p set R (at first z.label) z.label z.row
cost-listed p set R c first [] z d h = absurd (contains-none z h)
cost-listed p set R c first (y ∷ Z) z d h = elim (contains-cases y Z z h) [
  | inl same ↦
      cond-true (y.label == z.label) (figure_comes p set R (at first z.label) z.label y.row) (home_cost p set R c first Z z.label) (eq-eqb y.label z.label (ap (λ (w : Placed). w.label) same))
      ∙ ap (λ (w : Placed). figure_comes p set R (at first z.label) z.label w.row) same
  | inr later ↦
      cond-false (y.label == z.label) (figure_comes p set R (at first z.label) z.label y.row) (home_cost p set R c first Z z.label) (ne_eqb y.label z.label (λ e. d.0 (subst (Has (labels_of Z)) (sym e) (has-label Z z later))))
      ∙ cost-listed p set R c first Z z d.1 later
]

pub cost-other : (p : PriceList) (set : List Bool) (R : Room) (c : Colour) (first : Places) (Z : List Placed) (h : ℕ) → (Has (labels_of Z) h → ⊥) → home_cost p set R c first Z h ≡ lost_cost p set R c (at first h) h
cost-other p set R c first [] h none = refl
cost-other p set R c first (y ∷ Z) h none =
    cond-false (y.label == h) (figure_comes p set R (at first h) h y.row) (home_cost p set R c first Z h) (ne_eqb y.label h (λ e. none (inl e)))
    ∙ cost-other p set R c first Z h (λ there. none (inr there))

-- a number is among those of a list where it stands in it
has-among : (xs : List ℕ) (h : ℕ) → Has xs h → is_among h xs ≡ true
has-among [] h there = elim there [ ]
has-among (x ∷ xs) h there = elim there [
  | inl same ↦ or_left (x == h) (is_among h xs) (eq-eqb x h same)
  | inr later ↦ or_right (x == h) (is_among h xs) (has-among xs h later)
]

among-has : (xs : List ℕ) (h : ℕ) → is_among h xs ≡ true → Has xs h
among-has [] h there = absurd (both_ways false refl there)
among-has (x ∷ xs) h there = elim (or_cases (x == h) (is_among h xs) there) [
  | inl same ↦ inl (eqb-true x h same)
  | inr later ↦ inr (among-has xs h later)
]

-- rows that tell at each label what f tells
placed-sum : (c : Colour) (row : Counted → List ℕ) (f : ℕ → ℕ) (Z : List Placed) → ((z : Placed) → Contains Z z → slice_index (row z.row) (column c z.label) ≡ f z.label) → assignment_cost (map row (rows_of Z)) (map (column c) (labels_of Z)) ≡ sum_by f (labels_of Z)
placed-sum c row f [] tells = refl
placed-sum c row f (z ∷ Z) tells = omega (arith, tells z (contains-first z Z), placed-sum c row f Z (λ y there. tells y (contains-later z Z y there)), sum_by-cons f z.label (labels_of Z))

module _ (o : List Bool) (set : List Bool) (p : PriceList) (R : Room) (c : Colour) (Z : List Placed) (differ : Differ (labels_of Z)) (began : (h : ℕ) → Has (labels_of Z) h → is_of c (at (array_of o) h) ≡ true) where
  abbrev first : Places
  first = array_of o

  abbrev cost : ℕ → ℕ
  cost = home_cost p set R c first Z

  abbrev is_lost : ℕ → Bool
  is_lost h = not (is_among h (labels_of Z))

  -- the homes of the other men
  abbrev lost : List ℕ
  lost = filter is_lost (men_squares c first)

  -- those of the figures once more
  abbrev kept : List ℕ
  kept = filter (λ h. not (is_lost h)) (men_squares c first)

  abbrev assigned : List ℕ
  assigned = labels_of Z ++ lost

  lost-from : (h : ℕ) → Has lost h → (is_of c (at first h) ≡ true) × (Has (labels_of Z) h → ⊥)
  lost-from h there =
      let is = has-filter is_lost (men_squares c first) h there in
      (listed-home o c h is.1, λ label. both_ways (is_among h (labels_of Z)) (not-true (is_among h (labels_of Z)) is.0) (has-among (labels_of Z) h label))

  assigned-home : (h : ℕ) → Has assigned h → is_of c (at first h) ≡ true
  assigned-home h there = elim (has-either (labels_of Z) lost h there) [ inl here ↦ began h here | inr away ↦ (lost-from h away).0 ]

  assigned-differ : Differ assigned
  assigned-differ = differ-append (labels_of Z) lost differ (differ-filter is_lost (men_squares c first) (squares-differ c first)) (λ h here away. (lost-from h away).1 here)

  label-kept : (h : ℕ) → Has (labels_of Z) h → Has kept h
  label-kept h there =
      contains-has kept h (contains-filter (λ k. not (is_lost k)) (men_squares c first) h (has-contains (men_squares c first) h (home-listed o c h (began h there))) (sym (twice (is_among h (labels_of Z))) ∙ has-among (labels_of Z) h there))

  kept-label : (h : ℕ) → Has kept h → Has (labels_of Z) h
  kept-label h there =
      let is = has-filter (λ k. not (is_lost k)) (men_squares c first) h there in
      among-has (labels_of Z) h (twice (is_among h (labels_of Z)) ∙ is.0)

  lost-count : length lost ≡ men_on c first - length (labels_of Z)
  lost-count =
      let split : length kept + length lost ≡ men_on c first = length-filter_both (λ k. not (is_lost k)) is_lost (λ h. twice (is_lost h)) (men_squares c first) in
      let few : length (labels_of Z) ≤ length kept = fewer (labels_of Z) kept differ label-kept in
      let many : length kept ≤ length (labels_of Z) = fewer kept (labels_of Z) (differ-filter (λ k. not (is_lost k)) (men_squares c first) (squares-differ c first)) kept-label in
      omega arith

  abbrev rows : List (List ℕ)
  rows = map (figure_row p set R c first) (rows_of Z)

  abbrev last_row : List ℕ
  last_row = lost_row p set R c first

  rows-many : length rows ≡ length (labels_of Z)
  rows-many = omega (arith, length-map (rows_of Z) (figure_row p set R c first), length-map Z (λ z. z.row), length-map Z (λ z. z.label))

  injection : IsInjection 16 (length (rows ++ replicate (length lost) last_row)) (map (column c) assigned)
  injection =
      let apart : Differ (map (column c) assigned) = differ-map (column c) assigned (λ h k a b same. sym (column-is o c h (assigned-home h a)).1 ∙ ap (home_of c) same ∙ (column-is o c k (assigned-home k b)).1) assigned-differ in
      let many : length (rows ++ replicate (length lost) last_row) ≡ length (labels_of Z) + length lost = omega (arith, length-append rows (replicate (length lost) last_row), rows-many, length-replicate (length lost) last_row) in
      let size : length (map (column c) assigned) ≡ length (labels_of Z) + length lost = omega (arith, length-map assigned (column c), length-append (labels_of Z) lost) in
      record {
        size = size ∙ sym many;
        within = within-side c assigned (λ h there. (column-is o c h (assigned-home h there)).0);
        apart = λ i k low high same. differ-apart (map (column c) assigned) apart i k 0 low high same;
      }

  figures-sum : assignment_cost rows (map (column c) (labels_of Z)) ≡ sum_by cost (labels_of Z)
  unfolding figure_row
  figures-sum = placed-sum c (figure_row p set R c first) cost Z (λ z there.
      row-at o c (λ h. figure_comes p set R (at first h) h z.row) z.label (began z.label (has-label Z z there))
      ∙ sym (cost-listed p set R c first Z z differ there))

  lost-sum : assignment_cost (replicate (length lost) last_row) (map (column c) lost) ≡ sum_by cost lost
  unfolding lost_row
  lost-sum = alike-sum c last_row cost lost (λ h there.
      let x = lost-from h there in
      row-at o c (λ k. lost_cost p set R c (at first k) k) h x.0 ∙ sym (cost-other p set R c first Z h x.1))

  all-sum : assignment_cost (rows ++ replicate (length lost) last_row) (map (column c) assigned) ≡ sum_by cost assigned
  all-sum =
      let size : length rows ≡ length (map (column c) (labels_of Z)) = omega (arith, rows-many, length-map (labels_of Z) (column c)) in
      ap (assignment_cost (rows ++ replicate (length lost) last_row)) (map-append (column c) (labels_of Z) lost)
      ∙ cost-append rows (replicate (length lost) last_row) (map (column c) (labels_of Z)) (map (column c) lost) size
      ∙ omega (arith, figures-sum, lost-sum, sum_by-append cost (labels_of Z) lost)

  side-most : least_cost 16 (rows ++ replicate (men_on c first - length (labels_of Z)) last_row) ≤ sum_by cost (men_squares c first)
  side-most =
      let least = least_cost-le 16 (rows ++ replicate (length lost) last_row) (map (column c) assigned) injection in
      let same = ap (λ (n : ℕ). least_cost 16 (rows ++ replicate n last_row)) lost-count in
      let among = sum-among cost assigned (men_squares c first) assigned-differ (λ h there. home-listed o c h (assigned-home h there)) in
      omega (arith, least, same, all-sum, among)

  -- the table of all figures, of whom these are the side's
  pub figures-most : (xs : List Counted) → rows_of Z ≡ filter (is_figure_of c) xs → figures_cost o p set R xs c ≤ sum_by cost (men_squares c first)
  unfolding figure_table
  figures-most xs e =
      let same : figure_table p set R c first xs ≡ rows ++ replicate (men_on c first - length (rows_of Z)) last_row = ap (λ (l : List Counted). map (figure_row p set R c first) l ++ replicate (men_on c first - length l) last_row) (sym e) in
      let size : length (rows_of Z) ≡ length (labels_of Z) = omega (arith, length-map Z (λ z. z.row), length-map Z (λ z. z.label)) in
      let whole : figures_cost o p set R xs c ≡ least_cost 16 (rows ++ replicate (men_on c first - length (labels_of Z)) last_row) = ap (least_cost 16) (same ∙ ap (λ (n : ℕ). rows ++ replicate (men_on c first - n) last_row) size) in
      omega (arith, whole, side-most)
