-- The men of a side began on different homes; those gone on the others. So each row of a table of costs, whatever its costs are, has a
-- home of its own, and the least cost is no more than what the men's fates cost.
use Rattle.std.proofs.Common.{◌≡◌, ℕ, zero, suc, ◌+◌, ◌-◌, ◌<◌, ◌≤◌, ◌⊎◌, inl, inr, Bool, true, false, not, List, [], ◌∷◌, ◌++◌, length, map, get_or, replicate, slice_index, refl, ap, sym, ◌∙◌, subst, arith}
use Rattle.std.proofs.lemmas.Bool.{both_ways, cases_Bool, cond-true, cond-false, not-true}
use Rattle.std.proofs.lemmas.List.{length-append, length-map, length-replicate, map-append}
use Rattle.std.proofs.lemmas.List.Elements.{Contains-get_or}
use Rattle.std.proofs.lemmas.List.Filters.{length-filter_both}
use Rattle.std.proofs.lemmas.List.FromFn.{get_or-map-range_with_len}
use Rattle.std.proofs.lemmas.List.Sums.{sum_by-append, sum_by-cons}
use Rattle.std.specs.Prelude.{Option, Some, None, is_none}
use Rattle.std.specs.List.{Contains, filter, find, range_with_len, sum_by}
use Rattle.general_lemmas.proofs.Differing.{Differ, Has, contains-has, differ-apart, differ-append, differ-filter, differ-map, differ-range, has-contains, has-either, has-filter, has-map, range-has}
use Rattle.general_lemmas.proofs.Lists.{contains-cases, contains-filter, contains-map, contains-none}
use Rattle.general_lemmas.proofs.Ranges.{contains-range}
use Rattle.general_lemmas.proofs.SumsAmong.{sum-among, sum-ones}
use Rattle.board_base.specs.Board.{Places, array_of, at, is_of, men_squares, home_of}
use Rattle.board_base.specs.Game.{IsGame, board_after}
use Rattle.board_base.specs.declared.men.Colour.{Colour}
use Rattle.board_base.specs.declared.men.Colour.TheVariants.{White, Black}
use Rattle.board_base.specs.declared.moves.Move.{Move}
use Rattle.board_base.proofs.KindsOfMen.{colour_is}
use Rattle.assignment.specs.Assignments.{IsInjection, assignment_cost, least_cost}
use Rattle.assignment.proofs.Injections.{least_cost-le}
use Rattle.men_account.specs.Labels.{Labels, label_at, labels_after}
use Rattle.men_account.proofs.FilesLeft.{array-inside}
use Rattle.men_account.proofs.Labelled.{labels-apart, labels-colours, labels-each_man}
use Rattle.men_account.proofs.Paired.{label-of}
use Rattle.men_account.proofs.PawnLaws.{man-of}
use Rattle.men_account.proofs.SideHomes.{home-black, home-white}
use Rattle.men_fates.specs.Deeds.{is_label}
use Rattle.men_fates.proofs.MoreDeeds.{label-is, label-told}
use Rattle.men_fates.proofs.Strikes.{side-of}
use Rattle.capture_prices.specs.Prices.{PriceList}
use Rattle.balance_rule.specs.Balance.{cost_table, gone_row, men_on, side_cost, stand_row}
use Rattle.balance_rule.specs.Costs.{gone, stands}
use Rattle.balance_rule.proofs.OnBoard.{labelled-inside}

-- the first member that passes a test
found-in : (p : ℕ → Bool) (xs : List ℕ) → ((s : ℕ) × (find p xs ≡ Some s) × (p s ≡ true)) ⊎ ((find p xs ≡ None) × ((s : ℕ) → Contains xs s → p s ≡ false))
found-in p [] = inr (refl, λ s there. absurd (contains-none s there))
found-in p (x ∷ xs) = elim (cases_Bool (p x)) [
  | inl passes ↦ inl (x, cond-true (p x) (Some x) (find p xs) passes, passes)
  | inr fails ↦
      let next = cond-false (p x) (Some x) (find p xs) fails in
      elim (found-in p xs) [
        | inl some ↦ inl (some.0, next ∙ some.1, some.2)
        | inr none ↦ inr (next ∙ none.0, λ s there. elim (contains-cases x xs s there) [ inl same ↦ ap p (sym same) ∙ fails | inr later ↦ none.1 s later ])
      ]
]

-- where the man stands who began on h, if he does
abbrev pub place_of : Labels → ℕ → Option ℕ
place_of labels h = find (λ s. is_label (label_at labels s) h) (range_with_len 0 64)

-- what became of the man of h costs this: that he stands on s, or that he is gone
abbrev pub cost_of : (ℕ → ℕ → ℕ) → (ℕ → ℕ) → ℕ → Option ℕ → ℕ
cost_of stand away h None = away h
cost_of stand away h (Some s) = stand h s

-- what it costs that the man of h stands on s, and that he is gone
abbrev pub stand_cost : PriceList → List Bool → Colour → Places → Places → ℕ → ℕ → ℕ
stand_cost p set c first board h s = stands p set c (at first h) h (at board s) s

abbrev pub gone_cost : PriceList → List Bool → Colour → Places → ℕ → ℕ
gone_cost p set c first h = gone p set c (at first h) h

abbrev pub fate_at : PriceList → List Bool → Colour → Places → Places → ℕ → Option ℕ → ℕ
fate_at p set c first board = cost_of (stand_cost p set c first board) (gone_cost p set c first)

abbrev pub fate_cost : PriceList → List Bool → Colour → Places → Places → Labels → ℕ → ℕ
fate_cost p set c first board labels h = fate_at p set c first board h (place_of labels h)

-- he stands, or is gone
pub data Fate (o : List Bool) (g : List Move) (h : ℕ) : Type 0 where
  standing : (s : ℕ) → place_of (labels_after o g) h ≡ Some s → label_at (labels_after o g) s ≡ Some h → Fate o g h
  missing : place_of (labels_after o g) h ≡ None → ((s : ℕ) → label_at (labels_after o g) s ≡ Some h → ⊥) → Fate o g h

pub fate : (o : List Bool) (g : List Move) (h : ℕ) → IsGame o g → Fate o g h
fate o g h game =
    let labels : Labels = labels_after o g in
    elim (found-in (λ s. is_label (label_at labels s) h) (range_with_len 0 64)) [
      | inl some ↦ standing some.0 some.1 (label-told (label_at labels some.0) h some.2)
      | inr none ↦ missing none.0 (λ s label.
          let inside : s < 64 = labelled-inside o g s h game label in
          both_ways _ (none.1 s (contains-range 0 64 s (omega arith) (omega arith))) (label-is (label_at labels s) h label))
    ]

pub placed : (o : List Bool) (g : List Move) (h s : ℕ) → IsGame o g → label_at (labels_after o g) s ≡ Some h → place_of (labels_after o g) h ≡ Some s
placed o g h s game label = elim (fate o g h game) [
  | standing t is there ↦ is ∙ ap Some (labels-apart o g game t s h there label)
  | missing is none ↦ absurd (none s label)
]

-- the place of a home among the homes of its side
abbrev pub column : Colour → ℕ → ℕ
column White h = h
column Black h = h - 48

pub column-is : (o : List Bool) (c : Colour) (h : ℕ) → is_of c (at (array_of o) h) ≡ true → (column c h < 16) × (home_of c (column c h) ≡ h)
column-is o White h here = (home-white o h here, refl)
column-is o Black h here =
    let above : 47 < h = (home-black o h here).0 in
    let below : h < 64 = (home-black o h here).1 in
    (omega arith, omega arith)

-- the label on a square
abbrev home_at : Option ℕ → ℕ
home_at None = 0
home_at (Some h) = h

-- different numbers that all stand in another list are no more
pub fewer : (xs ys : List ℕ) → Differ xs → ((z : ℕ) → Has xs z → Has ys z) → length xs ≤ length ys
fewer xs ys differ among =
    omega (arith, sum-among (λ _. 1) xs ys differ among, sum-ones (λ _. 1) xs (λ z h. refl), sum-ones (λ _. 1) ys (λ z h. refl))

-- the costs of rows one after another
pub cost-append : (a b : List (List ℕ)) (x y : List ℕ) → length a ≡ length x → assignment_cost (a ++ b) (x ++ y) ≡ assignment_cost a x + assignment_cost b y
cost-append [] b [] y size = omega arith
cost-append [] b (j ∷ x) y size = absurd (omega arith)
cost-append (row ∷ a) b [] y size = absurd (omega arith)
cost-append (row ∷ a) b (j ∷ x) y size = omega (arith, cost-append a b x y (omega arith))

-- a list of homes in the places of its side
pub within-side : (c : Colour) (hs : List ℕ) → ((h : ℕ) → Has hs h → column c h < 16) → (k d : ℕ) → k < length (map (column c) hs) → get_or (map (column c) hs) k d < 16
within-side c [] small k d inside = absurd (omega arith)
within-side c (h ∷ hs) small zero d inside = small h (inl refl)
within-side c (h ∷ hs) small (suc k) d inside = within-side c hs (λ z there. small z (inr there)) k d (omega arith)

-- rows that tell at each home what f tells
pub rows-sum : (c : Colour) (row : ℕ → List ℕ) (to f : ℕ → ℕ) (squares : List ℕ) → ((s : ℕ) → Has squares s → slice_index (row s) (column c (to s)) ≡ f (to s)) → assignment_cost (map row squares) (map (column c) (map to squares)) ≡ sum_by f (map to squares)
rows-sum c row to f [] tells = refl
rows-sum c row to f (s ∷ squares) tells = omega (arith, tells s (inl refl), rows-sum c row to f squares (λ t there. tells t (inr there)), sum_by-cons f (to s) (map to squares))

pub alike-sum : (c : Colour) (row : List ℕ) (f : ℕ → ℕ) (hs : List ℕ) → ((h : ℕ) → Has hs h → slice_index row (column c h) ≡ f h) → assignment_cost (replicate (length hs) row) (map (column c) hs) ≡ sum_by f hs
alike-sum c row f [] tells = refl
alike-sum c row f (h ∷ hs) tells = omega (arith, tells h (inl refl), alike-sum c row f hs (λ k there. tells k (inr there)), sum_by-cons f h hs)

-- a row of what f tells of the homes of a side
pub row-at : (o : List Bool) (c : Colour) (f : ℕ → ℕ) (h : ℕ) → is_of c (at (array_of o) h) ≡ true → slice_index (map (λ j. f (home_of c j)) (range_with_len 0 16)) (column c h) ≡ f h
row-at o c f h home =
    let is = column-is o c h home in
    get_or-map-range_with_len (λ j. f (home_of c j)) 0 16 (column c h) (column c h) 0 is.0 (omega arith) ∙ ap f is.1

pub twice : (b : Bool) → b ≡ not (not b)
twice true = refl
twice false = refl

pub on-square : (c : Colour) (board : Places) (s : ℕ) → Has (men_squares c board) s → (is_of c (at board s) ≡ true) × (s < 64)
unfolding men_squares
on-square c board s there =
    let kept = has-filter (λ t. is_of c (at board t)) (range_with_len 0 64) s there in
    (kept.0, (range-has 0 64 s kept.1).1)

-- each man stands on the board
pub men-inside : (c : Colour) (board : Places) (i : ℕ) → i < length (men_squares c board) → slice_index (men_squares c board) i < 64
men-inside c board i low = (on-square c board (slice_index (men_squares c board) i) (contains-has (men_squares c board) (slice_index (men_squares c board) i) (Contains-get_or (men_squares c board) i 0 low))).1

pub square-listed : (c : Colour) (board : Places) (s : ℕ) → s < 64 → is_of c (at board s) ≡ true → Has (men_squares c board) s
unfolding men_squares
square-listed c board s inside here =
    contains-has (filter (λ t. is_of c (at board t)) (range_with_len 0 64)) s (contains-filter (λ t. is_of c (at board t)) (range_with_len 0 64) s (contains-range 0 64 s (omega arith) (omega arith)) here)

pub squares-differ : (c : Colour) (board : Places) → Differ (men_squares c board)
unfolding men_squares
squares-differ c board = differ-filter (λ s. is_of c (at board s)) (range_with_len 0 64) (differ-range 0 64)

pub home-listed : (o : List Bool) (c : Colour) (h : ℕ) → is_of c (at (array_of o) h) ≡ true → Has (men_squares c (array_of o)) h
home-listed o c h home = square-listed c (array_of o) h (array-inside o (is_of c) h refl home) home

pub listed-home : (o : List Bool) (c : Colour) (h : ℕ) → Has (men_squares c (array_of o)) h → is_of c (at (array_of o) h) ≡ true
listed-home o c h there = (on-square c (array_of o) h there).0

module _ (o : List Bool) (g : List Move) (c : Colour) (stand : ℕ → ℕ → ℕ) (away : ℕ → ℕ) where
  abbrev pub cost : ℕ → ℕ
  cost h = cost_of stand away h (place_of (labels_after o g) h)

  abbrev his_home : ℕ → ℕ
  his_home s = home_at (label_at (labels_after o g) s)

  abbrev is_lost : ℕ → Bool
  is_lost h = is_none (place_of (labels_after o g) h)

  -- the homes of the men on the board, by their squares, those of the others, and both
  abbrev stood : List ℕ
  stood = map his_home (men_squares c (board_after o g))

  abbrev lost : List ℕ
  lost = filter is_lost (men_squares c (array_of o))

  abbrev assigned : List ℕ
  assigned = stood ++ lost

  -- those of the men on the board once more, by the homes
  abbrev kept : List ℕ
  kept = filter (λ h. not (is_lost h)) (men_squares c (array_of o))

  -- the man on s began at home
  record Stood (s : ℕ) : Type 0 where
    label : label_at (labels_after o g) s ≡ Some (his_home s)
    began : is_of c (at (array_of o) (his_home s)) ≡ true

  module _ (game : IsGame o g) where
    stood-on : (s : ℕ) → Has (men_squares c (board_after o g)) s → Stood s
    stood-on s there =
        let here = (on-square c (board_after o g) s there).0 in
        let man = man-of (is_of c) (at (board_after o g) s) refl here in
        let label = label-of (at (board_after o g) s) (label_at (labels_after o g) s) man.0 man.1 (labels-each_man o g game s) in
        let own : c ≡ man.0.colour = colour_is c man.0.colour (sym (ap (is_of c) man.1) ∙ here) in
        let home : his_home s ≡ label.0 = ap home_at label.1 in
        record {
          label = label.1 ∙ ap Some (sym home);
          began = ap (λ (h : ℕ). is_of c (at (array_of o) h)) home ∙ subst (λ (d : Colour). is_of d (at (array_of o) label.0) ≡ true) (sym own) (labels-colours o g game s label.0 man.0 label.1 man.1);
        }

    -- a home of those on the board
    stood-from : (h : ℕ) → Has stood h → (s : ℕ) × (label_at (labels_after o g) s ≡ Some h) × (is_of c (at (array_of o) h) ≡ true)
    stood-from h there =
        let found = has-map his_home (men_squares c (board_after o g)) h there in
        let x = stood-on found.0 found.1 in
        (found.0, x.label ∙ ap Some found.2, ap (λ (k : ℕ). is_of c (at (array_of o) k)) (sym found.2) ∙ x.began)

    lost-from : (h : ℕ) → Has lost h → (is_of c (at (array_of o) h) ≡ true) × (place_of (labels_after o g) h ≡ None) × ((s : ℕ) → label_at (labels_after o g) s ≡ Some h → ⊥)
    lost-from h there =
        let is = has-filter is_lost (men_squares c (array_of o)) h there in
        elim (fate o g h game) [
          | standing s place label ↦ absurd (both_ways (is_lost h) (ap is_none place) is.0)
          | missing none gone ↦ (listed-home o c h is.1, none, gone)
        ]

    assigned-home : (h : ℕ) → Has assigned h → is_of c (at (array_of o) h) ≡ true
    assigned-home h there = elim (has-either stood lost h there) [ inl here ↦ (stood-from h here).2 | inr gone ↦ (lost-from h gone).0 ]

    stood-differ : Differ stood
    stood-differ = differ-map his_home (men_squares c (board_after o g)) (λ s t a b same. labels-apart o g game s t (his_home t) ((stood-on s a).label ∙ ap Some same) (stood-on t b).label) (squares-differ c (board_after o g))

    assigned-differ : Differ assigned
    assigned-differ = differ-append stood lost stood-differ (differ-filter is_lost (men_squares c (array_of o)) (squares-differ c (array_of o))) (λ h here gone.
        let x = stood-from h here in
        (lost-from h gone).2 x.0 x.1)

    -- as many are gone as there are men less on the board
    stood-kept : (h : ℕ) → Has stood h → Has kept h
    stood-kept h there =
        let x = stood-from h there in
        let on : is_lost h ≡ false = ap is_none (placed o g h x.0 game x.1) in
        contains-has kept h (contains-filter (λ k. not (is_lost k)) (men_squares c (array_of o)) h (has-contains (men_squares c (array_of o)) h (home-listed o c h x.2)) (ap not on))

    kept-stood : (h : ℕ) → Has kept h → Has stood h
    kept-stood h there =
        let is = has-filter (λ k. not (is_lost k)) (men_squares c (array_of o)) h there in
        elim (fate o g h game) [
          | standing s place label ↦
              let here = side-of o g c s h game (listed-home o c h is.1) label in
              let square : Has (men_squares c (board_after o g)) s = square-listed c (board_after o g) s (labelled-inside o g s h game label) here in
              let home : his_home s ≡ h = ap home_at label in
              subst (Has stood) home (contains-has stood (his_home s) (contains-map his_home (men_squares c (board_after o g)) s (has-contains (men_squares c (board_after o g)) s square)))
          | missing none gone ↦ absurd (both_ways (is_lost h) (not-true (is_lost h) is.0) (ap is_none none))
        ]

    lost-count : length lost ≡ men_on c (array_of o) - men_on c (board_after o g)
    lost-count =
        let split : length kept + length lost ≡ men_on c (array_of o) = length-filter_both (λ k. not (is_lost k)) is_lost (λ h. twice (is_lost h)) (men_squares c (array_of o)) in
        let size : length stood ≡ men_on c (board_after o g) = length-map (men_squares c (board_after o g)) his_home in
        let few : length stood ≤ length kept = fewer stood kept stood-differ stood-kept in
        let many : length kept ≤ length stood = fewer kept stood (differ-filter (λ k. not (is_lost k)) (men_squares c (array_of o)) (squares-differ c (array_of o))) kept-stood in
        omega arith

    -- what each man costs on each home, and each home's man who is gone
    abbrev row : ℕ → List ℕ
    row s = map (λ j. stand (home_of c j) s) (range_with_len 0 16)

    abbrev last_row : List ℕ
    last_row = map (λ j. away (home_of c j)) (range_with_len 0 16)

    abbrev rows : List (List ℕ)
    rows = map row (men_squares c (board_after o g))

    injection : IsInjection 16 (length (rows ++ replicate (length lost) last_row)) (map (column c) assigned)
    injection =
        let differ : Differ (map (column c) assigned) = differ-map (column c) assigned (λ h k a b same. sym (column-is o c h (assigned-home h a)).1 ∙ ap (home_of c) same ∙ (column-is o c k (assigned-home k b)).1) assigned-differ in
        let many : length (rows ++ replicate (length lost) last_row) ≡ length (men_squares c (board_after o g)) + length lost = omega (arith, length-append rows (replicate (length lost) last_row), length-map (men_squares c (board_after o g)) row, length-replicate (length lost) last_row) in
        let size : length (map (column c) assigned) ≡ length (men_squares c (board_after o g)) + length lost = omega (arith, length-map assigned (column c), length-append stood lost, length-map (men_squares c (board_after o g)) his_home) in
        record {
          size = size ∙ sym many;
          within = within-side c assigned (λ h there. (column-is o c h (assigned-home h there)).0);
          apart = λ i k low high same. differ-apart (map (column c) assigned) differ i k 0 low high same;
        }

    stood-cost : assignment_cost rows (map (column c) stood) ≡ sum_by cost stood
    stood-cost = rows-sum c row his_home cost (men_squares c (board_after o g)) (λ s there.
        let x = stood-on s there in
        row-at o c (λ h. stand h s) (his_home s) x.began ∙ sym (ap (cost_of stand away (his_home s)) (placed o g (his_home s) s game x.label)))

    lost-cost : assignment_cost (replicate (length lost) last_row) (map (column c) lost) ≡ sum_by cost lost
    lost-cost = alike-sum c last_row cost lost (λ h there.
        let x = lost-from h there in
        row-at o c away h x.0 ∙ sym (ap (cost_of stand away h) x.1))

    all-cost : assignment_cost (rows ++ replicate (length lost) last_row) (map (column c) assigned) ≡ sum_by cost assigned
    all-cost =
        let size : length rows ≡ length (map (column c) stood) = omega (arith, length-map (men_squares c (board_after o g)) row, length-map stood (column c), length-map (men_squares c (board_after o g)) his_home) in
        ap (assignment_cost (rows ++ replicate (length lost) last_row)) (map-append (column c) stood lost)
        ∙ cost-append rows (replicate (length lost) last_row) (map (column c) stood) (map (column c) lost) size
        ∙ omega (arith, stood-cost, lost-cost, sum_by-append cost stood lost)

    -- the least cost is no more than what became of the men of the side
    pub table-most : least_cost 16 (rows ++ replicate (men_on c (array_of o) - men_on c (board_after o g)) last_row) ≤ sum_by cost (men_squares c (array_of o))
    table-most =
        let least = least_cost-le 16 (rows ++ replicate (length lost) last_row) (map (column c) assigned) injection in
        let same = ap (λ (n : ℕ). least_cost 16 (rows ++ replicate n last_row)) lost-count in
        let among = sum-among cost assigned (men_squares c (array_of o)) assigned-differ (λ h there. home-listed o c h (assigned-home h there)) in
        omega (arith, least, same, all-cost, among)

-- the least that a side costs is no more than what became of its men
pub least-most : (o : List Bool) (g : List Move) (p : PriceList) (set : List Bool) (c : Colour) → IsGame o g → side_cost o (board_after o g) p set c ≤ sum_by (fate_cost p set c (array_of o) (board_after o g) (labels_after o g)) (men_squares c (array_of o))
unfolding cost_table stand_row gone_row
least-most o g p set c game = table-most o g c (stand_cost p set c (array_of o) (board_after o g)) (gone_cost p set c (array_of o)) game
