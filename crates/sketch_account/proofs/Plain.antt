-- With no zone, and figures of one kind on one square, none marked, the account is the balance of captures of the board.
use Rattle.std.proofs.Common.{◌≡◌, ℕ, zero, suc, ◌+◌, ◌-◌, ◌<◌, ◌≤◌, ◌==◌, inl, inr, Bool, true, false, cond, min, ◌&&◌, ◌||◌, not, List, [], ◌∷◌, ◌++◌, length, map, refl, ap, sym, ◌∙◌, arith}
use Rattle.std.proofs.lemmas.Bool.{cases_Bool, cases_eq, cond-false, eq-eqb, eqb-true, false_from_ne_true}
use Rattle.std.proofs.lemmas.List.{length-map}
use Rattle.std.proofs.lemmas.Option.{none-some}
use Rattle.std.proofs.lemmas.List.Elements.{filter_agree}
use Rattle.std.specs.Prelude.{Option, Some, None, replicate}
use Rattle.std.specs.List.{filter, flat_map, list_any, range_with_len}
use Rattle.board_base.specs.Board.{Places, array_of, at, home_of, initial_array, is_in, is_of, man, men_squares, rank, same_colour, same_kind}
use Rattle.board_base.specs.Legal.{is_officer, last_rank}
use Rattle.board_base.specs.declared.men.Colour.{Colour}
use Rattle.board_base.specs.declared.men.Colour.TheVariants.{White, Black}
use Rattle.board_base.specs.declared.men.Kind.{Kind}
use Rattle.board_base.specs.declared.men.Kind.TheVariants.{Pawn, Knight, Bishop, Rook, Queen, King}
use Rattle.board_base.specs.declared.men.Man.{Man}
use Rattle.board_base.proofs.KindsOfMen.{colour_is}
use Rattle.board_base.proofs.Without.{at-without}
use Rattle.men_account.proofs.FilesLeft.{array-inside}
use Rattle.cage_rules.specs.Regions.{beginner, region, region_from}
use Rattle.cage_rules.proofs.Beginners.{array-there}
use Rattle.cage_rules.proofs.Filling.{in-that, is_in-that}
use Rattle.men_fates.specs.Fates.{brings}
use Rattle.men_fates.specs.Ways.{fee, way_end}
use Rattle.assignment.specs.Assignments.{least_cost}
use Rattle.capture_prices.specs.Prices.{PriceList, take}
use Rattle.balance_rule.specs.Balance.{cost_table, gone_row, men_on, side_cost, stand_row}
use Rattle.balance_rule.specs.Costs.{brings_officer, earned, gone, gone_as, least, loss_cost, never, pawn_gone, pawn_stands, piece_stands, stands, stands_as, way_cost, ways_from}
use Rattle.balance_rule.proofs.Earned.{greatest-same}
use Rattle.figures.specs.Figures.{Sketch, figure_of, only_on, sketch_of}
use Rattle.sketch_grounds.specs.Account.{Counted, by_marks, figure_comes, figure_row, figure_table, figures_cost, is_figure_of, lost_row}
use Rattle.sketch_grounds.specs.Limits.{any, brings_in, brings_some, comes, comes_as, loss_in, lost, lost_as, may_come_by, pawn_comes, pawn_lost, piece_comes, piece_lost}
use Rattle.sketch_grounds.specs.Zones.{Room, room_past}
use Rattle.sketch_grounds.proofs.NoZones.{room-region}
use Rattle.sketch_account.proofs.RowsMade.{same-man}

-- lists
map-same : {A B : Type 0} (f g : A → B) → ((x : A) → f x ≡ g x) → (xs : List A) → map f xs ≡ map g xs
map-same f g same [] = refl
map-same {A} {B} f g same (x ∷ xs) = ap (λ (y : B). y ∷ map f xs) (same x) ∙ ap (λ (l : List B). g x ∷ l) (map-same f g same xs)

any-same : {A : Type 0} (f g : A → Bool) → ((x : A) → f x ≡ g x) → (xs : List A) → list_any f xs ≡ list_any g xs
any-same f g same [] = refl
any-same f g same (x ∷ xs) = ap (λ (b : Bool). b || list_any f xs) (same x) ∙ ap (λ (b : Bool). g x || b) (any-same f g same xs)

none-kept : (p : ℕ → Bool) (k n : ℕ) → ((i : ℕ) → k ≤ i → p i ≡ false) → filter p (range_with_len k n) ≡ []
none-kept p k zero none = refl
none-kept p k (suc n) none = ap (λ (b : Bool). cond b (k ∷ filter p (range_with_len (k + 1) n)) (filter p (range_with_len (k + 1) n))) (none k (omega arith)) ∙ none-kept p (k + 1) n (λ i low. none i (omega arith))

one-kept : (p : ℕ → Bool) (k n s : ℕ) → k ≤ s → s < k + n → p s ≡ true → ((i : ℕ) → (i ≡ s → ⊥) → p i ≡ false) → filter p (range_with_len k n) ≡ s ∷ []
one-kept p k zero s low high here others = absurd (omega arith)
one-kept p k (suc n) s low high here others = elim (cases_eq k s) [
  | inl same ↦
      ap (λ (b : Bool). cond b (k ∷ filter p (range_with_len (k + 1) n)) (filter p (range_with_len (k + 1) n))) (ap p same ∙ here)
      ∙ ap (λ (l : List ℕ). k ∷ l) (none-kept p (k + 1) n (λ i above. others i (λ e. omega (arith, e)))) ∙ ap (λ (x : ℕ). x ∷ []) same
  | inr other ↦
      ap (λ (b : Bool). cond b (k ∷ filter p (range_with_len (k + 1) n)) (filter p (range_with_len (k + 1) n))) (others k other)
      ∙ one-kept p (k + 1) n s (omega arith) (omega arith) here others
]

least-small : (xs : List ℕ) → least xs ≤ never
least-small [] = omega arith
least-small (x ∷ xs) = let rest : least xs ≤ never = least-small xs in omega arith

not-on : (s i : ℕ) → (i ≡ s → ⊥) → is_in (only_on s) i ≡ false
not-on s i other = false_from_ne_true (is_in (only_on s) i) (λ member. let here = in-that (λ t. t == s) i member in other (eqb-true i s here.1))

-- who stands on a square of the array begins there
pub begun-is : (o : List Bool) (h : ℕ) (m : Man) → at (array_of o) h ≡ Some m → beginner h ≡ Some m
unfolding array_of beginner
begun-is o h m there = elim (cases_Bool (is_in o h)) [
  | inl out ↦ absurd (none-some m (sym (ap (λ (b : Bool). cond b None (at initial_array h)) out) ∙ sym (at-without o initial_array h) ∙ there))
  | inr kept ↦ sym (array-there o h kept) ∙ there
]

home-inside : (o : List Bool) (h : ℕ) (m : Man) → at (array_of o) h ≡ Some m → h < 64
home-inside o h m there = array-inside o (λ place. elim place [ None ↦ false | Some n ↦ true ]) h refl (ap (λ (place : Option Man). elim place [ None ↦ false | Some n ↦ true ]) there)

last-inside : (c : Colour) (e : ℕ) → (rank e == last_rank c) ≡ true → e < 64
last-inside White e h = let is : rank e ≡ 7 = eqb-true _ _ h in omega arith
last-inside Black e h = let is : rank e ≡ 0 = eqb-true _ _ h in omega arith

module _ (o : List Bool) (p : PriceList) (set : List Bool) (c : Colour) where
  abbrev R : Room
  R = room_past set []

  abbrev first : Places
  first = array_of o

  -- pawns
  brings-same : (h : ℕ) (way : List ℕ) (k : Kind) (s : ℕ) → brings_in R c h way k s ≡ brings set c h way k s
  brings-same h way k s =
      let short : Bool = (way_end h way == s) && not (rank s == last_rank c) in
      let last : Bool = rank (way_end h way) == last_rank c in
      elim (cases_Bool last) [
        | inl there ↦ ap (λ (b : Bool). cond (same_kind Pawn k) short (last && is_officer k && b)) (room-region set (man c k) (way_end h way) s (last-inside c (way_end h way) there))
        | inr short_of ↦
            ap (λ (b : Bool). cond (same_kind Pawn k) short (b && is_officer k && R (man c k) (way_end h way) s)) short_of
            ∙ sym (ap (λ (b : Bool). cond (same_kind Pawn k) short (b && is_officer k && is_in (region_from set (man c k) (way_end h way)) s)) short_of)
      ]

  pawn-same : (h : ℕ) (k : Kind) (s : ℕ) → pawn_comes p set R c any h k s ≡ pawn_stands p set c h k s
  unfolding pawn_comes pawn_stands
  pawn-same h k s =
      ap (λ (l : List (List ℕ)). least (map (way_cost p c h) l)) (filter_agree (λ way. may_come_by any h k way && brings_in R c h way k s) (λ way. brings set c h way k s) (λ way. brings-same h way k s) (ways_from c set h))

  some-same : (h : ℕ) (way : List ℕ) (s : ℕ) → brings_some R c h way s ≡ brings_officer set c h way s
  some-same h way s = any-same (λ k. brings_in R c h way k s) (λ k. brings set c h way k s) (λ k. brings-same h way k s) (Knight ∷ Bishop ∷ Rook ∷ Queen ∷ [])

  loss-same : (h : ℕ) (way : List ℕ) → loss_in p set R c h way ≡ loss_cost p set c h way
  loss-same h way =
      ap (λ (n : ℕ). cond (rank (way_end h way) == last_rank c) (way_cost p c h way - n) (96 + fee (take p c) h way - earned p set c (way_end h way)))
      (greatest-same (brings_some R c h way) (brings_officer set c h way) (earned p set c) (λ s inside. some-same h way s))

  pawn-gone : (h : ℕ) → pawn_lost p set R c h ≡ pawn_gone p set c h
  unfolding pawn_lost pawn_gone
  pawn-gone h = ap least (map-same (loss_in p set R c h) (loss_cost p set c h) (loss-same h) (ways_from c set h))

  -- the others
  module _ (h : ℕ) (m : Man) (there : at (array_of o) h ≡ Some m) (own : m.colour ≡ c) where
    room-home : (s : ℕ) → R (man c m.kind) h s ≡ is_in (region set h) s
    room-home s =
        room-region set (man c m.kind) h s (home-inside o h m there)
        ∙ ap (λ (x : Option Man). is_in (region_from set x h) s) (sym (same-man m c m.kind own refl) ∙ sym (begun-is o h m there))

    piece-same : (k : Kind) (s : ℕ) → piece_comes R c any m.kind h k s ≡ piece_stands set m.kind h k s
    piece-same k s = ap (λ (b : Bool). cond (same_kind m.kind k && (same_kind m.kind King || b)) 96 never) (room-home s)

    stands-same : (k : Kind) (s : ℕ) → comes_as p set R c any m.kind h k s ≡ stands_as p set c m.kind h k s
    stands-same k s =
        ap (λ (n : ℕ). cond (is_in set h || is_in set s) (cond (h == s) 96 never) (cond (same_kind m.kind Pawn) n (piece_comes R c any m.kind h k s))) (pawn-same h k s)
        ∙ ap (λ (n : ℕ). cond (is_in set h || is_in set s) (cond (h == s) 96 never) (cond (same_kind m.kind Pawn) (pawn_stands p set c h k s) n)) (piece-same k s)

    gone-same : lost_as p set R c m.kind h ≡ gone_as p set c m.kind h
    gone-same =
        ap (λ (n : ℕ). cond (is_in set h) never (cond (same_kind m.kind Pawn) n (piece_lost p set R c m.kind h))) (pawn-gone h)
        ∙ ap (λ (n : ℕ). cond (is_in set h) never (cond (same_kind m.kind Pawn) (pawn_gone p set c h) (cond (same_kind m.kind King) never (96 - n)))) (greatest-same (R (man c m.kind) h) (is_in (region set h)) (earned p set c) (λ s inside. room-home s))

  comes-same : (h : ℕ) (place : Option Man) → at first h ≡ place → (m : Man) (s : ℕ) → comes p set R c any place h m.kind s ≡ stands p set c place h (Some m) s
  comes-same h None there m s = refl
  comes-same h (Some n) there m s = elim (cases_Bool (same_colour c n.colour)) [
    | inl own ↦ ap (λ (x : ℕ). cond (same_colour c n.colour) x never) (stands-same h n there (sym (colour_is c n.colour own)) m.kind s)
    | inr other ↦ cond-false (same_colour c n.colour) (comes_as p set R c any n.kind h m.kind s) never other ∙ sym (cond-false (same_colour c n.colour) (stands_as p set c n.kind h m.kind s) never other)
  ]

  lost-same : (h : ℕ) (place : Option Man) → at first h ≡ place → lost p set R c place h ≡ gone p set c place h
  lost-same h None there = refl
  lost-same h (Some n) there = elim (cases_Bool (same_colour c n.colour)) [
    | inl own ↦ ap (λ (x : ℕ). cond (same_colour c n.colour) x never) (gone-same h n there (sym (colour_is c n.colour own)))
    | inr other ↦ cond-false (same_colour c n.colour) (lost_as p set R c n.kind h) never other ∙ sym (cond-false (same_colour c n.colour) (gone_as p set c n.kind h) never other)
  ]

  lost-rows : lost_row p set R c first ≡ gone_row p set c first
  unfolding lost_row gone_row
  lost-rows = map-same (λ j. lost p set R c (at first (home_of c j)) (home_of c j)) (λ j. gone p set c (at first (home_of c j)) (home_of c j)) (λ j. lost-same (home_of c j) (at first (home_of c j)) refl) (range_with_len 0 16)

  -- no cost is above `never`
  two-small : (b : Bool) (x y : ℕ) → x ≤ never → y ≤ never → cond b x y ≤ never
  two-small true x y a d = a
  two-small false x y a d = d

  pawn-small : (h : ℕ) (k : Kind) (s : ℕ) → pawn_stands p set c h k s ≤ never
  unfolding pawn_stands
  pawn-small h k s = least-small (map (way_cost p c h) (filter (λ way. brings set c h way k s) (ways_from c set h)))

  stands-small : (h : ℕ) (place : Option Man) (m : Man) (s : ℕ) → stands p set c place h (Some m) s ≤ never
  stands-small h None m s = omega arith
  stands-small h (Some n) m s =
      two-small (same_colour c n.colour) (stands_as p set c n.kind h m.kind s) never
      (two-small (is_in set h || is_in set s) (cond (h == s) 96 never) (cond (same_kind n.kind Pawn) (pawn_stands p set c h m.kind s) (piece_stands set n.kind h m.kind s)) (two-small (h == s) 96 never (omega arith) (omega arith))
      (two-small (same_kind n.kind Pawn) (pawn_stands p set c h m.kind s) (piece_stands set n.kind h m.kind s) (pawn-small h m.kind s) (two-small (same_kind n.kind m.kind && (same_kind n.kind King || is_in (region set h) s)) 96 never (omega arith) (omega arith)))) (omega arith)

  -- the figure of a man
  abbrev fixed : ℕ → Man → Counted
  fixed s m = record { figure = record { colour = m.colour; kinds = m.kind ∷ []; squares = only_on s; marked = false; place = rank s }; limit = any }

  comes-one : (h s : ℕ) (m : Man) → s < 64 → m.colour ≡ c → figure_comes p set R (at first h) h (fixed s m) ≡ stands p set c (at first h) h (Some m) s
  unfolding figure_comes
  comes-one h s m inside own =
      let f : ℕ → ℕ = comes p set R m.colour any (at first h) h m.kind in
      let only : filter (is_in (only_on s)) (range_with_len 0 64) ≡ s ∷ [] = one-kept (is_in (only_on s)) 0 64 s (omega arith) (omega arith) (is_in-that (λ t. t == s) s inside ∙ eq-eqb s s refl) (λ i other. not-on s i other) in
      let here : comes p set R c any (at first h) h m.kind s ≡ stands p set c (at first h) h (Some m) s = comes-same h (at first h) refl m s in
      let low : stands p set c (at first h) h (Some m) s ≤ never = stands-small h (at first h) m s in
      let one : min (stands p set c (at first h) h (Some m) s) never ≡ stands p set c (at first h) h (Some m) s = omega arith in
      ap (λ (l : List ℕ). least (map f l ++ [])) only ∙ ap (λ (d : Colour). min (comes p set R d any (at first h) h m.kind s) never) own ∙ ap (λ (n : ℕ). min n never) here ∙ one

  row-same : (board : Places) (s : ℕ) (m : Man) → s < 64 → at board s ≡ Some m → m.colour ≡ c → figure_row p set R c first (fixed s m) ≡ stand_row p set c first board s
  unfolding figure_row stand_row
  row-same board s m inside there own =
      map-same (λ j. figure_comes p set R (at first (home_of c j)) (home_of c j) (fixed s m)) (λ j. stands p set c (at first (home_of c j)) (home_of c j) (at board s) s)
      (λ j. comes-one (home_of c j) s m inside own ∙ ap (λ (x : Option Man). stands p set c (at first (home_of c j)) (home_of c j) x s) (sym there)) (range_with_len 0 16)

  -- square by square
  abbrev figures_on : Places → List ℕ → Sketch
  figures_on board l = flat_map (λ s. figure_of s (at board s)) l

  one-row : (board : Places) (s : ℕ) (rest : Sketch) (place : Option Man) → s < 64 → at board s ≡ place → map (figure_row p set R c first) (filter (is_figure_of c) (by_marks (figure_of s place ++ rest))) ≡ cond (is_of c place) (stand_row p set c first board s ∷ []) [] ++ map (figure_row p set R c first) (filter (is_figure_of c) (by_marks rest))
  one-row board s rest None inside there = refl
  one-row board s rest (Some m) inside there =
      let later : List (List ℕ) = map (figure_row p set R c first) (filter (is_figure_of c) (by_marks rest)) in
      elim (cases_Bool (same_colour c m.colour)) [
        | inl own ↦
            ap (λ (b : Bool). map (figure_row p set R c first) (cond b (fixed s m ∷ filter (is_figure_of c) (by_marks rest)) (filter (is_figure_of c) (by_marks rest)))) own
            ∙ ap (λ (r : List ℕ). r ∷ later) (row-same board s m inside there (sym (colour_is c m.colour own)))
            ∙ ap (λ (b : Bool). cond b (stand_row p set c first board s ∷ []) [] ++ later) (sym own)
        | inr other ↦
            ap (λ (b : Bool). map (figure_row p set R c first) (cond b (fixed s m ∷ filter (is_figure_of c) (by_marks rest)) (filter (is_figure_of c) (by_marks rest)))) other
            ∙ ap (λ (b : Bool). cond b (stand_row p set c first board s ∷ []) [] ++ later) (sym other)
      ]

  one-stands : (board : Places) (s : ℕ) (l : List ℕ) (b : Bool) → is_of c (at board s) ≡ b → cond b (stand_row p set c first board s ∷ []) [] ++ map (stand_row p set c first board) (filter (λ s. is_of c (at board s)) l) ≡ map (stand_row p set c first board) (filter (λ s. is_of c (at board s)) (s ∷ l))
  one-stands board s l true e = ap (λ (b : Bool). map (stand_row p set c first board) (cond b (s ∷ filter (λ s. is_of c (at board s)) l) (filter (λ s. is_of c (at board s)) l))) (sym e)
  one-stands board s l false e = ap (λ (b : Bool). map (stand_row p set c first board) (cond b (s ∷ filter (λ s. is_of c (at board s)) l) (filter (λ s. is_of c (at board s)) l))) (sym e)

  rows-same : (board : Places) (k n : ℕ) → k + n ≤ 64 → map (figure_row p set R c first) (filter (is_figure_of c) (by_marks (figures_on board (range_with_len k n)))) ≡ map (stand_row p set c first board) (filter (λ s. is_of c (at board s)) (range_with_len k n))
  rows-same board k zero most = refl
  rows-same board k (suc n) most =
      one-row board k (figures_on board (range_with_len (k + 1) n)) (at board k) (omega arith) refl
      ∙ ap (λ (l : List (List ℕ)). cond (is_of c (at board k)) (stand_row p set c first board k ∷ []) [] ++ l) (rows-same board (k + 1) n (omega arith))
      ∙ one-stands board k (range_with_len (k + 1) n) (is_of c (at board k)) refl

  table-same : (board : Places) → figure_table p set R c first (by_marks (sketch_of board)) ≡ cost_table p set c first board
  unfolding figure_table cost_table sketch_of men_squares
  table-same board =
      let xs : List Counted = filter (is_figure_of c) (by_marks (figures_on board (range_with_len 0 64))) in
      let rows : map (figure_row p set R c first) xs ≡ map (stand_row p set c first board) (filter (λ s. is_of c (at board s)) (range_with_len 0 64)) = rows-same board 0 64 (omega arith) in
      let size : length xs ≡ men_on c board = sym (length-map xs (figure_row p set R c first)) ∙ ap (λ (l : List (List ℕ)). length l) rows ∙ length-map (filter (λ s. is_of c (at board s)) (range_with_len 0 64)) (stand_row p set c first board) in
      ap (λ (l : List (List ℕ)). l ++ replicate (men_on c first - length xs) (lost_row p set R c first)) rows
      ∙ ap (λ (n : ℕ). map (stand_row p set c first board) (filter (λ s. is_of c (at board s)) (range_with_len 0 64)) ++ replicate (men_on c first - n) (lost_row p set R c first)) size
      ∙ ap (λ (r : List ℕ). map (stand_row p set c first board) (filter (λ s. is_of c (at board s)) (range_with_len 0 64)) ++ replicate (men_on c first - men_on c board) r) lost-rows

  pub cost-same : (board : Places) → figures_cost o p set (room_past set []) (by_marks (sketch_of board)) c ≡ side_cost o board p set c
  cost-same board = ap (least_cost 16) (table-same board)
