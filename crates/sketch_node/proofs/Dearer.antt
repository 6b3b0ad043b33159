-- The less is left open of how a figure's man came, the more his side costs.
use Rattle.std.proofs.Common.{◌≡◌, ℕ, zero, suc, ◌+◌, ◌-◌, ◌≤◌, inl, inr, Bool, true, false, cond, ◌&&◌, ◌||◌, List, [], ◌∷◌, ◌++◌, length, map, min, replicate, slice_index, refl, ap, sym, ◌∙◌, subst, arith}
use Rattle.std.proofs.lemmas.Bool.{and_from, and_parts, both_ways}
use Rattle.std.proofs.lemmas.List.Elements.{length_all_zip}
use Rattle.std.specs.Prelude.{Option, Some, None}
use Rattle.std.specs.List.{AllZip, filter, flat_map, fold, range_with_len}
use Rattle.board_base.specs.Board.{Places, array_of, at, home_of, is_in, man, same_colour, same_kind}
use Rattle.board_base.specs.declared.men.Colour.{Colour}
use Rattle.board_base.specs.declared.men.Kind.{Kind}
use Rattle.board_base.specs.declared.men.Kind.TheVariants.{Pawn, King}
use Rattle.board_base.specs.declared.men.Man.{Man}
use Rattle.assignment.specs.Assignments.{assignment_cost, injections, least_cost, least_of}
use Rattle.capture_prices.specs.Prices.{PriceList}
use Rattle.sketch_account.specs.Ways.{is_straight}
use Rattle.sketch_account.specs.Balance.{men_on}
use Rattle.sketch_account.specs.Costs.{least, never, way_cost, ways_from}
use Rattle.sketch_account.specs.Account.{Counted, figure_comes, figure_row, figure_table, figures_cost, is_figure_of, lost_row}
use Rattle.sketch_account.specs.Limits.{Limit, allows, brings_in, comes, comes_as, may_come_by, pawn_comes, piece_comes}
use Rattle.sketch_account.specs.Zones.{Room}

cond-le : (b : Bool) (m n r s : ℕ) → m ≤ n → r ≤ s → cond b m r ≤ cond b n s
cond-le true m n r s h k = h
cond-le false m n r s h k = k

-- fewer ways cost no less
one-less : (a b : Bool) (f : List ℕ → ℕ) (x : List ℕ) (ys zs : List (List ℕ)) → (b ≡ true → a ≡ true) → least (map f ys) ≤ least (map f zs) → least (map f (cond a (x ∷ ys) ys)) ≤ least (map f (cond b (x ∷ zs) zs))
one-less true true f x ys zs more le = omega arith
one-less true false f x ys zs more le = omega arith
one-less false true f x ys zs more le = absurd (both_ways false refl (more refl))
one-less false false f x ys zs more le = le

fewer-le : (f : List ℕ → ℕ) (p q : List ℕ → Bool) (xs : List (List ℕ)) → ((x : List ℕ) → q x ≡ true → p x ≡ true) → least (map f (filter p xs)) ≤ least (map f (filter q xs))
fewer-le f p q [] more = omega arith
fewer-le f p q (x ∷ xs) more = one-less (p x) (q x) f x (filter p xs) (filter q xs) (more x) (fewer-le f p q xs more)

map-append-le : (f g : ℕ → ℕ) (xs us vs : List ℕ) → ((x : ℕ) → f x ≤ g x) → least us ≤ least vs → least (map f xs ++ us) ≤ least (map g xs ++ vs)
map-append-le f g [] us vs each le = le
map-append-le f g (x ∷ xs) us vs each le = omega (arith, each x, map-append-le f g xs us vs each le)

each-le : (F G : Kind → ℕ → ℕ) (kinds : List Kind) (squares : List ℕ) → ((k : Kind) (s : ℕ) → F k s ≤ G k s) → least (flat_map (λ k. map (F k) squares) kinds) ≤ least (flat_map (λ k. map (G k) squares) kinds)
each-le F G [] squares each = omega arith
each-le F G (k ∷ kinds) squares each = map-append-le (F k) (G k) squares (flat_map (λ k. map (F k) squares) kinds) (flat_map (λ k. map (G k) squares) kinds) (each k) (each-le F G kinds squares each)

-- the second limit allows no more ways of a pawn than the first, and of another man the same
pub record IsTighter (l m : Limit) : Type 0 where
  pub ways : (b : Bool) → allows m b ≡ true → allows l b ≡ true
  pub plain : allows l true ≡ allows m true

module _ (p : PriceList) (set : List Bool) (R : Room) (c : Colour) (l m : Limit) (tighter : IsTighter l m) where
  pawn-le : (h : ℕ) (k : Kind) (s : ℕ) → pawn_comes p set R c l h k s ≤ pawn_comes p set R c m h k s
  unfolding pawn_comes
  pawn-le h k s =
      fewer-le (way_cost p c h) (λ way. may_come_by l h k way && brings_in R c h way k s) (λ way. may_come_by m h k way && brings_in R c h way k s) (ways_from c set h)
      (λ way both. let parts = and_parts (may_come_by m h k way) (brings_in R c h way k s) both in and_from _ _ (tighter.ways (same_kind Pawn k && is_straight h way) parts.0) parts.1)

  piece-same : (first : Kind) (h : ℕ) (k : Kind) (s : ℕ) → piece_comes R c l first h k s ≡ piece_comes R c m first h k s
  piece-same first h k s = ap (λ (b : Bool). cond (b && same_kind first k && (same_kind first King || R (man c first) h s)) 96 never) tighter.plain

  as-le : (first : Kind) (h : ℕ) (k : Kind) (s : ℕ) → comes_as p set R c l first h k s ≤ comes_as p set R c m first h k s
  as-le first h k s =
      cond-le (is_in set h || is_in set s) _ _ _ _ (omega arith) (cond-le (same_kind first Pawn) _ _ _ _ (pawn-le h k s) (omega (arith, piece-same first h k s)))

  comes-le : (first : Option Man) (h : ℕ) (k : Kind) (s : ℕ) → comes p set R c l first h k s ≤ comes p set R c m first h k s
  comes-le None h k s = omega arith
  comes-le (Some first) h k s = cond-le (same_colour c first.colour) _ _ _ _ (as-le first.kind h k s) (omega arith)

-- The first is a figure as the second, of whom no less is known.
pub record IsLooser (x y : Counted) : Type 0 where
  pub colour : x.figure.colour ≡ y.figure.colour
  pub kinds : x.figure.kinds ≡ y.figure.kinds
  pub squares : x.figure.squares ≡ y.figure.squares
  pub limit : IsTighter x.limit y.limit

figure-le : (p : PriceList) (set : List Bool) (R : Room) (first : Option Man) (h : ℕ) (x y : Counted) → IsLooser x y → figure_comes p set R first h x ≤ figure_comes p set R first h y
unfolding figure_comes
figure-le p set R first h x y looser =
    let told : Colour → List Kind → List Bool → ℕ = λ c kinds squares. least (flat_map (λ k. map (comes p set R c y.limit first h k) (filter (is_in squares) (range_with_len 0 64))) kinds) in
    let same : told x.figure.colour x.figure.kinds x.figure.squares ≡ told y.figure.colour y.figure.kinds y.figure.squares = λ i. told (looser.colour i) (looser.kinds i) (looser.squares i) in
    let less = each-le (comes p set R x.figure.colour x.limit first h) (comes p set R x.figure.colour y.limit first h) x.figure.kinds (filter (is_in x.figure.squares) (range_with_len 0 64)) (comes-le p set R x.figure.colour x.limit y.limit looser.limit first h) in
    subst (λ (n : ℕ). figure_comes p set R first h x ≤ n) same less

-- rows, and tables
abbrev pub IsRowBelow : List ℕ → List ℕ → Type 0
IsRowBelow a b = (j : ℕ) → slice_index a j ≤ slice_index b j

map-below : (f g : ℕ → ℕ) (xs : List ℕ) → ((x : ℕ) → f x ≤ g x) → IsRowBelow (map f xs) (map g xs)
map-below f g [] each j = omega arith
map-below f g (x ∷ xs) each zero = each x
map-below f g (x ∷ xs) each (suc j) = map-below f g xs each j

row-below : (p : PriceList) (set : List Bool) (R : Room) (c : Colour) (first : Places) (x y : Counted) → IsLooser x y → IsRowBelow (figure_row p set R c first x) (figure_row p set R c first y)
unfolding figure_row
row-below p set R c first x y looser = map-below (λ j. figure_comes p set R (at first (home_of c j)) (home_of c j) x) (λ j. figure_comes p set R (at first (home_of c j)) (home_of c j) y) (range_with_len 0 16) (λ j. figure-le p set R (at first (home_of c j)) (home_of c j) x y looser)

one-row : (a b : Bool) (row : Counted → List ℕ) (x y : Counted) (xs ys : List Counted) → a ≡ b → IsRowBelow (row x) (row y) → AllZip IsRowBelow (map row xs) (map row ys) → AllZip IsRowBelow (map row (cond a (x ∷ xs) xs)) (map row (cond b (y ∷ ys) ys))
one-row true true row x y xs ys e here rest = (here, rest)
one-row true false row x y xs ys e here rest = cc
one-row false true row x y xs ys e here rest = cc
one-row false false row x y xs ys e here rest = rest

rows-below : (row : Counted → List ℕ) (c : Colour) (xs ys : List Counted) → ((x y : Counted) → IsLooser x y → IsRowBelow (row x) (row y)) → AllZip IsLooser xs ys → AllZip IsRowBelow (map row (filter (is_figure_of c) xs)) (map row (filter (is_figure_of c) ys))
rows-below row c [] [] each zip = tt
rows-below row c [] (y ∷ ys) each zip = absurd zip
rows-below row c (x ∷ xs) [] each zip = absurd zip
rows-below row c (x ∷ xs) (y ∷ ys) each zip = one-row (is_figure_of c x) (is_figure_of c y) row x y (filter (is_figure_of c) xs) (filter (is_figure_of c) ys) (ap (same_colour c) zip.0.colour) (each x y zip.0) (rows-below row c xs ys each zip.1)

same-rows : (n : ℕ) (row : List ℕ) → AllZip IsRowBelow (replicate n row) (replicate n row)
same-rows zero row = tt
same-rows (suc n) row = (λ j. omega arith, same-rows n row)

append-below : (A B C D : List (List ℕ)) → AllZip IsRowBelow A B → AllZip IsRowBelow C D → AllZip IsRowBelow (A ++ C) (B ++ D)
append-below [] [] C D zip rest = rest
append-below [] (b ∷ B) C D zip rest = absurd zip
append-below (a ∷ A) [] C D zip rest = absurd zip
append-below (a ∷ A) (b ∷ B) C D zip rest = (zip.0, append-below A B C D zip.1 rest)

columns-le : (A B : List (List ℕ)) (columns : List ℕ) → AllZip IsRowBelow A B → assignment_cost A columns ≤ assignment_cost B columns
columns-le [] [] columns zip = omega arith
columns-le [] (b ∷ B) columns zip = absurd zip
columns-le (a ∷ A) [] columns zip = absurd zip
columns-le (a ∷ A) (b ∷ B) [] zip = omega arith
columns-le (a ∷ A) (b ∷ B) (j ∷ columns) zip = omega (arith, zip.0 j, columns-le A B columns zip.1)

fold-le : (f g : List ℕ → ℕ) (m n : ℕ) (xs : List (List ℕ)) → ((x : List ℕ) → f x ≤ g x) → m ≤ n → fold min m (map f xs) ≤ fold min n (map g xs)
fold-le f g m n [] each le = le
fold-le f g m n (x ∷ xs) each le = fold-le f g (min m (f x)) (min n (g x)) xs each (omega (arith, each x))

least_of-le : (f g : List ℕ → ℕ) (xs : List (List ℕ)) → ((x : List ℕ) → f x ≤ g x) → least_of (map f xs) ≤ least_of (map g xs)
least_of-le f g [] each = omega arith
least_of-le f g (x ∷ xs) each = fold-le f g (f x) (g x) xs each (each x)

table-le : (A B : List (List ℕ)) → AllZip IsRowBelow A B → least_cost 16 A ≤ least_cost 16 B
unfolding least_cost
table-le A B zip =
    subst (λ (n : ℕ). least_of (map (assignment_cost A) (injections 16 (length A))) ≤ least_of (map (assignment_cost B) (injections 16 n))) (length_all_zip IsRowBelow A B zip)
    (least_of-le (assignment_cost A) (assignment_cost B) (injections 16 (length A)) (λ columns. columns-le A B columns zip))

looser-many : (c : Colour) (xs ys : List Counted) → AllZip IsLooser xs ys → length (filter (is_figure_of c) xs) ≡ length (filter (is_figure_of c) ys)
looser-many c [] [] zip = refl
looser-many c [] (y ∷ ys) zip = absurd zip
looser-many c (x ∷ xs) [] zip = absurd zip
looser-many c (x ∷ xs) (y ∷ ys) zip = one-many (is_figure_of c x) (is_figure_of c y) x y (filter (is_figure_of c) xs) (filter (is_figure_of c) ys) (ap (same_colour c) zip.0.colour) (looser-many c xs ys zip.1)
  where
    one-many : (a b : Bool) (x y : Counted) (xs ys : List Counted) → a ≡ b → length xs ≡ length ys → length (cond a (x ∷ xs) xs) ≡ length (cond b (y ∷ ys) ys)
    one-many true true x y xs ys e same = ap suc same
    one-many true false x y xs ys e same = cc
    one-many false true x y xs ys e same = cc
    one-many false false x y xs ys e same = same

pub side-le : (o : List Bool) (p : PriceList) (set : List Bool) (R : Room) (c : Colour) (xs ys : List Counted) → AllZip IsLooser xs ys → figures_cost o p set R xs c ≤ figures_cost o p set R ys c
unfolding figure_table
side-le o p set R c xs ys zip =
    let first : Places = array_of o in
    let row : Counted → List ℕ = figure_row p set R c first in
    let lost : List ℕ = lost_row p set R c first in
    let many : men_on c first - length (filter (is_figure_of c) xs) ≡ men_on c first - length (filter (is_figure_of c) ys) = ap (λ (n : ℕ). men_on c first - n) (looser-many c xs ys zip) in
    table-le (figure_table p set R c first xs) (figure_table p set R c first ys)
    (append-below (map row (filter (is_figure_of c) xs)) (map row (filter (is_figure_of c) ys)) (replicate (men_on c first - length (filter (is_figure_of c) xs)) lost) (replicate (men_on c first - length (filter (is_figure_of c) ys)) lost)
    (rows-below row c xs ys (row-below p set R c first) zip)
    (subst (λ (n : ℕ). AllZip IsRowBelow (replicate (men_on c first - length (filter (is_figure_of c) xs)) lost) (replicate n lost)) many (same-rows (men_on c first - length (filter (is_figure_of c) xs)) lost)))
