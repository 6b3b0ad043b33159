-- The first least assignment, among those that end as given.
use Rattle.std.proofs.Common.{◌≡◌, ℕ, zero, suc, ◌+◌, ◌-◌, ◌<◌, ◌≤◌, ◌==◌, Bool, true, false, cond, not, List, [], ◌∷◌, ◌++◌, length, map, drop, slice_index, slice_index_or, slice_set, pos, ◌+ℤ◌, ◌≤ℤ◌, inl, inr, refl, sym, ap, ◌∙◌, subst, arith, append-nil, take, eq-eqb, get_or-set_other, get_or-set_same, length-set}
use Rattle.std.proofs.Math.Seq.{drop-cons}
use Rattle.std.proofs.lemmas.Bool.{both_ways, cases_eq, cond-false, cond-true, eqb-true, ne_eqb, not-true}
use Rattle.std.proofs.lemmas.Grind.{flat_map-append}
use Rattle.std.proofs.lemmas.Int.{ints}
use Rattle.std.proofs.lemmas.List.{append_assoc, get_or-append-add, get_or-take, get_or_append_left, length-append, length-take-le}
use Rattle.std.proofs.lemmas.List.Concat.{flat_map_single}
use Rattle.std.specs.Prelude.{ℤ, ◌<ℤ◌, IsSome, Option, Some, None}
use Rattle.std.specs.List.{All, Contains, filter, find, flat_map, range_with_len}
use Rattle.general_lemmas.proofs.Lists.{contains-cases, contains-filter, contains-flat_map, contains-map, contains-none, filter-contains, flat_map-contains}
use Rattle.general_lemmas.proofs.Ranges.{contains-range, range-contains}
use Rattle.arrayvec.specs.ArrayVec.{ArrayVec}
use Rattle.assignment.specs.Tables.{cost_at}
use Rattle.assignment.specs.Assignments.{IsBounded, IsInjection, assignment_cost, injections, is_among, least_cost, total}
use Rattle.assignment.proofs.Duality.{sums-along, total-le_along, total-set}
use Rattle.assignment.proofs.Injections.{IsInjection-range, injections-complete, injections-sound, least_cost-is, least_cost-le, other_column}
use Rattle.first_pairing.specs.Endings.{CostAtLeast, injections_ending, items_found}
use Rattle.first_pairing.specs.FirstPairings.{IsFirstPairing}
use Rattle.first_pairing.proofs.Finding.{found-first, found-later, found-stands, none-found, nothing-found}

flat_map-joined : {A B C : Type 0} (g : B → List C) (f : A → List B) (xs : List A) → flat_map g (flat_map f xs) ≡ flat_map (λ x. flat_map g (f x)) xs
flat_map-joined {A} {B} {C} g f [] = refl
flat_map-joined {A} {B} {C} g f (x ∷ xs) = flat_map-append g (f x) (flat_map f xs) ∙ ap (λ (l : List C). flat_map g (f x) ++ l) (flat_map-joined g f xs)

flat_map-same : {A B : Type 0} (f g : A → List B) (xs : List A) → ((x : A) → f x ≡ g x) → flat_map f xs ≡ flat_map g xs
flat_map-same {A} {B} f g [] same = refl
flat_map-same {A} {B} f g (x ∷ xs) same = ap (λ (l : List B). l ++ flat_map f xs) (same x) ∙ ap (λ (l : List B). g x ++ l) (flat_map-same f g xs same)

-- the columns, with each other column before them
abbrev before : ℕ → List ℕ → List (List ℕ)
before width columns = map (λ j. j ∷ columns) (filter (λ j. not (is_among j columns)) (range_with_len 0 width))

one_more : (width more : ℕ) (columns : List ℕ) → flat_map (before width) (injections_ending width more columns) ≡ injections_ending width (suc more) columns
unfolding injections_ending
one_more width zero columns =
    append-nil (before width columns) ∙ sym (flat_map_single (λ j. j ∷ columns) (filter (λ j. not (is_among j columns)) (range_with_len 0 width)))
one_more width (suc more) columns =
    let free : List ℕ = filter (λ j. not (is_among j columns)) (range_with_len 0 width) in
    flat_map-joined (before width) (λ j. injections_ending width more (j ∷ columns)) free
    ∙ flat_map-same (λ j. flat_map (before width) (injections_ending width more (j ∷ columns))) (λ j. injections_ending width (suc more) (j ∷ columns)) free (λ j. one_more width more (j ∷ columns))

-- all injections are those that end in any way
pub endings-all : (width rows : ℕ) → injections_ending width rows [] ≡ injections width rows
unfolding injections injections_ending
endings-all width zero = refl
endings-all width (suc rows) = sym (one_more width rows []) ∙ ap (λ (l : List (List ℕ)). flat_map (before width) l) (endings-all width rows)

-- what is found where one more column stands in front, from this one on
unfoldable pub find_from : (List ℕ → Bool) → ℕ → ℕ → List ℕ → ℕ → Option (List ℕ)
find_from p width more columns j =
    find p (flat_map (λ i. injections_ending width more (i ∷ columns)) (filter (λ i. not (is_among i columns)) (range_with_len j (width - j))))

pub from-first : (p : List ℕ → Bool) (width left more : ℕ) (columns : List ℕ) → left ≡ suc more → find_from p width more columns 0 ≡ find p (injections_ending width left columns)
unfolding find_from injections_ending
from-first p width left more columns e =
    let whole : width - 0 ≡ width = omega arith in
    ap (λ (n : ℕ). find p (flat_map (λ i. injections_ending width more (i ∷ columns)) (filter (λ i. not (is_among i columns)) (range_with_len 0 n)))) whole
    ∙ ap (λ (n : ℕ). find p (injections_ending width n columns)) (sym e)

-- the columns that are left begin with this one
from_here : (p : List ℕ → Bool) (width more : ℕ) (columns : List ℕ) (j : ℕ) (b : Bool) → j < width → is_among j columns ≡ b
    → find_from p width more columns j
    ≡ find p
    (flat_map (λ i. injections_ending width more (i ∷ columns))
    (cond (not b) (j ∷ filter (λ i. not (is_among i columns)) (range_with_len (j + 1) (width - (j + 1)))) (filter (λ i. not (is_among i columns)) (range_with_len (j + 1) (width - (j + 1))))))
unfolding find_from
from_here p width more columns j b low is =
    let rest : List ℕ = filter (λ i. not (is_among i columns)) (range_with_len (j + 1) (width - (j + 1))) in
    let next : width - j ≡ suc (width - (j + 1)) = omega arith in
    ap (λ (n : ℕ). find p (flat_map (λ i. injections_ending width more (i ∷ columns)) (filter (λ i. not (is_among i columns)) (range_with_len j n)))) next
    ∙ ap (λ (b : Bool). find p (flat_map (λ i. injections_ending width more (i ∷ columns)) (cond (not b) (j ∷ rest) rest))) is

pub from-taken : (p : List ℕ → Bool) (width more : ℕ) (columns : List ℕ) (j : ℕ) → j < width → is_among j columns ≡ true → find_from p width more columns j ≡ find_from p width more columns (j + 1)
unfolding find_from
from-taken p width more columns j low taken = from_here p width more columns j true low taken

pub from-none : (p : List ℕ → Bool) (width more : ℕ) (columns : List ℕ) (j : ℕ) → j < width → is_among j columns ≡ false → find p (injections_ending width more (j ∷ columns)) ≡ None
    → find_from p width more columns j ≡ find_from p width more columns (j + 1)
unfolding find_from
from-none p width more columns j low free none =
    from_here p width more columns j false low free
    ∙ found-later p (injections_ending width more (j ∷ columns))
    (flat_map (λ i. injections_ending width more (i ∷ columns)) (filter (λ i. not (is_among i columns)) (range_with_len (j + 1) (width - (j + 1))))) none

pub from-some : (p : List ℕ → Bool) (width more : ℕ) (columns : List ℕ) (j : ℕ) (way : List ℕ) → j < width → is_among j columns ≡ false
    → find p (injections_ending width more (j ∷ columns)) ≡ Some way → find_from p width more columns j ≡ Some way
unfolding find_from
from-some p width more columns j way low free some =
    from_here p width more columns j false low free
    ∙ found-first p (injections_ending width more (j ∷ columns))
    (flat_map (λ i. injections_ending width more (i ∷ columns)) (filter (λ i. not (is_among i columns)) (range_with_len (j + 1) (width - (j + 1))))) way some

pub from-past : (p : List ℕ → Bool) (width more : ℕ) (columns : List ℕ) (j : ℕ) → width ≤ j → find_from p width more columns j ≡ None
unfolding find_from
from-past p width more columns j past =
    let none : width - j ≡ 0 = omega arith in
    ap (λ (n : ℕ). find p (flat_map (λ i. injections_ending width more (i ∷ columns)) (filter (λ i. not (is_among i columns)) (range_with_len j n)))) none

-- one more row and its column
pub cost-more : (table : List (List ℕ)) (left more j : ℕ) (columns : List ℕ) → left ≡ suc more → more < length table
    → assignment_cost (drop more table) (j ∷ columns) ≡ cost_at table more j + assignment_cost (drop left table) columns
cost-more table left more j columns e low =
    ap (λ (t : List (List ℕ)). assignment_cost t (j ∷ columns)) (drop-cons table more [] low)
    ∙ ap (λ (n : ℕ). cost_at table more j + assignment_cost (drop n table) columns) (sym e)

pub cost-none : (table : List (List ℕ)) → assignment_cost table [] ≡ 0
cost-none [] = refl
cost-none (row ∷ table) = refl

-- where no column is left to choose, the way is found if it costs the least
pub last-found : (table : List (List ℕ)) (least width left spent : ℕ) (columns : List ℕ) → left ≡ 0 → spent ≡ assignment_cost (drop left table) columns → spent ≡ least
    → find (λ way. assignment_cost table way == least) (injections_ending width left columns) ≡ Some columns
unfolding injections_ending
last-found table least width zero spent columns e is same = cond-true (assignment_cost table columns == least) (Some columns) None (eq-eqb (assignment_cost table columns) least (sym is ∙ same))
last-found table least width (suc left) spent columns e is same = absurd (omega arith)

pub last-other : (table : List (List ℕ)) (least width left spent : ℕ) (columns : List ℕ) → left ≡ 0 → spent ≡ assignment_cost (drop left table) columns → (spent ≡ least → ⊥)
    → find (λ way. assignment_cost table way == least) (injections_ending width left columns) ≡ None
unfolding injections_ending
last-other table least width zero spent columns e is other = cond-false (assignment_cost table columns == least) (Some columns) None (ne_eqb (assignment_cost table columns) least (λ same. other (is ∙ same)))
last-other table least width (suc left) spent columns e is other = absurd (omega arith)

-- one more column, before others that it is none of
pub IsInjection-before : (width j : ℕ) (columns : List ℕ) → IsInjection width (length columns) columns → j < width → is_among j columns ≡ false → IsInjection width (length (j ∷ columns)) (j ∷ columns)
unfolding injections
IsInjection-before width j columns h low free =
    injections-sound width (suc (length columns)) (j ∷ columns)
    (contains-flat_map (before width) (injections width (length columns)) columns (j ∷ columns) (injections-complete width (length columns) columns h)
    (contains-map (λ j. j ∷ columns) (filter (λ j. not (is_among j columns)) (range_with_len 0 width)) j
    (contains-filter (λ j. not (is_among j columns)) (range_with_len 0 width) j (contains-range 0 width j (omega arith) (omega arith)) (ap not free))))

pub IsInjection-none : (width : ℕ) → IsInjection width (length {A = ℕ} []) []
IsInjection-none width = IsInjection-range width 0 (omega arith)

-- what ends with these columns
record IsEnding (width more : ℕ) (columns way : List ℕ) : Type 0 where
  injection : IsInjection width (length way) way
  size : length way ≡ more + length columns
  end : (i k : ℕ) → k ≡ more + i → slice_index way k ≡ slice_index columns i

IsEnding-listed : (width more : ℕ) (columns way : List ℕ) → IsInjection width (length columns) columns → Contains (injections_ending width more columns) way → IsEnding width more columns way
unfolding injections_ending
IsEnding-listed width zero columns way h at = elim (contains-cases columns [] way at) [
  | inl same ↦ subst (λ (l : List ℕ). IsEnding width zero columns l) same (record { injection = h; size = omega arith; end = λ i k is. let e : k ≡ i = omega arith in ap (slice_index columns) e })
  | inr later ↦ absurd (contains-none way later)
]
IsEnding-listed width (suc more) columns way h at =
    let first = flat_map-contains (λ j. injections_ending width more (j ∷ columns)) (filter (λ j. not (is_among j columns)) (range_with_len 0 width)) way at in
    let j : ℕ = first.0 in
    let passes = filter-contains (λ j. not (is_among j columns)) (range_with_len 0 width) j first.1 in
    let free : is_among j columns ≡ false = not-true (is_among j columns) passes.1 in
    let below = range-contains 0 width j passes.0 in
    let rest : IsEnding width more (j ∷ columns) way = IsEnding-listed width more (j ∷ columns) way (IsInjection-before width j columns h (omega arith) free) first.2 in
    record { injection = rest.injection; size = omega (arith, rest.size); end = λ i k is. rest.end (suc i) k (omega arith) }

-- where one pawn costs more than its potential and that of its file, all cost more than all potentials
above_potentials : (width : ℕ) (table : List (List ℕ)) (u v : List ℤ) (way : List ℕ) (i : ℕ) → IsBounded width table u v → IsInjection width (length table) way → i < length table
    → (slice_index_or u i (pos 0) +ℤ slice_index_or v (slice_index way i) (pos 0)) <ℤ pos (cost_at table i (slice_index way i)) → (total u +ℤ total v) <ℤ pos (assignment_cost table way)
above_potentials width table u v way i bounded injection low loose =
    let x : ℤ = slice_index_or u i (pos 0) in
    let w : List ℤ = slice_set u i (x +ℤ pos 1) in
    let inside : i < length u = omega (arith, bounded.rows) in
    let raised : slice_index_or w i (pos 0) ≡ (x +ℤ pos 1) = get_or-set_same u i (x +ℤ pos 1) (pos 0) inside in
    let pairs = sums-along (λ a b. a ≤ℤ b) (omega (arith, ints)) (λ a b c d first rest. omega (arith, ints)) table w v way (length-set u i (x +ℤ pos 1) ∙ bounded.rows) injection.size
    (λ k lt. elim (cases_eq k i) [
      | inl is ↦ subst (λ (k : ℕ). (slice_index_or w k (pos 0) +ℤ slice_index_or v (slice_index way k) (pos 0)) ≤ℤ pos (cost_at table k (slice_index way k))) (sym is) (omega (arith, ints))
      | inr other ↦
          let kept = get_or-set_other u i k (x +ℤ pos 1) (pos 0) other in
          let pair = bounded.pairs k (slice_index way k) lt (injection.within k 0 (omega (arith, injection.size))) in
          omega (arith, ints)
    ]) in
    let sum = total-set u i (x +ℤ pos 1) inside in
    let P : ℕ → Type 0 = λ n. All (λ j. j < n) way in
    let prices = total-le_along way v (subst P (sym bounded.columns) injection.within) injection.apart bounded.below in
    omega (arith, ints)

-- no cheapest way is found where a pawn costs more than its potential and that of its file
pub find-loose : (table : List (List ℕ)) (u v : List ℤ) (least width more j : ℕ) (columns : List ℕ) → IsBounded width table u v → (total u +ℤ total v) ≡ pos least
    → suc more + length columns ≡ length table → IsInjection width (length columns) columns → j < width → is_among j columns ≡ false
    → (slice_index_or u more (pos 0) +ℤ slice_index_or v j (pos 0)) <ℤ pos (cost_at table more j)
    → find (λ way. assignment_cost table way == least) (injections_ending width more (j ∷ columns)) ≡ None
find-loose table u v least width more j columns bounded reached rows h low free loose = none-found (λ way. assignment_cost table way == least) (injections_ending width more (j ∷ columns)) (λ way at passes.
    let is = IsEnding-listed width more (j ∷ columns) way (IsInjection-before width j columns h low free) at in
    let size : length way ≡ length table = omega (arith, is.size) in
    let injection : IsInjection width (length table) way = subst (λ (n : ℕ). IsInjection width n way) size is.injection in
    let here : slice_index way more ≡ j = is.end 0 more (omega arith) in
    let above = above_potentials width table u v way more bounded injection (omega arith)
    (subst (λ (k : ℕ). (slice_index_or u more (pos 0) +ℤ slice_index_or v k (pos 0)) <ℤ pos (cost_at table more k)) (sym here) loose) in
    let same = eqb-true (assignment_cost table way) least passes in
    omega (arith, ints))

-- what ends with columns begins with others
ending-front : (width more : ℕ) (columns way : List ℕ) → Contains (injections_ending width more columns) way → (front : List ℕ) × (length front ≡ more) × (way ≡ front ++ columns)
unfolding injections_ending
ending-front width zero columns way at = elim (contains-cases columns [] way at) [
  | inl same ↦ ([], refl, sym same)
  | inr later ↦ absurd (contains-none way later)
]
ending-front width (suc more) columns way at =
    let first = flat_map-contains (λ j. injections_ending width more (j ∷ columns)) (filter (λ j. not (is_among j columns)) (range_with_len 0 width)) way at in
    let rest = ending-front width more (first.0 ∷ columns) way first.2 in
    let one : List ℕ = first.0 ∷ [] in
    let size : length (rest.0 ++ one) ≡ suc more = length-append rest.0 one ∙ omega (arith, rest.1) in
    (rest.0 ++ one, size, rest.2 ∙ sym (append_assoc rest.0 one columns))

-- the first rows cost what they cost alone, and so do the others
cost-parts : (table : List (List ℕ)) (front columns : List ℕ) → length front ≤ length table
    → assignment_cost table (front ++ columns) ≡ assignment_cost (take (length front) table) front + assignment_cost (drop (length front) table) columns
cost-parts table [] columns few = omega arith
cost-parts [] (j ∷ front) columns few = absurd (omega arith)
cost-parts (row ∷ table) (j ∷ front) columns few =
    let rest = cost-parts table front columns (omega arith) in
    omega (arith, rest)

-- nothing is found where the rows that are left cost too much
pub find-dear : (table : List (List ℕ)) (least width more j rest : ℕ) (columns : List ℕ) → suc more + length columns ≡ length table → IsInjection width (length columns) columns
    → j < width → is_among j columns ≡ false → CostAtLeast width table more (j ∷ columns) rest → least < rest + assignment_cost (drop more table) (j ∷ columns)
    → find (λ way. assignment_cost table way == least) (injections_ending width more (j ∷ columns)) ≡ None
find-dear table least width more j rest columns rows h low free bound dear = none-found (λ way. assignment_cost table way == least) (injections_ending width more (j ∷ columns)) (λ way at passes.
    let is = IsEnding-listed width more (j ∷ columns) way (IsInjection-before width j columns h low free) at in
    let parts = ending-front width more (j ∷ columns) way at in
    let front : List ℕ = parts.0 in
    let size : length way ≡ more + length (j ∷ columns) = is.size in
    let injection : IsInjection width (more + length (j ∷ columns)) (front ++ j ∷ columns) =
    subst (λ (l : List ℕ). IsInjection width (more + length (j ∷ columns)) l) parts.2 (subst (λ (n : ℕ). IsInjection width n way) size is.injection) in
    let least_front = bound front parts.1 injection in
    let whole = cost-parts table front (j ∷ columns) (omega (arith, parts.1)) in
    let first : assignment_cost (take (length front) table) front ≡ assignment_cost (take more table) front = ap (λ (n : ℕ). assignment_cost (take n table) front) parts.1 in
    let last : assignment_cost (drop (length front) table) (j ∷ columns) ≡ assignment_cost (drop more table) (j ∷ columns) = ap (λ (n : ℕ). assignment_cost (drop n table) (j ∷ columns)) parts.1 in
    let same = eqb-true (assignment_cost table way) least passes in
    let told = ap (assignment_cost table) parts.2 in
    omega (arith, least_front, whole, first, last, same, told))

-- rows of the same costs in these columns cost the same
cost-same : (a b : List (List ℕ)) (columns : List ℕ) → length a ≡ length b → ((k : ℕ) → k < length a → cost_at a k (slice_index columns k) ≡ cost_at b k (slice_index columns k)) → assignment_cost a columns ≡ assignment_cost b columns
cost-same [] [] columns e same = refl
cost-same [] (row ∷ b) columns e same = absurd (omega arith)
cost-same (row ∷ a) [] columns e same = absurd (omega arith)
cost-same (row ∷ a) (other ∷ b) [] e same = refl
cost-same (row ∷ a) (other ∷ b) (j ∷ columns) e same =
    let here = same 0 (omega arith) in
    let rest = cost-same a b columns (omega arith) (λ k lt. same (suc k) (omega arith)) in
    omega (arith, here, rest)

-- the columns in front are other ones
front-free : (width left : ℕ) (front columns : List ℕ) → length front ≡ left → IsInjection width (left + length columns) (front ++ columns) → (k : ℕ) → k < left → is_among (slice_index front k) columns ≡ false
front-free width left front columns size h k low = other_column (slice_index front k) columns (λ i lt is.
    let first = get_or_append_left front columns 0 k (omega arith) in
    let last = get_or-append-add front columns i 0 in
    let same = h.apart (length front + i) k (omega (arith, h.size)) (omega (arith, h.size)) (last ∙ is ∙ sym first) in
    omega arith)

front-injection : (width left : ℕ) (front columns : List ℕ) → length front ≡ left → IsInjection width (left + length columns) (front ++ columns) → IsInjection width left front
front-injection width left front columns size h = record {
  size = size;
  within = λ i d low. subst (λ (j : ℕ). j < width) (get_or_append_left front columns d i low) (h.within i d (omega (arith, h.size)));
  apart = λ i k li lk same.
      h.apart i k (omega (arith, h.size)) (omega (arith, h.size)) (get_or_append_left front columns 0 i li ∙ same ∙ sym (get_or_append_left front columns 0 k lk));
}

-- what rows in which these columns are barred cost is a bound
pub barred-bound : (width : ℕ) (table barred : List (List ℕ)) (left : ℕ) (columns : List ℕ) (cost : ℕ) → left ≤ length table → length barred ≡ left
    → ((i j : ℕ) → i < left → is_among j columns ≡ false → cost_at barred i j ≡ cost_at table i j) → cost ≡ least_cost width barred → CostAtLeast width table left columns cost
barred-bound width table barred left columns cost few size same least front long h =
    let injection : IsInjection width (length barred) front = subst (λ (n : ℕ). IsInjection width n front) (sym size) (front-injection width left front columns long h) in
    let below = least_cost-le width barred front injection in
    let taken : length (take left table) ≡ left = length-take-le left table few in
    let equal = cost-same barred (take left table) front (size ∙ sym taken) (λ k lt.
    same k (slice_index front k) (omega arith) (front-free width left front columns long h k (omega arith)) ∙ ap (λ (r : List ℕ). slice_index r (slice_index front k)) (sym (get_or-take left table k [] (omega arith)))) in
    omega (arith, below, equal, least)

-- there is a least assignment
pub pairing-found : (width : ℕ) (found : Option (ArrayVec ℕ)) (table : List (List ℕ)) (least : ℕ) → length table ≤ width → least ≡ least_cost width table
    → items_found found ≡ find (λ way. assignment_cost table way == least) (injections_ending width (length table) []) → IsSome found
pairing-found width (Some columns) table least few is e = refl
pairing-found width None table least few is e =
    let best = least_cost-is width table (range_with_len 0 (length table)) (IsInjection-range width (length table) few) in
    let fails = nothing-found (λ way. assignment_cost table way == least) (injections width (length table)) best.0
    (ap (find (λ way. assignment_cost table way == least)) (sym (endings-all width (length table))) ∙ sym e)
    (injections-complete width (length table) best.0 best.1) in
    let passes = eq-eqb (assignment_cost table best.0) least (best.2 ∙ sym is) in
    absurd (both_ways _ fails passes)

pub IsFirstPairing-found : (width : ℕ) (table : List (List ℕ)) (least : ℕ) (columns : List ℕ) → least ≡ least_cost width table
    → find (λ way. assignment_cost table way == least) (injections_ending width (length table) []) ≡ Some columns → IsFirstPairing width table columns
IsFirstPairing-found width table least columns is some =
    ap (λ (n : ℕ). find (λ way. assignment_cost table way == n) (injections width (length table))) (sym is)
    ∙ ap (find (λ way. assignment_cost table way == least)) (sym (endings-all width (length table))) ∙ some

pub pairing-injection : (width : ℕ) (table : List (List ℕ)) (columns : List ℕ) → IsFirstPairing width table columns → IsInjection width (length table) columns
pairing-injection width table columns h =
    injections-sound width (length table) columns (found-stands (λ way. assignment_cost table way == least_cost width table) (injections width (length table)) columns h).0

pub pairing-cost : (width : ℕ) (table : List (List ℕ)) (columns : List ℕ) → IsFirstPairing width table columns → assignment_cost table columns ≡ least_cost width table
pairing-cost width table columns h =
    eqb-true (assignment_cost table columns) (least_cost width table) (found-stands (λ way. assignment_cost table way == least_cost width table) (injections width (length table)) columns h).1
