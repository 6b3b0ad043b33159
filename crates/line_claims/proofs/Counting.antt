-- How many parts are due: of each step one, and one for each of at most six other captures of its move.
use Rattle.std.proofs.Common.{◌≡◌, ℕ, zero, suc, ◌+◌, ◌*◌, ◌<◌, ◌≤◌, ◌==◌, Bool, true, false, cond, ◌&&◌, not, nat_lt, min, List, [], ◌∷◌, length, map, get_or, inl, inr, refl, sym, ap, ◌∙◌, arith, length-append, true≢false, Option, Some, None}
use Rattle.std.proofs.lemmas.Bool.{and_from, and_parts, cases_Bool, cond-false, cond-true, eq-eqb, false_from_ne_true, ltb-true}
use Rattle.std.proofs.lemmas.List.{length-map}
use Rattle.std.proofs.lemmas.List.Elements.{All-head, Contains-get_or}
use Rattle.std.proofs.lemmas.List.Kept.{AllPairs-filter}
use Rattle.std.specs.Bool.{beq}
use Rattle.std.specs.List.{All, AllPairs, Contains, filter}
use Rattle.std.specs.Ordering.{nat_cmp, ordering_then}
use Rattle.std.specs.declared.cmp.Ordering.{Ordering}
use Rattle.std.specs.declared.cmp.Ordering.TheVariants.{Equal, Greater, Less}
use Rattle.std.proofs.Math.Bool.{and-false}
use Rattle.board_base.specs.Legal.{is_move, same_promo}
use Rattle.board_base.specs.Texts.{can_capture, capture_place, place_of, unmove_order}
use Rattle.board_base.specs.declared.men.Kind.{Kind}
use Rattle.board_base.specs.declared.men.Kind.TheVariants.{Pawn, Knight, Bishop, Rook, Queen, King}
use Rattle.board_base.specs.declared.moves.Move.{Move}
use Rattle.board_base.specs.declared.unmoves.Unmove.{Unmove}
use Rattle.board_base.proofs.Equal.{move_is, move_self, promo_self}
use Rattle.general_lemmas.proofs.Lists.{contains-cases, contains-none, filter-contains}
use Rattle.query_base.specs.Asked.{Asked}
use Rattle.unmove_gen.specs.Listed.{unmoves}
use Rattle.unmove_gen.specs.Predecessor.{predecessor}
use Rattle.unmove_gen.proofs.Order.{unmoves_ascend}
use Rattle.unmove_gen.proofs.Spelled.{captures_spelled}
use Rattle.line_claims.specs.Due.{excluded, is_other, parts_of_steps, siblings}
use Rattle.line_claims.specs.Listing.{AreListed}
use Rattle.line_claims.proofs.Listings.{listed-first, listed-rest}
use Rattle.line_claims.proofs.Others.{truths_self}
use Rattle.general_lemmas.proofs.Counts.{one_if-more}

-- numbers in order

self_cmp : (x : ℕ) → nat_cmp x x ≡ Equal
self_cmp x =
    cond-false (nat_lt x x) Less (cond (x == x) Equal Greater) (false_from_ne_true _ (λ less. let below : x < x = ltb-true x x less in omega arith))
    ∙ cond-true (x == x) Equal Greater (eq-eqb x x refl)

not_less : (b : Bool) → cond b Equal Greater ≡ Less → ⊥
not_less true e = cc
not_less false e = cc

less_number : (x y : ℕ) → nat_cmp x y ≡ Less → x < y
less_number x y e = elim (cases_Bool (nat_lt x y)) [
  | inl less ↦ ltb-true x y less
  | inr other ↦ absurd (not_less (x == y) (sym (cond-false (nat_lt x y) Less (cond (x == y) Equal Greater) other) ∙ e))
]

-- numbers that ascend from k to below k + n are at most n
ascending_few : {A : Type 0} (f : A → ℕ) (xs : List A) (k n : ℕ) → AllPairs (λ a b. f a < f b) xs → All (λ a. (k ≤ f a) × (f a < k + n)) xs → length xs ≤ n
ascending_few f [] k n pairs all = omega arith
ascending_few f (x ∷ xs) k zero pairs all = let first = All-head (λ a. (k ≤ f a) × (f a < k + 0)) x xs all in absurd (omega (arith, first.0, first.1))
ascending_few {A} f (x ∷ xs) k (suc n) pairs all =
    let first : (k ≤ f x) × (f x < k + suc n) = All-head (λ a. (k ≤ f a) × (f a < k + suc n)) x xs all in
    let rest : length xs ≤ n = ascending_few f xs (k + 1) n (λ i j d less inside. pairs (suc i) (suc j) d (omega arith) (omega arith)) (λ i d inside.
    let above : f x < f (get_or xs i d) = pairs 0 (suc i) d (omega arith) (omega arith) in
    let here : (k ≤ f (get_or xs i d)) × (f (get_or xs i d) < k + suc n) = all (suc i) d (omega arith) in
    (omega (arith, first.0), omega (arith, here.1))) in
    omega arith

-- what an unmove captured, as a number from 0 to 6

number_of : Unmove → ℕ
number_of u = min (capture_place u) 6

no_king : (p k : Option Kind) (ep : Bool) → can_capture p k ep ≡ true → cond ep 7 (place_of k) ≡ 6 → ⊥
no_king p k true h e = omega arith
no_king p None false h e = omega arith
no_king p (Some Pawn) false h e = omega arith
no_king p (Some Knight) false h e = omega arith
no_king p (Some Bishop) false h e = omega arith
no_king p (Some Rook) false h e = omega arith
no_king p (Some Queen) false h e = omega arith
no_king p (Some King) false h e = true≢false (sym h)

at_most_seven : (k : Option Kind) (ep : Bool) → cond ep 7 (place_of k) ≤ 7
at_most_seven k true = omega arith
at_most_seven None false = omega arith
at_most_seven (Some Pawn) false = omega arith
at_most_seven (Some Knight) false = omega arith
at_most_seven (Some Bishop) false = omega arith
at_most_seven (Some Rook) false = omega arith
at_most_seven (Some Queen) false = omega arith
at_most_seven (Some King) false = omega arith

captures_ascend : (u v : Unmove) → u.mv ≡ v.mv → unmove_order u v ≡ Less → capture_place u < capture_place v
captures_ascend u v m e =
    let to : nat_cmp u.mv.to v.mv.to ≡ Equal = ap (λ (n : Move). nat_cmp u.mv.to n.to) (sym m) ∙ self_cmp u.mv.to in
    let from : nat_cmp u.mv.from v.mv.from ≡ Equal = ap (λ (n : Move). nat_cmp u.mv.from n.from) (sym m) ∙ self_cmp u.mv.from in
    let promo : nat_cmp (place_of u.mv.promo) (place_of v.mv.promo) ≡ Equal = ap (λ (n : Move). nat_cmp (place_of u.mv.promo) (place_of n.promo)) (sym m) ∙ self_cmp (place_of u.mv.promo) in
    let last : Ordering = nat_cmp (capture_place u) (capture_place v) in
    let third : Ordering = ordering_then (nat_cmp (place_of u.mv.promo) (place_of v.mv.promo)) last in
    let second : Ordering = ordering_then (nat_cmp u.mv.from v.mv.from) third in
    less_number (capture_place u) (capture_place v)
    (sym (ap (λ (o : Ordering). ordering_then o second) to ∙ ap (λ (o : Ordering). ordering_then o third) from ∙ ap (λ (o : Ordering). ordering_then o last) promo) ∙ e)

numbers_ascend : (u v : Unmove) → can_capture u.mv.promo u.captured u.ep ≡ true → u.mv ≡ v.mv → unmove_order u v ≡ Less → number_of u < number_of v
unfolding number_of
numbers_ascend u v fits m e =
    let less = captures_ascend u v m e in
    let few = at_most_seven v.captured v.ep in
    let other = no_king u.mv.promo u.captured u.ep fits in
    omega arith

small : (u : Unmove) → number_of u < 7
unfolding number_of
small u = omega arith

-- unmoves of one move

abbrev same_move : Unmove → Unmove → Bool
same_move u v = is_move (Some u.mv) v.mv

same_few : (q : Asked) (u : Unmove) → length (filter (same_move u) (unmoves q)) ≤ 7
same_few q u =
    let among : List Unmove = filter (same_move u) (unmoves q) in
    let ascend : AllPairs (λ a b. unmove_order a b ≡ Less) among = AllPairs-filter (λ (a b : Unmove). unmove_order a b ≡ Less) (same_move u) (unmoves q) (unmoves_ascend q) in
    ascending_few number_of among 0 7 (λ i j d less inside.
    let first = filter-contains (same_move u) (unmoves q) (get_or among i d) (Contains-get_or among i d (omega arith)) in
    let second = filter-contains (same_move u) (unmoves q) (get_or among j d) (Contains-get_or among j d inside) in
    numbers_ascend (get_or among i d) (get_or among j d) (captures_spelled q (get_or among i d) first.0) (sym (move_is u.mv (get_or among i d).mv first.1) ∙ move_is u.mv (get_or among j d).mv second.1) (ascend i j d less inside))
    (λ i d inside. (omega arith, let low = small (get_or among i d) in omega arith))

-- a test that lets through less

next_long : {A : Type 0} (b : Bool) (y : A) (ys : List A) → length (cond b (y ∷ ys) ys) ≡ cond b 1 0 + length ys
next_long true y ys = omega arith
next_long false y ys = omega arith

fewer : {A : Type 0} (p r : A → Bool) (xs : List A) → ((y : A) → p y ≡ true → r y ≡ true) → length (filter p xs) ≤ length (filter r xs)
fewer p r [] implied = omega arith
fewer p r (y ∷ ys) implied =
    let rest = fewer p r ys implied in
    let here = one_if-more (p y) (r y) (implied y) in
    omega (arith, next_long (p y) y (filter p ys), next_long (r y) y (filter r ys))

one_less : {A : Type 0} (p r : A → Bool) (xs : List A) (x : A) → ((y : A) → p y ≡ true → r y ≡ true) → Contains xs x → r x ≡ true → p x ≡ false → length (filter p xs) + 1 ≤ length (filter r xs)
one_less p r [] x implied among passes fails = absurd (contains-none x among)
one_less {A} p r (y ∷ ys) x implied among passes fails = elim (contains-cases y ys x among) [
  | inl same ↦
      let rest = fewer p r ys implied in
      let out : cond {A = ℕ} (p y) 1 0 ≡ 0 = ap (λ (z : A). cond {A = ℕ} (p z) 1 0) same ∙ ap (λ (b : Bool). cond {A = ℕ} b 1 0) fails in
      let kept : cond {A = ℕ} (r y) 1 0 ≡ 1 = ap (λ (z : A). cond {A = ℕ} (r z) 1 0) same ∙ ap (λ (b : Bool). cond {A = ℕ} b 1 0) passes in
      omega (arith, next_long (p y) y (filter p ys), next_long (r y) y (filter r ys))
  | inr later ↦
      let rest = one_less p r ys x implied later passes fails in
      let here = one_if-more (p y) (r y) (implied y) in
      omega (arith, next_long (p y) y (filter p ys), next_long (r y) y (filter r ys))
]

no_other : (u : Unmove) → is_other u u ≡ false
no_other u =
    ap (λ (b : Bool). is_move (Some u.mv) u.mv && not b) (and_from (same_promo u.captured u.captured) (beq u.ep u.ep) (promo_self u.captured) (truths_self u.ep))
    ∙ and-false (is_move (Some u.mv) u.mv)

siblings_few : (q : Asked) (u : Unmove) → Contains (unmoves q) u → length (siblings q u) ≤ 6
unfolding siblings
siblings_few q u listed =
    let less = one_less (is_other u) (same_move u) (unmoves q) u (λ v h. (and_parts _ _ h).0) listed (move_self u.mv) (no_other u) in
    let all = same_few q u in
    omega arith

-- the parts of the steps
pub steps_few : (us : List Unmove) (q : Asked) → AreListed q us → length (parts_of_steps q us) ≤ 7 * length us
steps_few [] q all = omega arith
steps_few (u ∷ us) q all =
    let here = siblings_few q u (listed-first q (u ∷ us) us u all refl) in
    let rest = steps_few us (predecessor q u) (listed-rest q (predecessor q u) (u ∷ us) us u all refl refl) in
    omega (arith, length-append (map (excluded q) (siblings q u)) (parts_of_steps (predecessor q u) us), length-map (siblings q u) (excluded q))
