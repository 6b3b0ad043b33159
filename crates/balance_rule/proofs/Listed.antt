-- The list of all ways from a square has each way, and nothing else; so the least over it is the least of all ways.
use Rattle.std.proofs.Common.{◌≡◌, ℕ, zero, suc, ◌+◌, ◌<◌, ◌≤◌, inl, inr, Bool, true, map, List, [], ◌∷◌, length, refl, ap, sym, subst, ◌∙◌, arith}
use Rattle.std.proofs.lemmas.Bool.{and_parts, and_from, cases_lt, eqb-true, ltb-true}
use Rattle.std.specs.List.{Contains, filter, range_with_len}
use Rattle.board_base.specs.Board.{rank}
use Rattle.board_base.specs.Attacks.{one_ahead}
use Rattle.board_base.specs.declared.men.Colour.{Colour}
use Rattle.board_base.specs.declared.men.Colour.TheVariants.{White, Black}
use Rattle.general_lemmas.proofs.Lists.{contains-first, contains-later, contains-cases, contains-none, contains-filter, filter-contains, contains-map, map-contains, contains-flat_map, flat_map-contains}
use Rattle.general_lemmas.proofs.Ranges.{contains-range}
use Rattle.men_fates.specs.Ways.{is_pawn_step, is_way}
use Rattle.balance_rule.specs.Costs.{least, never, ways_from, ways_with_len}
use Rattle.balance_rule.specs.LeastWays.{IsLeast}

-- a step leads to a square of the board, one rank ahead
pub step-parts : (c : Colour) (set : List Bool) (s t : ℕ) → is_pawn_step c set s t ≡ true → (one_ahead c s t ≡ true) × (t < 64)
step-parts c set s t h =
    let a = and_parts _ _ h in
    let b = and_parts _ _ a.0 in
    let d = and_parts _ _ b.0 in
    (d.0, ltb-true t 64 b.1)

pub step-inside : (c : Colour) (set : List Bool) (s t : ℕ) → is_pawn_step c set s t ≡ true → t < 64
step-inside c set s t h = (step-parts c set s t h).1

-- the ways of n squares
listed-len : (c : Colour) (set : List Bool) (n s : ℕ) (way : List ℕ) → is_way c set s way ≡ true → length way ≡ n → Contains (ways_with_len c set n s) way
unfolding ways_with_len
listed-len c set zero s [] is size = contains-first [] []
listed-len c set zero s (t ∷ way) is size = absurd (omega arith)
listed-len c set (suc n) s [] is size = absurd (omega arith)
listed-len c set (suc n) s (t ∷ way) is size =
    let parts = and_parts (is_pawn_step c set s t) (is_way c set t way) is in
    let inside : t < 64 = step-inside c set s t parts.0 in
    let next : Contains (filter (is_pawn_step c set s) (range_with_len 0 64)) t = contains-filter (is_pawn_step c set s) (range_with_len 0 64) t (contains-range 0 64 t (omega arith) (omega arith)) parts.0 in
    contains-flat_map (λ t. map (λ way. t ∷ way) (ways_with_len c set n t)) (filter (is_pawn_step c set s) (range_with_len 0 64)) t (t ∷ way) next
    (contains-map (λ way. t ∷ way) (ways_with_len c set n t) way (listed-len c set n t way parts.1 (omega arith)))

len-listed : (c : Colour) (set : List Bool) (n s : ℕ) (way : List ℕ) → Contains (ways_with_len c set n s) way → is_way c set s way ≡ true
unfolding ways_with_len
len-listed c set zero s way h = elim (contains-cases [] [] way h) [
  | inl same ↦ ap (is_way c set s) (sym same)
  | inr there ↦ absurd (contains-none way there)
]
len-listed c set (suc n) s way h =
    let some = flat_map-contains (λ t. map (λ way. t ∷ way) (ways_with_len c set n t)) (filter (is_pawn_step c set s) (range_with_len 0 64)) way h in
    let t : ℕ = some.0 in
    let step : is_pawn_step c set s t ≡ true = (filter-contains (is_pawn_step c set s) (range_with_len 0 64) t some.1).1 in
    let rest = map-contains (λ way. t ∷ way) (ways_with_len c set n t) way some.2 in
    ap (is_way c set s) (sym rest.2) ∙ and_from _ _ step (len-listed c set n t rest.0 rest.1)

-- so a way isn't long
short-white : (set : List Bool) (s : ℕ) (way : List ℕ) → s < 64 → is_way White set s way ≡ true → rank s + length way ≤ 7
short-white set s [] inside is = omega arith
short-white set s (t ∷ way) inside is =
    let parts = and_parts (is_pawn_step White set s t) (is_way White set t way) is in
    let step = step-parts White set s t parts.0 in
    let ahead : rank t ≡ rank s + 1 = eqb-true _ _ step.0 in
    let rest = short-white set t way step.1 parts.1 in
    omega arith

short-black : (set : List Bool) (s : ℕ) (way : List ℕ) → s < 64 → is_way Black set s way ≡ true → length way ≤ rank s
short-black set s [] inside is = omega arith
short-black set s (t ∷ way) inside is =
    let parts = and_parts (is_pawn_step Black set s t) (is_way Black set t way) is in
    let step = step-parts Black set s t parts.0 in
    let ahead : rank s ≡ rank t + 1 = eqb-true _ _ step.0 in
    let rest = short-black set t way step.1 parts.1 in
    omega arith

pub short-way : (c : Colour) (set : List Bool) (s : ℕ) (way : List ℕ) → s < 64 → is_way c set s way ≡ true → length way < 8
short-way White set s way inside is = let h = short-white set s way inside is in omega arith
short-way Black set s way inside is = let h = short-black set s way inside is in omega arith

-- each way, and nothing else
pub way-listed : (c : Colour) (set : List Bool) (s : ℕ) (way : List ℕ) → s < 64 → is_way c set s way ≡ true → Contains (ways_from c set s) way
unfolding ways_from
way-listed c set s way inside is =
    let short : length way < 8 = short-way c set s way inside is in
    contains-flat_map (λ n. ways_with_len c set n s) (range_with_len 0 8) (length way) way (contains-range 0 8 (length way) (omega arith) (omega arith)) (listed-len c set (length way) s way is refl)

pub listed-way : (c : Colour) (set : List Bool) (s : ℕ) (way : List ℕ) → Contains (ways_from c set s) way → is_way c set s way ≡ true
unfolding ways_from
listed-way c set s way h =
    let some = flat_map-contains (λ n. ways_with_len c set n s) (range_with_len 0 8) way h in
    len-listed c set some.0 s way some.2

-- the least of a list
least-most : (xs : List ℕ) → least xs ≤ never
least-most [] = omega arith
least-most (x ∷ xs) = omega (arith, least-most xs)

pub least-below : (xs : List ℕ) (x : ℕ) → Contains xs x → least xs ≤ x
least-below [] x h = absurd (contains-none x h)
least-below (y ∷ xs) x h = elim (contains-cases y xs x h) [
  | inl same ↦ omega arith
  | inr there ↦ let rest = least-below xs x there in omega arith
]

pub least-found : (xs : List ℕ) → least xs < never → Contains xs (least xs)
least-found [] low = absurd (omega arith)
least-found (y ∷ xs) low = elim (cases_lt y (least xs)) [
  | inl less ↦ let e : y ≡ least (y ∷ xs) = omega arith in subst (Contains (y ∷ xs)) e (contains-first y xs)
  | inr no_less ↦
      let e : least xs ≡ least (y ∷ xs) = omega arith in
      let rest : Contains xs (least xs) = least-found xs (omega arith) in
      subst (Contains (y ∷ xs)) e (contains-later y xs (least xs) rest)
]

pub least-listed : (c : Colour) (set : List Bool) (h : ℕ) (p : List ℕ → Bool) (f : List ℕ → ℕ) → h < 64 → IsLeast c set h p f (least (map f (filter p (ways_from c set h))))
least-listed c set h p f inside = record {
  most = least-most (map f (filter p (ways_from c set h)));
  below = λ way is passes.
      least-below (map f (filter p (ways_from c set h))) (f way)
      (contains-map f (filter p (ways_from c set h)) way (contains-filter p (ways_from c set h) way (way-listed c set h way inside is) passes));
  found = λ low.
      let some = map-contains f (filter p (ways_from c set h)) (least (map f (filter p (ways_from c set h)))) (least-found (map f (filter p (ways_from c set h))) low) in
      let kept = filter-contains p (ways_from c set h) some.0 some.1 in
      (some.0, listed-way c set h some.0 kept.0, kept.1, some.2);
}

-- the same where each way passes
pub least-listed-all : (c : Colour) (set : List Bool) (h : ℕ) (f : List ℕ → ℕ) → h < 64 → IsLeast c set h (λ way. true) f (least (map f (ways_from c set h)))
least-listed-all c set h f inside = record {
  most = least-most (map f (ways_from c set h));
  below = λ way is passes. least-below (map f (ways_from c set h)) (f way) (contains-map f (ways_from c set h) way (way-listed c set h way inside is));
  found = λ low.
      let some = map-contains f (ways_from c set h) (least (map f (ways_from c set h))) (least-found (map f (ways_from c set h)) low) in
      (some.0, listed-way c set h some.0 some.1, refl, some.2);
}
