-- The greatest of what is told of squares.
use Rattle.std.proofs.Common.{◌≡◌, ℕ, zero, suc, ◌+◌, ◌<◌, ◌≤◌, ◌==◌, inl, inr, max, Bool, true, ◌&&◌, map, List, [], ◌∷◌, slice_index, refl, ap, sym, subst, ◌∙◌, arith}
use Rattle.std.proofs.lemmas.Bool.{and_from, and_parts, agree_below_at, cases_lt, lt-ltb, ltb-true}
use Rattle.std.specs.Prelude.{nat_lt}
use Rattle.std.specs.List.{Contains, filter, range_with_len}
use Rattle.general_lemmas.proofs.Lists.{contains-cases, contains-filter, contains-first, contains-later, contains-map, contains-none, filter-contains, map-contains}
use Rattle.general_lemmas.proofs.Ranges.{contains-range, range-contains}
use Rattle.board_base.specs.Board.{is_in}
use Rattle.board_base.specs.Squares.{squares_of}
use Rattle.capture_prices.specs.Prices.{class_of}
use Rattle.balance_rule.specs.Costs.{greatest, greatest_on}

-- n is the greatest of what f tells of the squares that pass the test, and 0 where none does
pub record IsGreatest (p : ℕ → Bool) (f : ℕ → ℕ) (n : ℕ) : Type 0 where
  pub above : (s : ℕ) → s < 64 → p s ≡ true → f s ≤ n
  pub found : 0 < n → (s : ℕ) × (s < 64) × (p s ≡ true) × (f s ≡ n)

no-greater : (p : ℕ → Bool) (f : ℕ → ℕ) (n m : ℕ) → IsGreatest p f n → IsGreatest p f m → n < m → ⊥
no-greater p f n m a b less =
    let some = b.found (let l : 0 < m = omega arith in l) in
    let bound : f some.0 ≤ n = a.above some.0 some.1 some.2 in
    let here : f some.0 ≡ m = some.3 in
    omega arith

pub only-greatest : (p : ℕ → Bool) (f : ℕ → ℕ) (n m : ℕ) → IsGreatest p f n → IsGreatest p f m → n ≡ m
only-greatest p f n m a b = elim (cases_lt n m) [
  | inl less ↦ absurd (no-greater p f n m a b less)
  | inr no_less ↦ elim (cases_lt m n) [ inl more ↦ absurd (no-greater p f m n b a more) | inr no_more ↦ omega arith ]
]

greatest-above : (xs : List ℕ) (x : ℕ) → Contains xs x → x ≤ greatest xs
greatest-above [] x h = absurd (contains-none x h)
greatest-above (y ∷ xs) x h = elim (contains-cases y xs x h) [
  | inl same ↦ omega arith
  | inr there ↦ let rest = greatest-above xs x there in omega arith
]

greatest-found : (xs : List ℕ) → 0 < greatest xs → Contains xs (greatest xs)
greatest-found [] some = absurd (omega arith)
greatest-found (y ∷ xs) some = elim (cases_lt y (greatest xs)) [
  | inl less ↦
      let e : greatest xs ≡ greatest (y ∷ xs) = omega arith in
      let rest : Contains xs (greatest xs) = greatest-found xs (omega arith) in
      subst (Contains (y ∷ xs)) e (contains-later y xs (greatest xs) rest)
  | inr no_less ↦ let e : y ≡ greatest (y ∷ xs) = omega arith in subst (Contains (y ∷ xs)) e (contains-first y xs)
]

pub greatest-listed : (p : ℕ → Bool) (f : ℕ → ℕ) → IsGreatest p f (greatest_on p f)
unfolding greatest_on
greatest-listed p f = record {
  above = λ s inside passes. greatest-above (map f (filter p (range_with_len 0 64))) (f s) (contains-map f (filter p (range_with_len 0 64)) s (contains-filter p (range_with_len 0 64) s (contains-range 0 64 s (omega arith) (omega arith)) passes));
  found = λ some.
      let here = map-contains f (filter p (range_with_len 0 64)) (greatest (map f (filter p (range_with_len 0 64)))) (greatest-found (map f (filter p (range_with_len 0 64))) some) in
      let kept = filter-contains p (range_with_len 0 64) here.0 here.1 in
      let on_board : here.0 < 64 = (range-contains 0 64 here.0 kept.0).1 in
      (here.0, on_board, kept.1, here.2);
}

-- the squares of the classes before the one with number k
abbrev pub in_classes : List Bool → ℕ → ℕ → Bool
in_classes within k s = is_in within s && nat_lt (class_of s) k

pub classes-none : (within : List Bool) (f : ℕ → ℕ) → IsGreatest (in_classes within 0) f 0
classes-none within f = record {
  above = λ s inside passes. absurd (let low : class_of s < 0 = ltb-true (class_of s) 0 (and_parts (is_in within s) (nat_lt (class_of s) 0) passes).1 in omega arith);
  found = λ some. absurd (omega arith);
}

-- a class that has a square in the set, and one that has none
pub classes-more : (within : List Bool) (takes : List ℕ) (k most s : ℕ) → s < 64 → is_in within s ≡ true → class_of s ≡ k → IsGreatest (in_classes within k) (λ s. slice_index takes (class_of s)) most → IsGreatest (in_classes within (k + 1)) (λ s. slice_index takes (class_of s)) (max (slice_index takes k) most)
classes-more within takes k most s inside member class before =
    let here : slice_index takes (class_of s) ≡ slice_index takes k = ap (slice_index takes) class in
    record {
      above = λ u in_ passes.
          let parts = and_parts (is_in within u) (nat_lt (class_of u) (k + 1)) passes in
          let low : class_of u < k + 1 = ltb-true (class_of u) (k + 1) parts.1 in
          elim (cases_lt (class_of u) k) [
            | inl less ↦ let bound : slice_index takes (class_of u) ≤ most = before.above u in_ (and_from _ _ parts.0 (lt-ltb (class_of u) k less)) in omega arith
            | inr past ↦
                let same : class_of u ≡ k = omega arith in
                let e : slice_index takes (class_of u) ≡ slice_index takes k = ap (slice_index takes) same in
                omega arith
          ];
      found = λ some. elim (cases_lt (slice_index takes k) most) [
        | inl less ↦
            let had = before.found (let l : 0 < most = omega arith in l) in
            let parts = and_parts (is_in within had.0) (nat_lt (class_of had.0) k) had.2 in
            let low : class_of had.0 < k = ltb-true (class_of had.0) k parts.1 in
            let e : max (slice_index takes k) most ≡ most = omega arith in
            (had.0, had.1, and_from _ _ parts.0 (lt-ltb (class_of had.0) (k + 1) (omega arith)), had.3 ∙ sym e)
        | inr no_less ↦
            let e : max (slice_index takes k) most ≡ slice_index takes k = omega arith in
            (s, inside, and_from _ _ member (lt-ltb (class_of s) (k + 1) (omega arith)), here ∙ sym e)
      ];
    }

pub classes-same : (within : List Bool) (f : ℕ → ℕ) (k most : ℕ) → ((s : ℕ) → s < 64 → is_in within s ≡ true → class_of s ≡ k → ⊥) → IsGreatest (in_classes within k) f most → IsGreatest (in_classes within (k + 1)) f most
classes-same within f k most none before = record {
  above = λ u in_ passes.
      let parts = and_parts (is_in within u) (nat_lt (class_of u) (k + 1)) passes in
      let low : class_of u < k + 1 = ltb-true (class_of u) (k + 1) parts.1 in
      elim (cases_lt (class_of u) k) [
        | inl less ↦ before.above u in_ (and_from _ _ parts.0 (lt-ltb (class_of u) k less))
        | inr past ↦ absurd (none u in_ parts.0 (let same : class_of u ≡ k = omega arith in same))
      ];
  found = λ some.
      let had = before.found some in
      let parts = and_parts (is_in within had.0) (nat_lt (class_of had.0) k) had.2 in
      let low : class_of had.0 < k = ltb-true (class_of had.0) k parts.1 in
      (had.0, had.1, and_from _ _ parts.0 (lt-ltb (class_of had.0) (k + 1) (omega arith)), had.3);
}

class-small : (s : ℕ) → class_of s < 16
class-small s = omega arith

pub classes-all : (within : List Bool) (f : ℕ → ℕ) (k most : ℕ) → 16 ≤ k → IsGreatest (in_classes within k) f most → most ≡ greatest_on (is_in within) f
classes-all within f k most past before =
    only-greatest (is_in within) f most _ (record {
      above = λ s inside member. before.above s inside (and_from _ _ member (lt-ltb (class_of s) k (omega (arith, class-small s))));
      found = λ some. let had = before.found some in (had.0, had.1, (and_parts (is_in within had.0) (nat_lt (class_of had.0) k) had.2).0, had.3);
    }) (greatest-listed (is_in within) f)

-- the squares of each class, from the numbers in which they are stored
class-0 : (s : ℕ) → s < 64 → is_in (squares_of 281479271743489) s ≡ (class_of s == 0)
unfolding squares_of
class-0 s inside = agree_below_at (is_in (squares_of 281479271743489)) (λ s. class_of s == 0) 64 s refl inside

class-1 : (s : ℕ) → s < 64 → is_in (squares_of 72058693566333184) s ≡ (class_of s == 1)
unfolding squares_of
class-1 s inside = agree_below_at (is_in (squares_of 72058693566333184)) (λ s. class_of s == 1) 64 s refl inside

class-2 : (s : ℕ) → s < 64 → is_in (squares_of 144117387132666368) s ≡ (class_of s == 2)
unfolding squares_of
class-2 s inside = agree_below_at (is_in (squares_of 144117387132666368)) (λ s. class_of s == 2) 64 s refl inside

class-3 : (s : ℕ) → s < 64 → is_in (squares_of 562958543486978) s ≡ (class_of s == 3)
unfolding squares_of
class-3 s inside = agree_below_at (is_in (squares_of 562958543486978)) (λ s. class_of s == 3) 64 s refl inside

class-4 : (s : ℕ) → s < 64 → is_in (squares_of 1125917086973956) s ≡ (class_of s == 4)
unfolding squares_of
class-4 s inside = agree_below_at (is_in (squares_of 1125917086973956)) (λ s. class_of s == 4) 64 s refl inside

class-5 : (s : ℕ) → s < 64 → is_in (squares_of 288234774265332736) s ≡ (class_of s == 5)
unfolding squares_of
class-5 s inside = agree_below_at (is_in (squares_of 288234774265332736)) (λ s. class_of s == 5) 64 s refl inside

class-6 : (s : ℕ) → s < 64 → is_in (squares_of 576469548530665472) s ≡ (class_of s == 6)
unfolding squares_of
class-6 s inside = agree_below_at (is_in (squares_of 576469548530665472)) (λ s. class_of s == 6) 64 s refl inside

class-7 : (s : ℕ) → s < 64 → is_in (squares_of 2251834173947912) s ≡ (class_of s == 7)
unfolding squares_of
class-7 s inside = agree_below_at (is_in (squares_of 2251834173947912)) (λ s. class_of s == 7) 64 s refl inside

class-8 : (s : ℕ) → s < 64 → is_in (squares_of 4503668347895824) s ≡ (class_of s == 8)
unfolding squares_of
class-8 s inside = agree_below_at (is_in (squares_of 4503668347895824)) (λ s. class_of s == 8) 64 s refl inside

class-9 : (s : ℕ) → s < 64 → is_in (squares_of 1152939097061330944) s ≡ (class_of s == 9)
unfolding squares_of
class-9 s inside = agree_below_at (is_in (squares_of 1152939097061330944)) (λ s. class_of s == 9) 64 s refl inside

class-10 : (s : ℕ) → s < 64 → is_in (squares_of 2305878194122661888) s ≡ (class_of s == 10)
unfolding squares_of
class-10 s inside = agree_below_at (is_in (squares_of 2305878194122661888)) (λ s. class_of s == 10) 64 s refl inside

class-11 : (s : ℕ) → s < 64 → is_in (squares_of 9007336695791648) s ≡ (class_of s == 11)
unfolding squares_of
class-11 s inside = agree_below_at (is_in (squares_of 9007336695791648)) (λ s. class_of s == 11) 64 s refl inside

class-12 : (s : ℕ) → s < 64 → is_in (squares_of 18014673391583296) s ≡ (class_of s == 12)
unfolding squares_of
class-12 s inside = agree_below_at (is_in (squares_of 18014673391583296)) (λ s. class_of s == 12) 64 s refl inside

class-13 : (s : ℕ) → s < 64 → is_in (squares_of 4611756388245323776) s ≡ (class_of s == 13)
unfolding squares_of
class-13 s inside = agree_below_at (is_in (squares_of 4611756388245323776)) (λ s. class_of s == 13) 64 s refl inside

class-14 : (s : ℕ) → s < 64 → is_in (squares_of 9223512776490647552) s ≡ (class_of s == 14)
unfolding squares_of
class-14 s inside = agree_below_at (is_in (squares_of 9223512776490647552)) (λ s. class_of s == 14) 64 s refl inside

class-15 : (s : ℕ) → s < 64 → is_in (squares_of 36029346783166592) s ≡ (class_of s == 15)
unfolding squares_of
class-15 s inside = agree_below_at (is_in (squares_of 36029346783166592)) (λ s. class_of s == 15) 64 s refl inside

-- those numbers
abbrev pub masks : List ℕ
masks = 281479271743489 ∷ 72058693566333184 ∷ 144117387132666368 ∷ 562958543486978 ∷ 1125917086973956 ∷ 288234774265332736 ∷ 576469548530665472 ∷ 2251834173947912 ∷ 4503668347895824 ∷ 1152939097061330944 ∷ 2305878194122661888 ∷ 9007336695791648 ∷ 18014673391583296 ∷ 4611756388245323776 ∷ 9223512776490647552 ∷ 36029346783166592 ∷ []

pub class-squares : (k s : ℕ) → k < 16 → s < 64 → is_in (squares_of (slice_index masks k)) s ≡ (class_of s == k)
class-squares zero s low inside = class-0 s inside
class-squares (suc zero) s low inside = class-1 s inside
class-squares (suc (suc zero)) s low inside = class-2 s inside
class-squares (suc (suc (suc zero))) s low inside = class-3 s inside
class-squares (suc (suc (suc (suc zero)))) s low inside = class-4 s inside
class-squares (suc (suc (suc (suc (suc zero))))) s low inside = class-5 s inside
class-squares (suc (suc (suc (suc (suc (suc zero)))))) s low inside = class-6 s inside
class-squares (suc (suc (suc (suc (suc (suc (suc zero))))))) s low inside = class-7 s inside
class-squares (suc (suc (suc (suc (suc (suc (suc (suc zero)))))))) s low inside = class-8 s inside
class-squares (suc (suc (suc (suc (suc (suc (suc (suc (suc zero))))))))) s low inside = class-9 s inside
class-squares (suc (suc (suc (suc (suc (suc (suc (suc (suc (suc zero)))))))))) s low inside = class-10 s inside
class-squares (suc (suc (suc (suc (suc (suc (suc (suc (suc (suc (suc zero))))))))))) s low inside = class-11 s inside
class-squares (suc (suc (suc (suc (suc (suc (suc (suc (suc (suc (suc (suc zero)))))))))))) s low inside = class-12 s inside
class-squares (suc (suc (suc (suc (suc (suc (suc (suc (suc (suc (suc (suc (suc zero))))))))))))) s low inside = class-13 s inside
class-squares (suc (suc (suc (suc (suc (suc (suc (suc (suc (suc (suc (suc (suc (suc zero)))))))))))))) s low inside = class-14 s inside
class-squares (suc (suc (suc (suc (suc (suc (suc (suc (suc (suc (suc (suc (suc (suc (suc zero))))))))))))))) s low inside = class-15 s inside
class-squares (suc (suc (suc (suc (suc (suc (suc (suc (suc (suc (suc (suc (suc (suc (suc (suc k)))))))))))))))) s low inside = absurd (omega arith)
