-- The answer, by what was found.
use Rattle.std.proofs.Common.{◌≡◌, ℕ, ◌<◌, ◌==◌, ◌&&◌, Bool, true, false, length, List, refl, ap, sym, ◌∙◌, arith}
use Rattle.std.proofs.lemmas.Bool.{and_from, and_parts, both_ways, eq-eqb, eqb-true, false_from_ne_true}
use Rattle.std.specs.Prelude.{Option, Some, None, is_some}
use Rattle.std.specs.List.{list_all, range_with_len}
use Rattle.std.specs.Int.{bit_at}
use Rattle.board_base.specs.Board.{Places, at, is_in, is_the, opponent, is_of}
use Rattle.board_base.specs.Attacks.{attacks}
use Rattle.board_base.specs.Legal.{in_check}
use Rattle.board_base.specs.declared.men.Colour.{Colour}
use Rattle.board_base.specs.declared.men.Kind.TheVariants.{King}
use Rattle.general_lemmas.proofs.Ranges.{all_in_range, any-found, any-one}
use Rattle.check_origins.specs.Near.{AreArrivals, checks_nearby, is_near_checker}
use Rattle.check_origins.proofs.Alone.{IsAlone}
use Rattle.board_base.proofs.Hits.{hit-attacks}

all-ones : list_all (λ s. bit_at 18446744073709551615 s == 1) (range_with_len 0 64) ≡ true
all-ones = refl

pub bit-one : (s : ℕ) → s < 64 → (bit_at 18446744073709551615 s == 1) ≡ true
bit-one s small = all_in_range (λ k. bit_at 18446744073709551615 k == 1) 0 64 s all-ones (omega arith) (omega arith)

-- no man checks from near
pub none-near : (board : Places) (c : Colour) (set : List Bool) → length set ≡ 64 → ((t : ℕ) → t < 64 → is_in set t ≡ true) → ((s : ℕ) → s < 64 → is_near_checker board c s ≡ false) → AreArrivals board c set
none-near board c set size all none = record {
  size = size;
  none = λ h t small. all t small;
  one = λ s small near alone t below. absurd (both_ways _ (none s small) near);
  more = λ s r small below near other apart t inside. absurd (both_ways _ (none s small) near);
  enough = λ t small h. all t small;
}

pub one-near : (board : Places) (c : Colour) (set : List Bool) (k : ℕ) → length set ≡ 64 → k < 64 → ((t : ℕ) → t < 64 → is_in set t ≡ (t == k)) → ((s : ℕ) → s < 64 → is_near_checker board c s ≡ (s == k)) → AreArrivals board c set
one-near board c set k size inside one near-is =
    let here : is_near_checker board c k ≡ true = near-is k inside ∙ eq-eqb k k refl in
    let only : (s : ℕ) → s < 64 → is_near_checker board c s ≡ true → s ≡ k = λ s small near. eqb-true s k (sym (near-is s small) ∙ near) in
    record {
      size = size;
      none = λ h t small. absurd (both_ways _ (h k inside) here);
      one = λ s small near alone t below. one t below ∙ ap (λ (n : ℕ). t == n) (sym (only s small near));
      more = λ s r small below near other apart t inner. absurd (apart (only s small near ∙ sym (only r below other)));
      enough = λ t small h. one t small ∙ eq-eqb t k (sym (h k inside here));
    }

pub two-near : (board : Places) (c : Colour) (set : List Bool) (k i : ℕ) → length set ≡ 64 → k < i → i < 64 → ((t : ℕ) → t < 64 → is_in set t ≡ false) → is_near_checker board c k ≡ true → is_near_checker board c i ≡ true → AreArrivals board c set
two-near board c set k i size low high none first second = record {
  size = size;
  none = λ h t small. absurd (both_ways _ (h i high) second);
  one = λ s small near alone t below. absurd (let a : k ≡ s = alone k (omega arith) first in let b : i ≡ s = alone i high second in omega arith);
  more = λ s r small below near other apart t inner. none t inner;
  enough = λ t small h. absurd (let a : k ≡ t = h k (omega arith) first in let b : i ≡ t = h i high second in omega arith);
}

pub checks : (board : Places) (c : Colour) (s k : ℕ) → s < 64 → k < 64 → checks_nearby board c s k ≡ true → in_check board c ≡ true
unfolding in_check
checks board c s k small inside h =
    let p3 = and_parts _ _ h in
    let p2 = and_parts _ _ p3.0 in
    let p1 = and_parts (is_the c King (at board k)) _ p2.0 in
    any-found (λ n. is_the c King (at board n) && attacks board n (opponent c)) 0 64 k (omega arith) (omega arith) (and_from _ _ p1.0 (hit-attacks board (opponent c) k s small (and_from _ _ p1.1 p2.1)))

-- without check there is no near check
pub no-check : (board : Places) (c : Colour) → in_check board c ≡ false → (s : ℕ) → s < 64 → is_near_checker board c s ≡ false
unfolding is_near_checker
no-check board c free s small = false_from_ne_true _ (λ near.
    let w = any-one (λ k. checks_nearby board c s k) 0 64 near in
    let below = w.below in
    both_ways _ free (checks board c s w.number small (omega arith) w.passes))

-- where no man of the other side stands, no man checks from near
pub no-checker : (board : Places) (c : Colour) (s : ℕ) → is_of (opponent c) (at board s) ≡ false → is_near_checker board c s ≡ false
unfolding is_near_checker
no-checker board c s none = false_from_ne_true _ (λ near.
    let w = any-one (λ k. checks_nearby board c s k) 0 64 near in
    let p3 = and_parts _ _ w.passes in
    let p2 = and_parts _ _ p3.0 in
    both_ways _ none (and_parts (is_the c King (at board w.number)) _ p2.0).1)

-- a number that was found passes
pub found-passes : (o : Option ℕ) (p : ℕ → Bool) (i : ℕ) → is_some o ≡ true → IsAlone o p i → (k : ℕ) × (k < i) × (p k ≡ true)
found-passes None p i h alone = cc
found-passes (Some k) p i h alone = (k, alone.0, alone.1 k alone.0 ∙ eq-eqb k k refl)
