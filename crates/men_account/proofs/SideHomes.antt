-- The men of a side begin on the two ranks next to it.
use Rattle.std.proofs.Common.{◌≡◌, ℕ, ◌<◌, Bool, true, false, ◌&&◌, not, List, refl, arith}
use Rattle.std.proofs.lemmas.Bool.{and_from, both_ways, ltb-true, not-true}
use Rattle.std.specs.Prelude.{nat_lt}
use Rattle.std.specs.List.{list_all, range_with_len}
use Rattle.general_lemmas.proofs.Ranges.{all_in_range}
use Rattle.board_base.specs.Board.{array_of, at, initial_array, is_of}
use Rattle.board_base.specs.declared.men.Colour.TheVariants.{White, Black}
use Rattle.men_account.proofs.FilesLeft.{array-inside, array-of-initial}

-- Article 2.3
homes-white : list_all (λ s. not (is_of White (at initial_array s) && not (nat_lt s 16))) (range_with_len 0 64) ≡ true
unfolding initial_array
homes-white = refl

homes-black : list_all (λ s. not (is_of Black (at initial_array s) && not (nat_lt 47 s))) (range_with_len 0 64) ≡ true
unfolding initial_array
homes-black = refl

pub tested-home : (a b : Bool) → not (a && not b) ≡ true → a ≡ true → b ≡ true
tested-home a true tested here = refl
tested-home a false tested here = absurd (both_ways _ (not-true _ tested) (and_from a true here refl))

pub home-white : (o : List Bool) (h : ℕ) → is_of White (at (array_of o) h) ≡ true → h < 16
home-white o h here =
    let small : h < 64 = array-inside o (is_of White) h refl here in
    let tested : not (is_of White (at initial_array h) && not (nat_lt h 16)) ≡ true = all_in_range (λ s. not (is_of White (at initial_array s) && not (nat_lt s 16))) 0 64 h homes-white (omega arith) (omega arith) in
    ltb-true h 16 (tested-home _ _ tested (array-of-initial o (is_of White) h refl here))

pub home-black : (o : List Bool) (h : ℕ) → is_of Black (at (array_of o) h) ≡ true → (47 < h) × (h < 64)
home-black o h here =
    let small : h < 64 = array-inside o (is_of Black) h refl here in
    let tested : not (is_of Black (at initial_array h) && not (nat_lt 47 h)) ≡ true = all_in_range (λ s. not (is_of Black (at initial_array s) && not (nat_lt 47 s))) 0 64 h homes-black (omega arith) (omega arith) in
    (ltb-true 47 h (tested-home _ _ tested (array-of-initial o (is_of Black) h refl here)), small)
