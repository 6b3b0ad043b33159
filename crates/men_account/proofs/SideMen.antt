-- All men of a side, counted square by square.
use Rattle.std.proofs.Common.{◌≡◌, ℕ, suc, ◌+◌, ◌≤◌, Bool, true, false, cond, ◌&&◌, refl, ap, ◌∙◌, arith}
use Rattle.std.proofs.lemmas.List.FromFn.{length-range_with_len}
use Rattle.std.proofs.lemmas.List.Sums.{count_by-le-length}
use Rattle.std.specs.Prelude.{Option}
use Rattle.std.specs.List.{count_by, range_with_len}
use Rattle.board_base.specs.Board.{Places, at, is_of}
use Rattle.board_base.specs.declared.men.Colour.{Colour}
use Rattle.board_base.specs.declared.men.Man.{Man}
use Rattle.general_lemmas.proofs.Counts.{count-end, one_if}
use Rattle.men_account.specs.Account.{is_any}
use Rattle.men_account.specs.Homes.{men_of}

-- the men of a side on the first squares
abbrev pub count_first : Colour → Places → ℕ → ℕ
count_first c board i = count_by (λ s. is_of c (at board s) && is_any s) (range_with_len 0 i)

one-more : (b : Bool) → ◌≡◌ {A = ℕ} (cond (b && true) 1 0) (cond b 1 0)
one-more true = refl
one-more false = refl

pub men-more : (c : Colour) (board : Places) (place : Option Man) (i n after : ℕ) → n ≡ count_first c board i → place ≡ at board i → after ≡ n + cond (is_of c place) 1 0 → after ≡ count_first c board (i + 1)
men-more c board place i n after so_far here e =
    let grown = count-end (λ s. is_of c (at board s) && is_any s) i 0 in
    let from_zero : 0 + i ≡ i = omega arith in
    let last : ◌≡◌ {A = ℕ} (cond (is_of c (at board (0 + i)) && true) 1 0) (cond (is_of c (at board i)) 1 0) = one-more (is_of c (at board (0 + i))) ∙ ap (λ (s : ℕ). one_if (is_of c (at board s))) from_zero in
    let same : ◌≡◌ {A = ℕ} (cond (is_of c place) 1 0) (cond (is_of c (at board i)) 1 0) = ap (λ (p : Option Man). one_if (is_of c p)) here in
    let suc_i : i + 1 ≡ suc i = omega arith in
    let next : count_first c board (i + 1) ≡ count_first c board (suc i) = ap (count_first c board) suc_i in
    omega (arith, grown, last, same, next, so_far, e)

pub few-first : (c : Colour) (board : Places) (i : ℕ) → count_first c board i ≤ i
few-first c board i = omega (arith, count_by-le-length (λ s. is_of c (at board s) && is_any s) (range_with_len 0 i), length-range_with_len 0 i)

pub all-first : (c : Colour) (board : Places) (i : ℕ) → i ≡ 64 → count_first c board i ≡ men_of c is_any board
unfolding men_of
all-first c board i e = ap (count_first c board) e
