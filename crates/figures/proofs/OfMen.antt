-- The figures of the men of a board, square by square.
use Rattle.std.proofs.Common.{◌≡◌, ℕ, suc, ◌+◌, ◌-◌, ◌<◌, ◌≤◌, List, ◌++◌, length, append-nil, append_assoc, length-append, refl, ap, sym, ◌∙◌, arith}
use Rattle.std.specs.Prelude.{Option, Some}
use Rattle.std.specs.List.{flat_map, range_with_len}
use Rattle.board_base.specs.Board.{Places, at}
use Rattle.board_base.specs.declared.men.Man.{Man}
use Rattle.past_sketches.specs.Figures.{Figure, figure_of, sketch_of}

pub men-from : (board : Places) (i : ℕ) → i < 64 → flat_map (λ s. figure_of s (at board s)) (range_with_len i (64 - i)) ≡ figure_of i (at board i) ++ flat_map (λ s. figure_of s (at board s)) (range_with_len (i + 1) (64 - (i + 1)))
men-from board i inside =
    let e : 64 - i ≡ suc (64 - (i + 1)) = omega arith in
    ap (λ (n : ℕ). flat_map (λ s. figure_of s (at board s)) (range_with_len i n)) e

pub men-none : (board : Places) (i : ℕ) (done whole : List Figure) → 64 ≤ i → done ++ flat_map (λ s. figure_of s (at board s)) (range_with_len i (64 - i)) ≡ whole → done ≡ whole
men-none board i done whole past e =
    let none : 64 - i ≡ 0 = omega arith in
    sym (append-nil done) ∙ sym (ap (λ (n : ℕ). done ++ flat_map (λ s. figure_of s (at board s)) (range_with_len i n)) none) ∙ e

pub men-more : (board : Places) (i : ℕ) (place : Option Man) (done more whole : List Figure) → i < 64 → at board i ≡ place → more ≡ done ++ figure_of i place → done ++ flat_map (λ s. figure_of s (at board s)) (range_with_len i (64 - i)) ≡ whole → more ++ flat_map (λ s. figure_of s (at board s)) (range_with_len (i + 1) (64 - (i + 1))) ≡ whole
men-more board i place done more whole inside there e before =
    let rest : List Figure = flat_map (λ s. figure_of s (at board s)) (range_with_len (i + 1) (64 - (i + 1))) in
    ap (λ (l : List Figure). l ++ rest) e ∙ append_assoc done (figure_of i place) rest
    ∙ ap (λ (p : Option Man). done ++ (figure_of i p ++ rest)) (sym there) ∙ sym (ap (λ (l : List Figure). done ++ l) (men-from board i inside)) ∙ before

pub men-many : (board : Places) (i : ℕ) (m : Man) (done : List Figure) → i < 64 → at board i ≡ Some m → length done ≡ 32 → done ++ flat_map (λ s. figure_of s (at board s)) (range_with_len i (64 - i)) ≡ sketch_of board → length (sketch_of board) ≤ 32 → ⊥
men-many board i m done inside there full e few =
    let rest : List Figure = flat_map (λ s. figure_of s (at board s)) (range_with_len (i + 1) (64 - (i + 1))) in
    let one : List Figure = figure_of i (Some m) in
    let whole : (done ++ one) ++ rest ≡ sketch_of board = men-more board i (Some m) done (done ++ one) (sketch_of board) inside there refl e in
    let size : length (sketch_of board) ≡ (length done + 1) + length rest = ap length (sym whole) ∙ length-append (done ++ one) rest ∙ ap (λ (n : ℕ). n + length rest) (length-append done one) in
    absurd (omega (arith, size, few, full))
