-- What is reached from a square is the least set that has it and that isn't left.
use Rattle.std.proofs.Common.{◌≡◌, ℕ, ◌<◌, inl, inr, Bool, true, false, ◌&&◌, ◌||◌, not, List, length, sym, ◌∙◌}
use Rattle.std.proofs.lemmas.Bool.{and_parts, and_from, or_cases, or_left, or_right, not-true, not_from_false, cases_Bool, both_ways, false_from_ne_true, true_from_ne_false}
use Rattle.std.specs.List.{list_all, range_with_len}
use Rattle.board_base.specs.Board.{is_in}
use Rattle.cage_rules.specs.Sets.{each_set, squares_that}
use Rattle.cage_rules.proofs.Filling.{in-that, is_in-that, length-that}
use Rattle.cage_rules.proofs.SetAlgebra.{lists-tell, lists-told}
use Rattle.cage_rules.proofs.Tested.{all_board, at_board}
use Rattle.past_account.specs.Zones.{is_closed_by, reached_from}

pub closed-told : (goes : ℕ → ℕ → Bool) (within : List Bool) (t u : ℕ) → is_closed_by goes within ≡ true → t < 64 → u < 64 → is_in within t ≡ true → goes t u ≡ true → is_in within u ≡ true
unfolding is_closed_by
closed-told goes within t u h ti ui member step =
    let row = at_board (λ t. list_all (λ u. not (is_in within t && goes t u && not (is_in within u))) (range_with_len 0 64)) t h ti in
    let here : (is_in within t && goes t u && not (is_in within u)) ≡ false = not-true _ (at_board (λ u. not (is_in within t && goes t u && not (is_in within u))) u row ui) in
    true_from_ne_false _ (λ out. both_ways _ here (and_from _ _ (and_from _ _ member step) (not_from_false _ out)))

-- the test that each set passes for a square that is reached
abbrev has_it : (ℕ → ℕ → Bool) → ℕ → ℕ → List Bool → Bool
has_it goes h s within = not (is_in within h && is_closed_by goes within) || is_in within s

it-told : (goes : ℕ → ℕ → Bool) (h s : ℕ) (within : List Bool) → has_it goes h s within ≡ true → is_in within h ≡ true → is_closed_by goes within ≡ true → is_in within s ≡ true
it-told goes h s within passes home closed = elim (or_cases (not (is_in within h && is_closed_by goes within)) (is_in within s) passes) [
  | inl lacks ↦ absurd (both_ways _ (not-true _ lacks) (and_from _ _ home closed))
  | inr member ↦ member
]

it-tells : (goes : ℕ → ℕ → Bool) (h s : ℕ) (within : List Bool) → (is_in within h ≡ true → is_closed_by goes within ≡ true → is_in within s ≡ true) → has_it goes h s within ≡ true
it-tells goes h s within member = elim (cases_Bool (is_in within h && is_closed_by goes within)) [
  | inl both ↦ let parts = and_parts _ _ both in or_right (not (is_in within h && is_closed_by goes within)) (is_in within s) (member parts.0 parts.1)
  | inr not_both ↦ or_left (not (is_in within h && is_closed_by goes within)) (is_in within s) (not_from_false _ not_both)
]

reached-told : (goes : ℕ → ℕ → Bool) (h s : ℕ) → is_in (reached_from goes h) s ≡ true → (s < 64) × ((within : List Bool) → length within ≡ 64 → is_in within h ≡ true → is_closed_by goes within ≡ true → is_in within s ≡ true)
unfolding reached_from
reached-told goes h s member =
    let here = in-that (λ s. each_set (has_it goes h s)) s member in
    (here.0, λ within size home closed. it-told goes h s within (lists-told 64 (has_it goes h s) within here.1 size) home closed)

reached-tells : (goes : ℕ → ℕ → Bool) (h s : ℕ) → s < 64 → ((within : List Bool) → length within ≡ 64 → is_in within h ≡ true → is_closed_by goes within ≡ true → is_in within s ≡ true) → is_in (reached_from goes h) s ≡ true
unfolding reached_from
reached-tells goes h s inside member =
    is_in-that (λ s. each_set (has_it goes h s)) s inside ∙ lists-tell 64 (has_it goes h s) (λ within size. it-tells goes h s within (member within size))

pub reached-home : (goes : ℕ → ℕ → Bool) (h : ℕ) → h < 64 → is_in (reached_from goes h) h ≡ true
reached-home goes h inside = reached-tells goes h h inside (λ within size home closed. home)

pub reached-goes : (goes : ℕ → ℕ → Bool) (h t u : ℕ) → u < 64 → is_in (reached_from goes h) t ≡ true → goes t u ≡ true → is_in (reached_from goes h) u ≡ true
reached-goes goes h t u ui member step =
    let here = reached-told goes h t member in
    reached-tells goes h u ui (λ within size home closed. closed-told goes within t u closed here.0 ui (here.1 within size home closed) step)

pub closed-tells : (goes : ℕ → ℕ → Bool) (within : List Bool) → ((t u : ℕ) → t < 64 → u < 64 → is_in within t ≡ true → goes t u ≡ true → is_in within u ≡ true) → is_closed_by goes within ≡ true
unfolding is_closed_by
closed-tells goes within h =
    all_board (λ t. list_all (λ u. not (is_in within t && goes t u && not (is_in within u))) (range_with_len 0 64)) (λ t ti.
    all_board (λ u. not (is_in within t && goes t u && not (is_in within u))) (λ u ui.
    not_from_false _ (false_from_ne_true _ (λ leaves.
    let parts = and_parts (is_in within t && goes t u) (not (is_in within u)) leaves in
    let two = and_parts (is_in within t) (goes t u) parts.0 in
    both_ways _ (not-true _ parts.1) (h t u ti ui two.0 two.1)))))

-- a set of squares of the board that has the home and isn't left has all that is reached
pub reached-least : (goes : ℕ → ℕ → Bool) (h : ℕ) (outer : List Bool) → h < 64 → is_in outer h ≡ true → ((t u : ℕ) → t < 64 → u < 64 → is_in outer t ≡ true → goes t u ≡ true → is_in outer u ≡ true) → (s : ℕ) → is_in (reached_from goes h) s ≡ true → is_in outer s ≡ true
reached-least goes h outer inside home closed s member =
    let here = reached-told goes h s member in
    let part : List Bool = squares_that (is_in outer) in
    sym (is_in-that (is_in outer) s here.0)
    ∙ here.1 part (length-that (is_in outer)) (is_in-that (is_in outer) h inside ∙ home) (closed-tells goes part (λ t u ti ui there step. is_in-that (is_in outer) u ui ∙ closed t u ti ui (sym (is_in-that (is_in outer) t ti) ∙ there) step))
