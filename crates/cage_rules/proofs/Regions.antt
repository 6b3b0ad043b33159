-- A region is the least set of squares that has the square from which it begins and that its man doesn't leave.
use Rattle.std.proofs.Common.{◌≡◌, ℕ, ◌<◌, inl, inr, Bool, true, false, ◌&&◌, ◌||◌, not, List, length, sym, ◌∙◌}
use Rattle.std.proofs.lemmas.Bool.{and_parts, and_from, or_cases, or_left, or_right, not-true, not_from_false, cases_Bool, both_ways, false_from_ne_true, true_from_ne_false}
use Rattle.std.specs.Prelude.{Option}
use Rattle.std.specs.List.{list_all, range_with_len}
use Rattle.board_base.specs.Board.{is_in}
use Rattle.board_base.specs.declared.men.Man.{Man}
use Rattle.play_rules.specs.Reach.{IsWithin}
use Rattle.cage_rules.specs.Regions.{IsLeastFrom, is_closed, is_left, may_roam, region_from}
use Rattle.cage_rules.specs.Sets.{each_set, squares_that}
use Rattle.cage_rules.proofs.Filling.{in-that, is_in-that, length-that}
use Rattle.cage_rules.proofs.SetAlgebra.{lists-tell, lists-told, same-set}
use Rattle.cage_rules.proofs.Tested.{all_board, at_board}

-- a set that he doesn't leave
pub closed-told : (frozen : List Bool) (man : Option Man) (within : List Bool) (t u : ℕ) → is_closed frozen man within ≡ true → t < 64 → u < 64 → is_in within t ≡ true → may_roam frozen man t u ≡ true → is_in within u ≡ true
unfolding is_closed
closed-told frozen man within t u h ti ui member goes =
    let row = at_board (λ t. list_all (λ u. not (is_left frozen man within t u)) (range_with_len 0 64)) t h ti in
    let here : is_left frozen man within t u ≡ false = not-true _ (at_board (λ u. not (is_left frozen man within t u)) u row ui) in
    true_from_ne_false _ (λ out. both_ways _ here (and_from _ _ (and_from _ _ member goes) (not_from_false _ out)))

pub closed-tells : (frozen : List Bool) (man : Option Man) (within : List Bool) → ((t u : ℕ) → t < 64 → u < 64 → is_in within t ≡ true → may_roam frozen man t u ≡ true → is_in within u ≡ true) → is_closed frozen man within ≡ true
unfolding is_closed
closed-tells frozen man within h =
    all_board (λ t. list_all (λ u. not (is_left frozen man within t u)) (range_with_len 0 64)) (λ t ti.
    all_board (λ u. not (is_left frozen man within t u)) (λ u ui.
    not_from_false _ (false_from_ne_true _ (λ leaves.
    let parts = and_parts (is_in within t && may_roam frozen man t u) (not (is_in within u)) leaves in
    let two = and_parts (is_in within t) (may_roam frozen man t u) parts.0 in
    both_ways _ (not-true _ parts.1) (h t u ti ui two.0 two.1)))))

-- the test that each set passes for a square of the region
abbrev has_it : List Bool → Option Man → ℕ → ℕ → List Bool → Bool
has_it frozen man h s within = not (is_in within h && is_closed frozen man within) || is_in within s

it-told : (frozen : List Bool) (man : Option Man) (h s : ℕ) (within : List Bool) → has_it frozen man h s within ≡ true → is_in within h ≡ true → is_closed frozen man within ≡ true → is_in within s ≡ true
it-told frozen man h s within passes home closed = elim (or_cases (not (is_in within h && is_closed frozen man within)) (is_in within s) passes) [
  | inl lacks ↦ absurd (both_ways _ (not-true _ lacks) (and_from _ _ home closed))
  | inr member ↦ member
]

it-tells : (frozen : List Bool) (man : Option Man) (h s : ℕ) (within : List Bool) → (is_in within h ≡ true → is_closed frozen man within ≡ true → is_in within s ≡ true) → has_it frozen man h s within ≡ true
it-tells frozen man h s within member = elim (cases_Bool (is_in within h && is_closed frozen man within)) [
  | inl both ↦ let parts = and_parts _ _ both in or_right (not (is_in within h && is_closed frozen man within)) (is_in within s) (member parts.0 parts.1)
  | inr not_both ↦ or_left (not (is_in within h && is_closed frozen man within)) (is_in within s) (not_from_false _ not_both)
]

-- a square of the region is in each set that has the home and that he doesn't leave
region-told : (frozen : List Bool) (man : Option Man) (h s : ℕ) → is_in (region_from frozen man h) s ≡ true → (s < 64) × ((within : List Bool) → length within ≡ 64 → is_in within h ≡ true → is_closed frozen man within ≡ true → is_in within s ≡ true)
unfolding region_from
region-told frozen man h s member =
    let here = in-that (λ s. each_set (has_it frozen man h s)) s member in
    (here.0, λ within size home closed. it-told frozen man h s within (lists-told 64 (has_it frozen man h s) within here.1 size) home closed)

region-tells : (frozen : List Bool) (man : Option Man) (h s : ℕ) → s < 64 → ((within : List Bool) → length within ≡ 64 → is_in within h ≡ true → is_closed frozen man within ≡ true → is_in within s ≡ true) → is_in (region_from frozen man h) s ≡ true
unfolding region_from
region-tells frozen man h s inside member =
    is_in-that (λ s. each_set (has_it frozen man h s)) s inside ∙ lists-tell 64 (has_it frozen man h s) (λ within size. it-tells frozen man h s within (member within size))

pub length-region : (frozen : List Bool) (man : Option Man) (h : ℕ) → length (region_from frozen man h) ≡ 64
unfolding region_from
length-region frozen man h = length-that (λ s. each_set (has_it frozen man h s))

pub region-home : (frozen : List Bool) (man : Option Man) (h : ℕ) → h < 64 → is_in (region_from frozen man h) h ≡ true
region-home frozen man h inside = region-tells frozen man h h inside (λ within size home closed. home)

pub region-goes : (frozen : List Bool) (man : Option Man) (h t u : ℕ) → u < 64 → is_in (region_from frozen man h) t ≡ true → may_roam frozen man t u ≡ true → is_in (region_from frozen man h) u ≡ true
region-goes frozen man h t u ui member goes =
    let here = region-told frozen man h t member in
    region-tells frozen man h u ui (λ within size home closed. closed-told frozen man within t u closed here.0 ui (here.1 within size home closed) goes)

pub region-closed : (frozen : List Bool) (man : Option Man) (h : ℕ) → is_closed frozen man (region_from frozen man h) ≡ true
region-closed frozen man h = closed-tells frozen man (region_from frozen man h) (λ t u ti ui member goes. region-goes frozen man h t u ui member goes)

-- the squares of the board that a set of any length has
board-part : List Bool → List Bool
board-part outer = squares_that (is_in outer)

part-closed : (frozen : List Bool) (man : Option Man) (outer : List Bool) → is_closed frozen man outer ≡ true → is_closed frozen man (board-part outer) ≡ true
unfolding board-part
part-closed frozen man outer closed =
    closed-tells frozen man (squares_that (is_in outer)) (λ t u ti ui member goes.
    is_in-that (is_in outer) u ui ∙ closed-told frozen man outer t u closed ti ui (sym (is_in-that (is_in outer) t ti) ∙ member) goes)

pub region-least : (frozen : List Bool) (man : Option Man) (h : ℕ) (outer : List Bool) → h < 64 → is_in outer h ≡ true → is_closed frozen man outer ≡ true → IsWithin (region_from frozen man h) outer
unfolding board-part
region-least frozen man h outer inside home closed s member =
    let here = region-told frozen man h s member in
    sym (is_in-that (is_in outer) s here.0)
    ∙ here.1 (squares_that (is_in outer)) (length-that (is_in outer)) (is_in-that (is_in outer) h inside ∙ home) (part-closed frozen man outer closed)

pub least-closed : (frozen : List Bool) (man : Option Man) (h : ℕ) → h < 64 → IsLeastFrom frozen man h (region_from frozen man h)
least-closed frozen man h inside = record {
  size = length-region frozen man h;
  home = region-home frozen man h inside;
  closed = region-closed frozen man h;
  least = λ within home closed. region-least frozen man h within inside home closed;
}

-- and no other set is
pub only-region : (frozen : List Bool) (man : Option Man) (h : ℕ) (found : List Bool) → h < 64 → IsLeastFrom frozen man h found → found ≡ region_from frozen man h
only-region frozen man h found inside least =
    same-set found (region_from frozen man h) least.size (length-region frozen man h) (least.least (region_from frozen man h) (region-home frozen man h inside) (region-closed frozen man h)) (region-least frozen man h found inside least.home least.closed)
