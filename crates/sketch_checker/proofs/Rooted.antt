-- A walk can begin with the sketch of a root.
use Rattle.std.proofs.Common.{◌≡◌, ℕ, zero, suc, ◌+◌, ◌<◌, ◌≤◌, Bool, true, false, cond, ◌&&◌, not, List, [], ◌∷◌, ◌++◌, refl, ap, sym, ◌∙◌, arith}
use Rattle.std.proofs.lemmas.Bool.{and_from, and_parts, both_ways, false_from_ne_true, lt-ltb, not-true}
use Rattle.std.proofs.lemmas.List.Sums.{sum_by-cons}
use Rattle.std.specs.Prelude.{Some, None, count_by}
use Rattle.std.specs.List.{flat_map, list_all, list_any, range_with_len}
use Rattle.board_base.specs.Board.{Places, array_of, at, is_in, is_of, rank, same_colour}
use Rattle.board_base.specs.declared.men.Colour.{Colour}
use Rattle.board_base.specs.declared.men.Colour.TheVariants.{White, Black}
use Rattle.board_base.specs.declared.men.Man.{Man}
use Rattle.men_account.specs.Account.{is_any}
use Rattle.men_account.specs.Homes.{men_of}
use Rattle.cage_rules.proofs.Tested.{any-told, at_board}
use Rattle.figures.specs.Clashes.{do_two, is_clash, is_nowhere}
use Rattle.figures.specs.Figures.{Figure, Sketch, figure_of, is_fixed_on, only_on, sketch_of}
use Rattle.figures.proofs.Singles.{in-only, only-in}
use Rattle.sketch_walk.specs.Places.{has_low_place}
use Rattle.sketch_checker.specs.Beginning.{CanBegin}
use Rattle.sketch_checker.specs.Roots.{IsRoot}
use Rattle.sketch_checker.proofs.Sides.{begun, few-tells, one, side, side-cons}
use Rattle.sketch_checker.proofs.Leasts.{none-or}

-- the figures of the men on n squares from k on
abbrev figures : Places → ℕ → ℕ → Sketch
figures board k n = flat_map (λ s. figure_of s (at board s)) (range_with_len k n)

abbrev fixed_figure : ℕ → Man → Figure
fixed_figure s m = record { colour = m.colour; kinds = m.kind ∷ []; squares = only_on s; marked = false; place = rank s }

and-all : (b : Bool) → (b && true) ≡ b
and-all true = refl
and-all false = refl

-- TESTS OF THE FIGURES

any-none : (p : Figure → Bool) (board : Places) (n k : ℕ) → ((s : ℕ) (m : Man) → k ≤ s → s < k + n → p (fixed_figure s m) ≡ false) → list_any p (figures board k n) ≡ false
any-none p board zero k each = refl
any-none p board (suc n) k each =
    let rest : list_any p (figures board (k + 1) n) ≡ false = any-none p board n (k + 1) (λ s m low high. each s m (omega (arith, low)) (omega (arith, high))) in
    elim (at board k) as (λ place. list_any p (figure_of k place ++ figures board (k + 1) n) ≡ false) [
      | None ↦ rest
      | Some m ↦ none-or (p (fixed_figure k m)) (list_any p (figures board (k + 1) n)) (each k m (omega arith) (omega arith)) rest
    ]

all-each : (p : Figure → Bool) (board : Places) (n k : ℕ) → ((s : ℕ) (m : Man) → k ≤ s → s < k + n → p (fixed_figure s m) ≡ true) → list_all p (figures board k n) ≡ true
all-each p board zero k each = refl
all-each p board (suc n) k each =
    let rest : list_all p (figures board (k + 1) n) ≡ true = all-each p board n (k + 1) (λ s m low high. each s m (omega (arith, low)) (omega (arith, high))) in
    elim (at board k) as (λ place. list_all p (figure_of k place ++ figures board (k + 1) n) ≡ true) [
      | None ↦ rest
      | Some m ↦ and_from (p (fixed_figure k m)) (list_all p (figures board (k + 1) n)) (each k m (omega arith) (omega arith)) rest
    ]

-- NOBODY CLASHES

on-own : (s t : ℕ) (m : Man) → is_fixed_on s (fixed_figure t m) ≡ true → s ≡ t
on-own s t m h = only-in t s (and_parts _ _ h).0

two-none : (board : Places) (s n k : ℕ) → do_two (is_fixed_on s) (figures board k n) ≡ false
two-none board s zero k = refl
two-none board s (suc n) k =
    let rest : do_two (is_fixed_on s) (figures board (k + 1) n) ≡ false = two-none board s n (k + 1) in
    elim (at board k) as (λ place. do_two (is_fixed_on s) (figure_of k place ++ figures board (k + 1) n) ≡ false) [
      | None ↦ rest
      | Some m ↦ none-or (is_fixed_on s (fixed_figure k m) && list_any (is_fixed_on s) (figures board (k + 1) n)) (do_two (is_fixed_on s) (figures board (k + 1) n))
          (false_from_ne_true _ (λ both.
          let parts = and_parts (is_fixed_on s (fixed_figure k m)) (list_any (is_fixed_on s) (figures board (k + 1) n)) both in
          let here : s ≡ k = on-own s k m parts.0 in
          let none : list_any (is_fixed_on s) (figures board (k + 1) n) ≡ false = any-none (is_fixed_on s) board n (k + 1) (λ t x low high. false_from_ne_true _ (λ on. let there : s ≡ t = on-own s t x on in omega (arith, here, there, low))) in
          both_ways _ none parts.1))
          rest
    ]

here-some : (s : ℕ) (m : Man) → s < 64 → is_nowhere (fixed_figure s m) ≡ false
here-some s m low = false_from_ne_true _ (λ none. both_ways _ (not-true _ (at_board (λ t. not (is_in (only_on s) t)) s none low)) (in-only s low))

-- each figure has a square
pub board-somewhere : (board : Places) → list_any is_nowhere (sketch_of board) ≡ false
unfolding sketch_of
board-somewhere board = any-none is_nowhere board 64 0 (λ s m low high. here-some s m (omega (arith, high)))

apart : (board : Places) → is_clash (sketch_of board) ≡ false
unfolding is_clash sketch_of
apart board =
    none-or (list_any is_nowhere (figures board 0 64)) (list_any (λ s. do_two (is_fixed_on s) (figures board 0 64)) (range_with_len 0 64))
    (board-somewhere board)
    (false_from_ne_true _ (λ some. let x = any-told (λ s. do_two (is_fixed_on s) (figures board 0 64)) 0 64 some in both_ways _ (two-none board x.0 64 0) x.2))

-- NO SIDE HAS TOO MANY

men-of : (c : Colour) (board : Places) (n k : ℕ) → side c (figures board k n) ≡ count_by (λ s. is_of c (at board s) && is_any s) (range_with_len k n)
men-of c board zero k = refl
men-of c board (suc n) k =
    let rest : side c (figures board (k + 1) n) ≡ count_by (λ s. is_of c (at board s) && is_any s) (range_with_len (k + 1) n) = men-of c board n (k + 1) in
    let all : count_by (λ s. is_of c (at board s) && is_any s) (range_with_len k (suc n)) ≡ cond (is_of c (at board k) && true) 1 0 + count_by (λ s. is_of c (at board s) && is_any s) (range_with_len (k + 1) n) = sum_by-cons (λ s. cond (is_of c (at board s) && is_any s) 1 0) k (range_with_len (k + 1) n) in
    (elim (at board k) as (λ place. side c (figure_of k place ++ figures board (k + 1) n) ≡ cond (is_of c place && true) 1 0 + count_by (λ s. is_of c (at board s) && is_any s) (range_with_len (k + 1) n)) [
      | None ↦ omega (arith, rest)
      | Some m ↦
          let first : one c (fixed_figure k m) ≡ cond (same_colour c m.colour && true) 1 0 = ap (λ (b : Bool). cond b 1 0) (sym (and-all (same_colour c m.colour))) in
          side-cons c (fixed_figure k m) (figures board (k + 1) n) ∙ ap (λ (x : ℕ). x + side c (figures board (k + 1) n)) first ∙ ap (λ (x : ℕ). cond (same_colour c m.colour && true) 1 0 + x) rest
    ]) ∙ sym all

any-man : (c : Colour) (board : Places) (n k : ℕ) → count_by (λ s. is_of c (at board s)) (range_with_len k n) ≡ count_by (λ s. is_of c (at board s) && is_any s) (range_with_len k n)
any-man c board zero k = refl
any-man c board (suc n) k =
    sum_by-cons (λ s. cond (is_of c (at board s)) 1 0) k (range_with_len (k + 1) n)
    ∙ ap (λ (x : ℕ). cond (is_of c (at board k)) 1 0 + x) (any-man c board n (k + 1))
    ∙ ap (λ (b : Bool). cond b 1 0 + count_by (λ s. is_of c (at board s) && is_any s) (range_with_len (k + 1) n)) (sym (and-all (is_of c (at board k))))
    ∙ sym (sum_by-cons (λ s. cond (is_of c (at board s) && is_any s) 1 0) k (range_with_len (k + 1) n))

few : (o : List Bool) (board : Places) (c : Colour) → men_of c is_any board ≤ men_of c is_any (array_of o) → side c (sketch_of board) ≤ begun o c
unfolding men_of sketch_of
few o board c h =
    let here = men-of c board 64 0 in
    let there = any-man c (array_of o) 64 0 in
    omega (arith, h, here, there)

-- A WALK CAN BEGIN

low-rank : (s : ℕ) (m : Man) → s < 64 → has_low_place (fixed_figure s m) ≡ true
unfolding has_low_place
low-rank s m low = lt-ltb (rank s) 127 (omega (arith, low))

low-all : (board : Places) → list_all has_low_place (sketch_of board) ≡ true
unfolding sketch_of
low-all board = all-each has_low_place board 64 0 (λ s m low high. low-rank s m (omega (arith, high)))

pub root-begins : (o : List Bool) (board : Places) → IsRoot o board → CanBegin o (sketch_of board)
root-begins o board root = record {
  low = low-all board;
  white = few-tells o (sketch_of board) White (few o board White root.white);
  black = few-tells o (sketch_of board) Black (few o board Black root.black);
  apart = apart board;
}
