-- The array without the men of a set of squares, made square by square.
use Rattle.std.proofs.Common.{◌≡◌, ℕ, ◌+◌, ◌<◌, ◌≤◌, Bool, cond, List, length, sym, ap, ◌∙◌, arith, below_more, get_or-set_same, get_or-set_other, length-set}
use Rattle.std.proofs.lemmas.List.{ext_get_or}
use Rattle.std.specs.Prelude.{Option, None, slice_set}
use Rattle.board_base.specs.Board.{Places, array_of, at, initial_array, is_in, no_odds}
use Rattle.board_base.specs.declared.men.Man.{Man}
use Rattle.board_base.proofs.Without.{at-without, in-none, length-array}

-- the squares before i have what the array without the men of the set has, and the others what the whole array has
pub record LeftOut (o : List Bool) (board : Places) (i : ℕ) : Type 0 where
  pub size : length board ≡ 64
  pub done : (s : ℕ) → s < i → at board s ≡ at (array_of o) s
  pub rest : (s : ℕ) → i ≤ s → at board s ≡ at initial_array s

array-at : (o : List Bool) (s : ℕ) → at (array_of o) s ≡ cond (is_in o s) None (at initial_array s)
unfolding array_of
array-at o s = at-without o initial_array s

-- nobody is left out where there are no odds
pub whole-array : (s : ℕ) → at (array_of no_odds) s ≡ at initial_array s
whole-array s = array-at no_odds s ∙ ap (λ (b : Bool). cond b None (at initial_array s)) (in-none 64 s)

pub left-start : (o : List Bool) (board : Places) → board ≡ array_of no_odds → LeftOut o board 0
left-start o board e = record {
  size = ap (λ (b : Places). length b) e ∙ length-array no_odds;
  done = λ s low. absurd (omega (arith, low));
  rest = λ s high. ap (λ (b : Places). at b s) e ∙ whole-array s;
}

pub left-one : (o : List Bool) (board : Places) (i : ℕ) → i < 64 → LeftOut o board i → LeftOut o (slice_set board i (cond (is_in o i) None (at board i))) (i + 1)
left-one o board i small h =
    let inside : i < length board = omega (arith, h.size) in
    let place : Option Man = cond (is_in o i) None (at board i) in
    record {
      size = length-set board i place ∙ h.size;
      done = below_more _ _
          (λ s low. let other : s ≡ i → ⊥ = omega arith in get_or-set_other board i s place None other ∙ h.done s low)
          (get_or-set_same board i place None inside ∙ ap (λ (p : Option Man). cond (is_in o i) None p) (h.rest i (omega arith)) ∙ sym (array-at o i));
      rest = λ s high. let other : s ≡ i → ⊥ = omega arith in get_or-set_other board i s place None other ∙ h.rest s (omega arith);
    }

pub left-all : (o : List Bool) (board : Places) (i : ℕ) → 64 ≤ i → LeftOut o board i → board ≡ array_of o
left-all o board i past h = ext_get_or None board (array_of o) (h.size ∙ sym (length-array o)) (λ s low. let small : s < i = omega (arith, h.size) in h.done s small)
