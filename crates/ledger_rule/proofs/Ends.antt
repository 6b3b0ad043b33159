-- The least over the ways that pass a test, from those that end on one square after another.
use Rattle.std.proofs.Common.{◌≡◌, ℕ, ◌+◌, ◌<◌, ◌≤◌, inl, inr, Bool, true, false, ◌&&◌, min, List, refl, ap, sym, ◌∙◌, arith}
use Rattle.std.proofs.lemmas.Bool.{and_from, and_parts, both_ways, cases_eq, eq-eqb, eqb-true, lt-ltb, ltb-true}
use Rattle.std.specs.Prelude.{nat_lt}
use Rattle.board_base.specs.Board.{rank}
use Rattle.board_base.specs.declared.men.Colour.{Colour}
use Rattle.men_fates.specs.Ways.{way_end}
use Rattle.balance_rule.specs.Costs.{never}
use Rattle.balance_rule.specs.LeastWays.{IsLeast, ends_on, seen_by}
use Rattle.balance_rule.proofs.Leasts.{least-either, least-like, least-none}
use Rattle.balance_rule.proofs.Seen.{end-inside, seen-inside, seen-seen, way-ahead}

-- the ways that end before the square with number i, and pass the test
abbrev pub ends_before : Colour → ℕ → (List ℕ → Bool) → ℕ → List ℕ → Bool
ends_before c h T i way = nat_lt (seen_by c (way_end h way)) i && T way

module _ (set : List Bool) (c : Colour) (h : ℕ) (on_board : h < 64) (T : List ℕ → Bool) (f : List ℕ → ℕ) where
  pub ends-none : 1 ≤ rank (seen_by c h) → IsLeast c set h (ends_before c h T 8) f never
  ends-none second =
      least-none c set h (ends_before c h T 8) f (λ way is passes.
      let low : seen_by c (way_end h way) < 8 = ltb-true _ _ (and_parts (nat_lt (seen_by c (way_end h way)) 8) (T way) passes).0 in
      let up = (way-ahead c set h way on_board is).up in
      omega arith)

  -- the ways to one more square pass
  pub ends-more : (i n m : ℕ) → i < 64 → ((way : List ℕ) → way_end h way ≡ seen_by c i → T way ≡ true) → IsLeast c set h (ends_before c h T i) f n → IsLeast c set h (ends_on h (seen_by c i)) f m → IsLeast c set h (ends_before c h T (i + 1)) f (min m n)
  ends-more i n m inside pass before here =
      least-either c set h (ends_on h (seen_by c i)) (ends_before c h T i) (ends_before c h T (i + 1)) f m n
      (λ way is passes.
      let parts = and_parts (nat_lt (seen_by c (way_end h way)) (i + 1)) (T way) passes in
      let low : seen_by c (way_end h way) < i + 1 = ltb-true _ _ parts.0 in
      elim (cases_eq (seen_by c (way_end h way)) i) [
        | inl same ↦ inl (eq-eqb _ _ (sym (seen-seen c (way_end h way) (end-inside c set h way on_board is)) ∙ ap (seen_by c) same))
        | inr other ↦ inr (and_from _ _ (lt-ltb _ _ (omega arith)) parts.1)
      ])
      (λ way is ends.
      let there : way_end h way ≡ seen_by c i = eqb-true _ _ ends in
      let number : seen_by c (way_end h way) ≡ i = ap (seen_by c) there ∙ seen-seen c i inside in
      and_from _ _ (lt-ltb _ _ (omega arith)) (pass way there))
      (λ way is passes.
      let parts = and_parts (nat_lt (seen_by c (way_end h way)) i) (T way) passes in
      let low : seen_by c (way_end h way) < i = ltb-true _ _ parts.0 in
      and_from _ _ (lt-ltb _ _ (omega arith)) parts.1) here before

  -- they don't
  pub ends-same : (i n : ℕ) → i < 64 → ((way : List ℕ) → way_end h way ≡ seen_by c i → T way ≡ false) → IsLeast c set h (ends_before c h T i) f n → IsLeast c set h (ends_before c h T (i + 1)) f n
  ends-same i n inside fail before =
      least-like c set h (ends_before c h T i) (ends_before c h T (i + 1)) f f n
      (λ way is passes.
      let parts = and_parts (nat_lt (seen_by c (way_end h way)) (i + 1)) (T way) passes in
      let low : seen_by c (way_end h way) < i + 1 = ltb-true _ _ parts.0 in
      elim (cases_eq (seen_by c (way_end h way)) i) [
        | inl same ↦
            let there : way_end h way ≡ seen_by c i = sym (seen-seen c (way_end h way) (end-inside c set h way on_board is)) ∙ ap (seen_by c) same in
            absurd (both_ways (T way) (fail way there) parts.1)
        | inr other ↦ and_from _ _ (lt-ltb _ _ (omega arith)) parts.1
      ])
      (λ way is passes.
      let parts = and_parts (nat_lt (seen_by c (way_end h way)) i) (T way) passes in
      let low : seen_by c (way_end h way) < i = ltb-true _ _ parts.0 in
      (and_from _ _ (lt-ltb _ _ (omega arith)) parts.1, refl)) before

  pub ends-all : (i n : ℕ) → 64 ≤ i → IsLeast c set h (ends_before c h T i) f n → IsLeast c set h T f n
  ends-all i n past before =
      least-like c set h (ends_before c h T i) T f f n
      (λ way is passes.
      let inside : seen_by c (way_end h way) < 64 = seen-inside c (way_end h way) (end-inside c set h way on_board is) in
      and_from _ _ (lt-ltb _ _ (omega arith)) passes)
      (λ way is passes. ((and_parts (nat_lt (seen_by c (way_end h way)) i) (T way) passes).1, refl)) before
