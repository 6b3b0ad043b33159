-- The least of some numbers, one after another.
use Rattle.std.proofs.Common.{◌≡◌, ℕ, suc, ◌+◌, ◌-◌, ◌<◌, ◌≤◌, map, ap, sym, ◌∙◌, arith}
use Rattle.std.specs.Prelude.{min}
use Rattle.std.specs.List.{range_with_len}
use Rattle.board_base.specs.declared.men.Colour.{Colour}
use Rattle.board_base.specs.declared.men.Kind.{Kind}
use Rattle.length_bound.specs.MoveCosts.{steps, pawn_way, least, promotion_square, promoted_way}
use Rattle.length_bound.proofs.OneMan.{least-most}

-- the moves by way of the promotion square on this file
abbrev pub way_by : Colour → Kind → ℕ → ℕ → ℕ → ℕ
way_by c k h s f = pawn_way c h (promotion_square c f) + steps k (promotion_square c f) s

-- with the least of the first i, the least of the others is the least of all
pub record IsLeastOf (c : Colour) (k : Kind) (h s i acc : ℕ) : Type 0 where
  pub whole : min acc (least (map (way_by c k h s) (range_with_len i (8 - i)))) ≡ promoted_way c k h s
  pub small : acc ≤ 64

min-high : (x : ℕ) → x ≤ 64 → min 64 x ≡ x
min-high x h = omega arith

min-turned : (a b c : ℕ) → min (min b a) c ≡ min a (min b c)
min-turned a b c = omega arith

pub least-first : (c : Colour) (k : Kind) (h s : ℕ) → IsLeastOf c k h s 0 64
unfolding promoted_way
least-first c k h s = record {
  whole = min-high _ (least-most (map (way_by c k h s) (range_with_len 0 8)));
  small = omega arith;
}

small-min : (a b n : ℕ) → b ≤ n → min a b ≤ n
small-min a b n h = omega arith

pub least-next : (c : Colour) (k : Kind) (h s i acc new : ℕ) → IsLeastOf c k h s i acc → i < 8 → new ≡ min (way_by c k h s i) acc → IsLeastOf c k h s (i + 1) new
least-next c k h s i acc new before inside is = record {
  whole =
      let e : 8 - i ≡ suc (8 - (i + 1)) = omega arith in
      let rest : ℕ = least (map (way_by c k h s) (range_with_len (i + 1) (8 - (i + 1)))) in
      ap (λ (n : ℕ). min n rest) is ∙ min-turned acc (way_by c k h s i) rest ∙ sym (ap (λ (n : ℕ). min acc (least (map (way_by c k h s) (range_with_len i n)))) e) ∙ before.whole;
  small = omega (arith, is, small-min (way_by c k h s i) acc 64 before.small);
}

pub least-end : (c : Colour) (k : Kind) (h s i acc : ℕ) → IsLeastOf c k h s i acc → 8 ≤ i → acc ≡ promoted_way c k h s
least-end c k h s i acc before past =
    let e : 8 - i ≡ 0 = omega arith in
    let all : min acc 64 ≡ promoted_way c k h s = sym (ap (λ (n : ℕ). min acc (least (map (way_by c k h s) (range_with_len i n)))) e) ∙ before.whole in
    omega (arith, all, before.small)
