-- The least zone of a pawn, closed back step by step.
use Rattle.std.proofs.Common.{◌≡◌, ℕ, ◌-◌, ◌<◌, ◌≤◌, ◌==◌, inl, inr, Bool, true, false, cond, ◌&&◌, ◌||◌, not, List, length, refl, ap, sym, ◌∙◌, subst, arith}
use Rattle.std.proofs.lemmas.Bool.{and_parts, and_from, or_cases, or_left, or_right, agree_below_at, cases_Bool, eqb-true, lt-ltb, ltb-true, not-true, not_from_false, both_ways}
use Rattle.std.specs.Prelude.{nat_lt}
use Rattle.std.specs.List.{list_all}
use Rattle.general_lemmas.proofs.Rounds.{count, count-le, fewer}
use Rattle.general_lemmas.proofs.Truth.{same_truth}
use Rattle.board_base.specs.Board.{file, is_in, opponent, same_kind}
use Rattle.board_base.specs.Attacks.{files_apart, one_ahead}
use Rattle.board_base.specs.Squares.{squares_of}
use Rattle.board_base.specs.declared.men.Colour.{Colour}
use Rattle.board_base.specs.declared.men.Colour.TheVariants.{White, Black}
use Rattle.board_base.specs.declared.men.Kind.TheVariants.{Pawn}
use Rattle.board_base.proofs.Ways.{zero-apart}
use Rattle.play_rules.specs.Laws.{is_end}
use Rattle.play_rules.specs.Reach.{IsWithin}
use Rattle.cage_rules.specs.Frozen.{is_behind}
use Rattle.cage_rules.specs.Sets.{squares_that, union}
use Rattle.cage_rules.specs.Steps.{is_ahead, is_near, near}
use Rattle.cage_rules.specs.SetSteps.{both, outside}
use Rattle.cage_rules.proofs.Filling.{in-that, is_in-that, length-that}
use Rattle.cage_rules.proofs.SetAlgebra.{is_in-both, is_in-outside, is_in-union, length-union, that-is}
use Rattle.cage_rules.proofs.Tested.{member-inside}
use Rattle.past_account.specs.Ways.{is_pawn_step}
use Rattle.figures.specs.Figures.{Figure}
use Rattle.sketch_grounds.specs.Backed.{is_backed, is_from}
use Rattle.past_account.specs.Zones.{IsZone, goes_on, may_hold}
use Rattle.cage_rules.proofs.Near.{near-tells, near-told}

pub ends-is : (s : ℕ) → s < 64 → is_in (squares_of 18374686479671623935) s ≡ is_end s
unfolding squares_of
ends-is s inside = agree_below_at (is_in (squares_of 18374686479671623935)) is_end 64 s refl inside

one-back : (c : Colour) (z t : ℕ) → one_ahead (opponent c) t z ≡ one_ahead c z t
one-back White z t = refl
one-back Black z t = refl

-- as the figure's pawn goes from z to t
abbrev pub is_on : Figure → ℕ → ℕ → Bool
is_on f z t = one_ahead f.colour z t && nat_lt (files_apart z t) 2 && (not f.marked || (file z == file t))

ahead-on : (f : Figure) (z t : ℕ) → f.marked ≡ true → is_ahead (opponent f.colour) z t ≡ is_on f z t
ahead-on f z t marked = same_truth (is_ahead (opponent f.colour) z t) (is_on f z t)
    (λ h.
    let parts = and_parts (file z == file t) (one_ahead (opponent f.colour) t z) h in
    let same : file z ≡ file t = eqb-true _ _ parts.0 in
    let none : files_apart z t ≡ 0 = zero-apart _ _ same in
    and_from _ _ (and_from _ _ (sym (one-back f.colour z t) ∙ parts.1) (lt-ltb (files_apart z t) 2 (omega arith))) (or_right (not f.marked) (file z == file t) parts.0))
    (λ h.
    let parts = and_parts (one_ahead f.colour z t && nat_lt (files_apart z t) 2) (not f.marked || (file z == file t)) h in
    and_from _ _ (elim (or_cases (not f.marked) (file z == file t) parts.1) [
      | inl un ↦ absurd (both_ways _ (not-true f.marked un) marked)
      | inr same ↦ same
    ]) (one-back f.colour z t ∙ (and_parts (one_ahead f.colour z t) (nat_lt (files_apart z t) 2) parts.0).0))

behind-on : (f : Figure) (z t : ℕ) → f.marked ≡ false → is_behind (opponent f.colour) z t ≡ is_on f z t
behind-on f z t un = same_truth (is_behind (opponent f.colour) z t) (is_on f z t)
    (λ h.
    let parts = and_parts (one_ahead (opponent f.colour) t z) (nat_lt (files_apart z t) 2) h in
    and_from _ _ (and_from _ _ (sym (one-back f.colour z t) ∙ parts.0) parts.1) (or_left (not f.marked) (file z == file t) (not_from_false f.marked un)))
    (λ h.
    let parts = and_parts (one_ahead f.colour z t && nat_lt (files_apart z t) 2) (not f.marked || (file z == file t)) h in
    let two = and_parts (one_ahead f.colour z t) (nat_lt (files_apart z t) 2) parts.0 in
    and_from _ _ (one-back f.colour z t ∙ two.0) two.1)

from-on : (f : Figure) (from : List Bool) (z : ℕ) → is_from f from z ≡ is_near (is_on f) from z
from-on f from z = elim (cases_Bool f.marked) [
  | inl marked ↦
      ap (λ (b : Bool). cond b (is_near (is_ahead (opponent f.colour)) from z) (is_near (is_behind (opponent f.colour)) from z)) marked
      ∙ same_truth _ _
      (λ h. let x = near-told (is_ahead (opponent f.colour)) from z h in near-tells (is_on f) from z (record { square = x.square; inside = x.inside; placed = sym (ahead-on f z x.square marked) ∙ x.placed; member = x.member }))
      (λ h. let x = near-told (is_on f) from z h in near-tells (is_ahead (opponent f.colour)) from z (record { square = x.square; inside = x.inside; placed = ahead-on f z x.square marked ∙ x.placed; member = x.member }))
  | inr un ↦
      ap (λ (b : Bool). cond b (is_near (is_ahead (opponent f.colour)) from z) (is_near (is_behind (opponent f.colour)) from z)) un
      ∙ same_truth _ _
      (λ h. let x = near-told (is_behind (opponent f.colour)) from z h in near-tells (is_on f) from z (record { square = x.square; inside = x.inside; placed = sym (behind-on f z x.square un) ∙ x.placed; member = x.member }))
      (λ h. let x = near-told (is_on f) from z h in near-tells (is_behind (opponent f.colour)) from z (record { square = x.square; inside = x.inside; placed = behind-on f z x.square un ∙ x.placed; member = x.member }))
]

-- a source that the pawn may have come from
pub back-goes : (wall : List Bool) (f : Figure) (within : List Bool) (z : ℕ) → z < 64 → (is_from f (both within (outside wall)) z && not (is_end z || is_in wall z)) ≡ is_near (goes_on wall f) within z
back-goes wall f within z inside = same_truth _ _
    (λ h.
    let parts = and_parts (is_from f (both within (outside wall)) z) (not (is_end z || is_in wall z)) h in
    let x = near-told (is_on f) (both within (outside wall)) z (sym (from-on f (both within (outside wall)) z) ∙ parts.0) in
    let t : ℕ = x.square in
    let there = and_parts (is_in within t) (is_in (outside wall) t) (sym (is_in-both within (outside wall) t x.inside) ∙ x.member) in
    let out : not (is_in wall t) ≡ true = sym (is_in-outside wall t x.inside) ∙ there.1 in
    let way = and_parts (one_ahead f.colour z t && nat_lt (files_apart z t) 2) (not f.marked || (file z == file t)) x.placed in
    near-tells (goes_on wall f) within z (record {
      square = t;
      inside = x.inside;
      placed = and_from _ _ (and_from _ _ (and_from _ _ (lt-ltb z 64 inside) parts.1) (and_from _ _ (and_from _ _ way.0 (lt-ltb t 64 x.inside)) out)) way.1;
      member = there.0;
    }))
    (λ h.
    let x = near-told (goes_on wall f) within z h in
    let t : ℕ = x.square in
    let parts = and_parts (may_hold wall z && is_pawn_step f.colour wall z t) (not f.marked || (file z == file t)) x.placed in
    let two = and_parts (may_hold wall z) (is_pawn_step f.colour wall z t) parts.0 in
    let step = and_parts (one_ahead f.colour z t && nat_lt (files_apart z t) 2 && nat_lt t 64) (not (is_in wall t)) two.1 in
    let way = and_parts (one_ahead f.colour z t && nat_lt (files_apart z t) 2) (nat_lt t 64) step.0 in
    and_from _ _ (from-on f (both within (outside wall)) z ∙ near-tells (is_on f) (both within (outside wall)) z (record {
      square = t;
      inside = x.inside;
      placed = and_from _ _ way.0 parts.1;
      member = is_in-both within (outside wall) t x.inside ∙ and_from _ _ x.member (is_in-outside wall t x.inside ∙ step.1);
    })) (and_parts (nat_lt z 64) (not (is_end z || is_in wall z)) two.0).1)

pub backed-made : (wall : List Bool) (f : Figure) (within shut : List Bool) → shut ≡ union (squares_of 18374686479671623935) wall → union within (both (squares_that (is_from f (both within (outside wall)))) (outside shut)) ≡ squares_that (is_backed wall f within)
backed-made wall f within shut e =
    let from : List Bool = both within (outside wall) in
    that-is (is_backed wall f within) (union within (both (squares_that (is_from f from)) (outside shut))) (length-union within (both (squares_that (is_from f from)) (outside shut))) (λ z inside.
    is_in-union within (both (squares_that (is_from f from)) (outside shut)) z inside
    ∙ ap (λ (b : Bool). is_in within z || b)
    (is_in-both (squares_that (is_from f from)) (outside shut) z inside
    ∙ ap (λ (b : Bool). b && is_in (outside shut) z) (is_in-that (is_from f from) z inside)
    ∙ ap (λ (b : Bool). is_from f from z && b) (is_in-outside shut z inside ∙ ap not (ap (λ (l : List Bool). is_in l z) e ∙ is_in-union (squares_of 18374686479671623935) wall z inside ∙ ap (λ (b : Bool). b || is_in wall z) (ends-is z inside)))
    ∙ back-goes wall f within z inside))

-- what is known of a set on the way to the least zone
pub record Growing (wall : List Bool) (f : Figure) (within : List Bool) : Type 0 where
  pub size : length within ≡ 64
  pub squares : IsWithin f.squares within
  pub least : (zone : List Bool) → IsZone wall f zone → IsWithin within zone

pub growing-start : (wall : List Bool) (f : Figure) → length f.squares ≡ 64 → Growing wall f f.squares
growing-start wall f size = record { size = size; squares = λ s member. member; least = λ zone is. is.squares }

more-has : (wall : List Bool) (f : Figure) (within : List Bool) → length within ≡ 64 → IsWithin within (squares_that (is_backed wall f within))
more-has wall f within size s member = is_in-that (is_backed wall f within) s (member-inside within s size member) ∙ or_left (is_in within s) (is_near (goes_on wall f) within s) member

pub growing-more : (wall : List Bool) (f : Figure) (within more : List Bool) → more ≡ squares_that (is_backed wall f within) → Growing wall f within → Growing wall f more
growing-more wall f within more e was = subst (Growing wall f) (sym e) (record {
  size = length-that (is_backed wall f within);
  squares = λ s member. more-has wall f within was.size s (was.squares s member);
  least = λ zone is s member.
      let here = in-that (is_backed wall f within) s member in
      elim (or_cases (is_in within s) (is_near (goes_on wall f) within s) here.1) [
        | inl before ↦ was.least zone is s before
        | inr new ↦ let x = near-told (goes_on wall f) within s new in is.closed s x.square (was.least zone is x.square x.member) x.placed
      ];
})

pub growing-less : (wall : List Bool) (f : Figure) (within more : List Bool) → more ≡ squares_that (is_backed wall f within) → (more ≡ within → ⊥) → Growing wall f within → 64 - count more < 64 - count within
growing-less wall f within more e changed was =
    let size : length more ≡ 64 = ap length e ∙ length-that (is_backed wall f within) in
    elim (fewer within more (was.size ∙ sym size) (λ s member. ap (λ (l : List Bool). is_in l s) e ∙ more-has wall f within was.size s member)) [
      | inl same ↦ absurd (changed (sym same))
      | inr less ↦ let all : count more ≤ length more = count-le more in omega arith
    ]

pub goes-inside : (wall : List Bool) (f : Figure) (z t : ℕ) → goes_on wall f z t ≡ true → (z < 64) × (t < 64)
goes-inside wall f z t h =
    let parts = and_parts (may_hold wall z && is_pawn_step f.colour wall z t) (not f.marked || (file z == file t)) h in
    let two = and_parts (may_hold wall z) (is_pawn_step f.colour wall z t) parts.0 in
    let step = and_parts (one_ahead f.colour z t && nat_lt (files_apart z t) 2 && nat_lt t 64) (not (is_in wall t)) two.1 in
    (ltb-true z 64 (and_parts (nat_lt z 64) (not (is_end z || is_in wall z)) two.0).0, ltb-true t 64 (and_parts (one_ahead f.colour z t && nat_lt (files_apart z t) 2) (nat_lt t 64) step.0).1)

pub growing-end : (wall : List Bool) (f : Figure) (within more : List Bool) → list_all (same_kind Pawn) f.kinds ≡ true → more ≡ squares_that (is_backed wall f within) → more ≡ within → Growing wall f within → IsZone wall f within
growing-end wall f within more pawn e fixed was = record {
  pawn = pawn;
  squares = was.squares;
  closed = λ z t member goes.
      let inside = goes-inside wall f z t goes in
      ap (λ (l : List Bool). is_in l z) (sym fixed ∙ e) ∙ is_in-that (is_backed wall f within) z inside.0
      ∙ or_right (is_in within z) (is_near (goes_on wall f) within z) (near-tells (goes_on wall f) within z (record { square = t; inside = inside.1; placed = goes; member = member }));
}

pub near-marked : (f : Figure) (from : List Bool) → f.marked ≡ true → near (is_ahead (opponent f.colour)) from ≡ squares_that (is_from f from)
unfolding near
near-marked f from marked = ap (λ (b : Bool). squares_that (λ z. cond b (is_near (is_ahead (opponent f.colour)) from z) (is_near (is_behind (opponent f.colour)) from z))) (sym marked)

pub near-unmarked : (f : Figure) (from : List Bool) → f.marked ≡ false → near (is_behind (opponent f.colour)) from ≡ squares_that (is_from f from)
unfolding near
near-unmarked f from un = ap (λ (b : Bool). squares_that (λ z. cond b (is_near (is_ahead (opponent f.colour)) from z) (is_near (is_behind (opponent f.colour)) from z))) (sym un)
