-- The sketch before a step has values.
use Rattle.std.proofs.Common.{◌≡◌, ℕ, ◌+◌, ◌<◌, ◌==◌, inl, inr, Bool, true, false, cond, ◌&&◌, ◌||◌, not, List, length, refl, ap, ◌∙◌, arith}
use Rattle.std.proofs.lemmas.Bool.{and_parts, both_ways, eqb-true, ltb-true, not-true, or_cases, or_left, or_right}
use Rattle.std.specs.Prelude.{Option, Some, is_none, nat_lt}
use Rattle.std.specs.List.{list_all}
use Rattle.board_base.specs.Attacks.{files_apart, one_ahead}
use Rattle.board_base.specs.Board.{opponent, rank}
use Rattle.board_base.specs.Play.{ahead, en_passant_rank}
use Rattle.board_base.specs.declared.men.Colour.{Colour}
use Rattle.board_base.specs.declared.men.Colour.TheVariants.{White, Black}
use Rattle.board_base.specs.declared.men.Kind.{Kind}
use Rattle.figures.specs.Figures.{Figure, Sketch, figure_at}
use Rattle.figures.specs.Steps.{Step, is_step, passes, takes}
use Rattle.sketch_steps.specs.Places.{has_low_place}
use Rattle.sketch_list.specs.Listed.{is_short, may_take, victims_as}
use Rattle.sketch_list.specs.declared.steps.Victim.{Victim}
use Rattle.sketch_list.specs.declared.steps.Victim.TheVariants.{Nobody, TakenPawn, TakenBishop, TakenOther, PassedPawn}
use Rattle.sketch_list.proofs.Listing.{by-told, inside-told}
use Rattle.sketch_walk.specs.Values.{can_step_back}
use Rattle.sketch_walk.specs.Shorts.{AreShort, has_room, of_side, takes_so}
use Rattle.sketch_walk.specs.declared.shorts.Shorts.{Shorts}

side-told : (o : List Bool) (T : Sketch) (s : Shorts) (c : Colour) → AreShort o T s → of_side s c ≡ is_short o T c
side-told o T s White are = are.white
side-told o T s Black are = are.black

pub takes-told : (o : List Bool) (T : Sketch) (s : Shorts) (f : Figure) (v : Victim) → AreShort o T s → takes_so s f v ≡ may_take o T f v
takes-told o T s f Nobody are = refl
takes-told o T s f TakenPawn are = side-told o T s (opponent f.colour) are
takes-told o T s f TakenBishop are = side-told o T s (opponent f.colour) are
takes-told o T s f TakenOther are = side-told o T s (opponent f.colour) are
takes-told o T s f PassedPawn are = side-told o T s (opponent f.colour) are

some-side : (s : Shorts) (c : Colour) → of_side s c ≡ true → (s.white || s.black) ≡ true
some-side s White h = or_left s.white s.black h
some-side s Black h = or_right s.white s.black h

fewer : (s : Shorts) (T : Sketch) (c : Colour) → has_room s T ≡ true → of_side s c ≡ true → length T < 32
unfolding has_room
fewer s T c room short = elim (or_cases (nat_lt (length T) 32) (not (s.white || s.black)) room) [
  | inl few ↦ ltb-true (length T) 32 few
  | inr none ↦ absurd (both_ways (s.white || s.black) (not-true _ none) (some-side s c short))
]

-- there is room for the victim
pub victim-fits : (s : Shorts) (T : Sketch) (f : Figure) (t : ℕ) (v : Victim) → has_room s T ≡ true → length T < 33 → takes_so s f v ≡ true → length T + length (victims_as f t v) < 33
victim-fits s T f t Nobody room few takes' = omega arith
victim-fits s T f t TakenPawn room few takes' = let less = fewer s T (opponent f.colour) room takes' in omega (arith, less)
victim-fits s T f t TakenBishop room few takes' = let less = fewer s T (opponent f.colour) room takes' in omega (arith, less)
victim-fits s T f t TakenOther room few takes' = let less = fewer s T (opponent f.colour) room takes' in omega (arith, less)
victim-fits s T f t PassedPawn room few takes' = let less = fewer s T (opponent f.colour) room takes' in omega (arith, less)

-- the pawn taken en passant came from a square of the board
ahead-on : (c : Colour) (s t : ℕ) → s < 64 → t < 64 → one_ahead c s t ≡ true → (rank s == en_passant_rank c) ≡ true → ahead c t < 64
ahead-on White s t si ti up fifth = let a = eqb-true _ _ up in let b = eqb-true _ _ fifth in omega (arith, a, b)
ahead-on Black s t si ti up fourth = omega arith

passing-rank : (c : Colour) (s t : ℕ) (b : Bool) (k : Option Kind) → b ≡ true → cond b (passes c s t k) (takes c s t k) ≡ true → (rank s == en_passant_rank c) ≡ true
passing-rank c s t true k e h = (and_parts (files_apart s t == 1) (rank s == en_passant_rank c) (and_parts _ (is_none k) h).0).1
passing-rank c s t false k e h = absurd (both_ways false refl e)

pub passed-home : (exact : List Bool) (T : Sketch) (f : Figure) (x : Step) → figure_at T x.by ≡ Some f → is_step exact T x ≡ true → x.passing ≡ true → ahead f.colour x.to < 64
passed-home exact T f x found h passing =
    let by = by-told exact T x f found h in
    let on = inside-told exact T f x by in
    elim by [
      | inl m ↦ ahead-on f.colour x.from x.to on.1 on.0 m.up (passing-rank f.colour x.from x.to x.passing x.taken passing m.deed)
      | inr g ↦ absurd (both_ways x.passing g.plain passing)
    ]

-- what is asked of the sketch
pub back-told : (o : List Bool) (T : Sketch) (s : Shorts) (low room : Bool) → AreShort o T s → low ≡ list_all has_low_place T → room ≡ has_room s T → (low && room) ≡ can_step_back o T
unfolding can_step_back has_room
back-told o T s low room are a b =
    ap (λ (x : Bool). x && room) a
    ∙ ap (λ (x : Bool). list_all has_low_place T && x) (b ∙ ap (λ (x : Bool). nat_lt (length T) 32 || not (x || s.black)) are.white ∙ ap (λ (x : Bool). nat_lt (length T) 32 || not (is_short o T White || x)) are.black)

pub back-parts : (o : List Bool) (T : Sketch) (s : Shorts) → AreShort o T s → can_step_back o T ≡ true → (list_all has_low_place T ≡ true) × (has_room s T ≡ true)
back-parts o T s are h = and_parts (list_all has_low_place T) (has_room s T) (back-told o T s (list_all has_low_place T) (has_room s T) are refl refl ∙ h)
