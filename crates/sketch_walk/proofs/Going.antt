-- A step that its squares forbid is none.
use Rattle.std.proofs.Common.{◌≡◌, ℕ, ◌==◌, inl, inr, Bool, true, false, cond, ◌&&◌, ◌||◌, not, List, ap, sym, ◌∙◌}
use Rattle.std.proofs.lemmas.Bool.{and_from, and_parts, both_ways, eqb-true, false_from_ne_true, or_cases, or_left, or_right}
use Rattle.std.specs.Prelude.{Option, Some}
use Rattle.board_base.specs.Attacks.{distance, files_apart}
use Rattle.board_base.specs.Board.{file, is_in, rank}
use Rattle.board_base.specs.Play.{en_passant_rank}
use Rattle.board_base.specs.declared.men.Colour.{Colour}
use Rattle.board_base.specs.declared.men.Colour.TheVariants.{White, Black}
use Rattle.figures.specs.Figures.{Figure, Sketch, figure_at}
use Rattle.figures.specs.Steps.{Step, is_step, made_by, may_have_gone, may_have_made, passes, takes}
use Rattle.sketch_list.specs.Listed.{Listed, is_passed, kind_taken, step_for}
use Rattle.sketch_list.specs.declared.steps.Victim.{Victim}
use Rattle.sketch_list.specs.declared.steps.Victim.TheVariants.{Nobody, TakenPawn, TakenBishop, TakenOther, PassedPawn}
use Rattle.sketch_walk.specs.Goings.{goes_as, is_passing_rank, may_go}

passing-rank : (c : Colour) (s : ℕ) → (rank s == en_passant_rank c) ≡ true → is_passing_rank c s ≡ true
unfolding is_passing_rank distance
passing-rank White s h = ap (λ (n : ℕ). distance n 7 == 3) (eqb-true (rank s) 4 h)
passing-rank Black s h = ap (λ (n : ℕ). distance n 0 == 3) (eqb-true (rank s) 3 h)

captures-goes : (c : Colour) (s t : ℕ) (v : Victim) → cond (is_passed v) (passes c s t (kind_taken v)) (takes c s t (kind_taken v)) ≡ true → goes_as c s t v ≡ true
unfolding goes_as
captures-goes c s t Nobody h = h
captures-goes c s t TakenPawn h = (and_parts _ _ (and_parts _ _ h).0).0
captures-goes c s t TakenBishop h = (and_parts _ _ (and_parts _ _ h).0).0
captures-goes c s t TakenOther h = (and_parts _ _ (and_parts _ _ h).0).0
captures-goes c s t PassedPawn h =
    let parts = and_parts (files_apart s t == 1) (rank s == en_passant_rank c) (and_parts _ _ h).0 in
    and_from (files_apart s t == 1) (is_passing_rank c s) parts.0 (passing-rank c s parts.1)

made-goes : (exact : List Bool) (T : Sketch) (f : Figure) (y : Listed) → may_have_made T f (step_for T f y) ≡ true → may_go exact f y ≡ true
unfolding step_for may_go
made-goes exact T f y h =
    let all = and_parts _ _ h in
    let way = and_parts _ _ all.0 in
    let first = and_parts _ _ (and_parts _ _ (and_parts _ _ way.0).0).0 in
    or_right (is_in exact (file y.from)) (not f.marked && goes_as f.colour y.from y.to y.victim) (and_from (not f.marked) (goes_as f.colour y.from y.to y.victim) first.0 (captures-goes f.colour y.from y.to y.victim way.1))

gone-goes : (exact : List Bool) (T : Sketch) (f : Figure) (y : Listed) → may_have_gone exact T f (step_for T f y) ≡ true → may_go exact f y ≡ true
unfolding step_for may_go
gone-goes exact T f y h =
    let first = and_parts _ _ (and_parts _ _ (and_parts _ _ (and_parts _ _ (and_parts _ _ h).0).0).0).0 in
    or_left (is_in exact (file y.from)) (not f.marked && goes_as f.colour y.from y.to y.victim) first.0

made-by : (exact : List Bool) (T : Sketch) (f : Figure) (x : Step) (found : Option Figure) → found ≡ Some f → made_by exact T found x ≡ (may_have_made T f x || may_have_gone exact T f x)
made-by exact T f x found e = ap (λ (o : Option Figure). made_by exact T o x) e

step-found : (T : Sketch) (f : Figure) (y : Listed) → figure_at T y.by ≡ Some f → figure_at T (step_for T f y).by ≡ Some f
unfolding step_for
step-found T f y e = e

pub never-step : (exact : List Bool) (T : Sketch) (f : Figure) (y : Listed) → figure_at T y.by ≡ Some f → may_go exact f y ≡ false → is_step exact T (step_for T f y) ≡ false
unfolding is_step
never-step exact T f y found off = false_from_ne_true _ (λ h. elim (or_cases (may_have_made T f (step_for T f y)) (may_have_gone exact T f (step_for T f y)) (sym (made-by exact T f (step_for T f y) (figure_at T (step_for T f y).by) (step-found T f y found)) ∙ h)) [
  | inl made ↦ both_ways _ off (made-goes exact T f y made)
  | inr gone ↦ both_ways _ off (gone-goes exact T f y gone)
])

-- how many pawns are above doesn't matter
pub still-off : (exact : List Bool) (f : Figure) (y : Listed) (n : ℕ) → may_go exact f y ≡ false → may_go exact f (record y { above = n }) ≡ false
unfolding may_go
still-off exact f y n off = off

-- test by test
pub may-exact : (exact : List Bool) (f : Figure) (y : Listed) → is_in exact (file y.from) ≡ true → true ≡ may_go exact f y
unfolding may_go
may-exact exact f y on = sym (ap (λ (b : Bool). b || (not f.marked && goes_as f.colour y.from y.to y.victim)) on)

pub may-marked : (exact : List Bool) (f : Figure) (y : Listed) → is_in exact (file y.from) ≡ false → f.marked ≡ true → false ≡ may_go exact f y
unfolding may_go
may-marked exact f y off marked = sym (ap (λ (b : Bool). b || (not f.marked && goes_as f.colour y.from y.to y.victim)) off ∙ ap (λ (b : Bool). not b && goes_as f.colour y.from y.to y.victim) marked)

pub may-other : (exact : List Bool) (f : Figure) (y : Listed) → is_in exact (file y.from) ≡ false → f.marked ≡ false → goes_as f.colour y.from y.to y.victim ≡ may_go exact f y
unfolding may_go
may-other exact f y off free = sym (ap (λ (b : Bool). b || (not f.marked && goes_as f.colour y.from y.to y.victim)) off ∙ ap (λ (b : Bool). not b && goes_as f.colour y.from y.to y.victim) free)
