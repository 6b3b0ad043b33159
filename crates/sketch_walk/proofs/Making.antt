-- Steps, and what stood before them, put together.
use Rattle.std.proofs.Common.{◌≡◌, ℕ, Bool, true, false, ◌&&◌, ◌++◌, refl, ap, ◌∙◌}
use Rattle.std.proofs.lemmas.Bool.{and_parts, both_ways}
use Rattle.std.specs.Prelude.{Option}
use Rattle.board_base.specs.declared.men.Colour.{Colour}
use Rattle.board_base.specs.declared.men.Kind.{Kind}
use Rattle.figures.specs.Figures.{Figure, Sketch, each_changed}
use Rattle.figures.specs.Steps.{Step, changed_by}
use Rattle.sketch_steps.specs.Places.{recounted}
use Rattle.sketch_sets.specs.TrimmedOut.{trimmed_out}
use Rattle.sketch_list.specs.Listed.{Listed, figures_before, is_passed, kind_taken, place_before, sketch_before, step_for, victims_as}

made : ℕ → ℕ → ℕ → Option Kind → Bool → ℕ → Step
made i s t k p n = record { by = i; from = s; to = t; taken = k; passing = p; place = n }

pub step-made : (T : Sketch) (f : Figure) (y : Listed) (k : Option Kind) (p : Bool) (n : ℕ) → k ≡ kind_taken y.victim → p ≡ is_passed y.victim → n ≡ place_before T f y → record { by = y.by; from = y.from; to = y.to; taken = k; passing = p; place = n } ≡ step_for T f y
unfolding step_for made
step-made T f y k p n a b d =
    ap (λ (x : Option Kind). made y.by y.from y.to x p n) a ∙ ap (λ (x : Bool). made y.by y.from y.to (kind_taken y.victim) x n) b ∙ ap (λ (x : ℕ). made y.by y.from y.to (kind_taken y.victim) (is_passed y.victim) x) d

pub step-passing : (T : Sketch) (f : Figure) (y : Listed) → (step_for T f y).passing ≡ is_passed y.victim
unfolding step_for
step-passing T f y = refl

pub step-by : (T : Sketch) (f : Figure) (y : Listed) → (step_for T f y).by ≡ y.by
unfolding step_for
step-by T f y = refl

pub step-to : (T : Sketch) (f : Figure) (y : Listed) → (step_for T f y).to ≡ y.to
unfolding step_for
step-to T f y = refl

pub before-made : (T : Sketch) (f : Figure) (y : Listed) (x : Step) (c : Colour) (others : Sketch) → x ≡ step_for T f y → c ≡ f.colour → others ≡ each_changed (changed_by c x) 0 T → others ++ victims_as f y.to y.victim ≡ figures_before T f y
unfolding figures_before
before-made T f y x c others step same e =
    ap (λ (l : Sketch). l ++ victims_as f y.to y.victim) (e ∙ ap (λ (d : Colour). each_changed (changed_by d x) 0 T) same ∙ ap (λ (z : Step). each_changed (changed_by f.colour z) 0 T) step)

pub sketch-made : (T : Sketch) (f : Figure) (y : Listed) (before counted left : Sketch) → before ≡ figures_before T f y → counted ≡ recounted before → left ≡ trimmed_out counted → left ≡ sketch_before T f y
unfolding sketch_before
sketch-made T f y before counted left a b d = d ∙ ap trimmed_out (b ∙ ap recounted a)

pub not-first : (a b : Bool) → a ≡ false → (a && b) ≡ true → ⊥
not-first a b none h = both_ways a none (and_parts a b h).0
