-- Which sketches one node doesn't refute without exact files, prices and marks.
use Rattle.std.proofs.Common.{◌≡◌, Bool, true, false, true≢false, inl, inr, List, [], ◌∷◌, ap, sym, subst, ◌∙◌}
use Rattle.std.specs.Prelude.{IfOk, IsTrue, MatchOption, Ok, Err, Option, Result}
use Rattle.std.proofs.lemmas.Bool.{both_ways}
use Rattle.board_base.specs.Rights.{Rights}
use Rattle.figures.specs.Homes.{may_be_array}
use Rattle.past_sketches.specs.Figures.{Sketch}
use Rattle.sketch_trees.specs.Nodes.{IsLeastAbove, IsVoid}
use Rattle.sketch_trees.proofs.Least.{least-one}
use Rattle.sketch_found.specs.Beginning.{CanBegin}
use Rattle.sketch_found.specs.Listed.{Earlier, earlier}
use Rattle.sketch_found.specs.Plain.{IsPlain, IsPlainNode, IsStepless, no_files}
use Rattle.sketch_found.specs.declared.found.FoundSketch.{FoundSketch}
use Rattle.sketch_found.proofs.Going.{sound-somewhere}

abbrev has_first : List Earlier → Bool
has_first [] = false
has_first (e ∷ l) = true

-- a list with a first step isn't empty
pub has-step : (l m : List Earlier) (e : Earlier) → l ≡ e ∷ m → l ≡ [] → ⊥
has-step l m e is none = true≢false (ap has_first (sym is ∙ none))

one-wide : (o : List Bool) (held : Rights) (S T : Sketch) → CanBegin o S → IsLeastAbove held no_files S T → (stepless : IsStepless o held S) → stepless.wide ≡ T
one-wide o held S T can least stepless = least-one held no_files S stepless.wide T (sound-somewhere S can.apart) stepless.least least

pub array-unplain : (o : List Bool) (held : Rights) (S T : Sketch) → CanBegin o S → (IsVoid o held S → ⊥) → IsLeastAbove held no_files S T → IsTrue (may_be_array o T) → IsPlain o held S → ⊥
array-unplain o held S T can undead least array (inl void) = undead void
array-unplain o held S T can undead least array (inr stepless) =
    both_ways (may_be_array o T) (subst (λ (U : Sketch). may_be_array o U ≡ false) (one-wide o held S T can least stepless) stepless.elsewhere) array

pub plain-stepless : (o : List Bool) (held : Rights) (S T : Sketch) (may : Bool) → CanBegin o S → (IsVoid o held S → ⊥) → IsLeastAbove held no_files S T → (earlier o no_files T ≡ [] → IsTrue may) → IsPlain o held S → IsTrue may
plain-stepless o held S T may can undead least none (inl void) = absurd (undead void)
plain-stepless o held S T may can undead least none (inr stepless) =
    none (subst (λ (U : Sketch). earlier o no_files U ≡ []) (one-wide o held S T can least stepless) stepless.none)

-- whatever is found further answers for a sketch that one node doesn't refute
pub never-plain : {E : Type 0} (R : Result (Option FoundSketch) E) (Root Plain : Type 0) → (Plain → ⊥) → IfOk R (λ r. Root → Plain → MatchOption r ⊥ IsPlainNode)
never-plain {E} (Err e) Root Plain unplain = tt
never-plain {E} (Ok r) Root Plain unplain = λ root plain. absurd (unplain plain)
