-- What is left after a look at a place.
use Rattle.std.proofs.Common.{◌≡◌, ◌<◌, ◌≤◌, Bool, true, false, ◌&&◌, List, [], ◌∷◌, ◌++◌, length, ap, sym, ◌∙◌}
use Rattle.std.specs.Prelude.{MatchOption, None, Option, Some}
use Rattle.figures.specs.Figures.{Figure, Sketch, figure_at}
use Rattle.figures.specs.Steps.{is_step}
use Rattle.sketch_list.specs.Listed.{Earlier, Listed, is_sound, may_be_above, may_take, sketch_before, step_for}
use Rattle.sketch_walk.specs.Goings.{may_go}
use Rattle.sketch_walk.specs.Nests.{after_place, after_square, after_victim, after_way, left}
use Rattle.sketch_walk.specs.Walks.{Ended, found_at, left_of, may_come, way_at}
use Rattle.sketch_walk.specs.declared.cursors.Cursor.{Cursor}
use Rattle.sketch_walk.proofs.Barring.{no-going, no-higher, no-origin, no-square, no-step, no-victim, one-step}
use Rattle.sketch_walk.proofs.Nesting.{left-in, left-past, square-skipped, victim-skipped, way-skipped}

pub all-walked : (o exact : List Bool) (T : Sketch) (c : Cursor) → length T ≤ c.by → left_of o exact T c ≡ []
unfolding left_of
all-walked o exact T c past = left-past (found_at o exact T) (length T) c past

pub ended-told : (old new : List Earlier) (found : Option Earlier) → Ended old found new → MatchOption found ((old ≡ []) × (new ≡ [])) (λ e. old ≡ e ∷ new)
ended-told old new None h = h
ended-told old new (Some e) h = h

module _ (o exact : List Bool) (T : Sketch) (c next : Cursor) (f : Figure) (found : figure_at T c.by ≡ Some f) (here : c.by < length T) where
  abbrev way : Listed
  way = way_at c.by f c.to c.way c.victim c.above

  pub past-square : may_come f c.to ≡ false → left (found_at o exact T) (length T) next ≡ after_square (found_at o exact T) (length T) c → left_of o exact T c ≡ left_of o exact T next
  unfolding left_of
  past-square none e = square-skipped (found_at o exact T) (length T) c here (no-square o exact T f c.by c.to found none) ∙ sym e

  pub past-way : ((way_at c.by f c.to c.way 0 0).from < 64 → ⊥) → left (found_at o exact T) (length T) next ≡ after_way (found_at o exact T) (length T) c → left_of o exact T c ≡ left_of o exact T next
  unfolding left_of
  past-way off e = way-skipped (found_at o exact T) (length T) c here (no-origin o exact T f c.by c.to c.way found off) ∙ sym e

  pub past-victim : may_take o T f way.victim ≡ false → left (found_at o exact T) (length T) next ≡ after_victim (found_at o exact T) (length T) c → left_of o exact T c ≡ left_of o exact T next
  unfolding left_of
  past-victim none e = victim-skipped (found_at o exact T) (length T) c here (λ n high. no-victim o exact T f c.by c.to c.way c.victim found none n) ∙ sym e

  pub past-going : may_go exact f way ≡ false → left (found_at o exact T) (length T) next ≡ after_victim (found_at o exact T) (length T) c → left_of o exact T c ≡ left_of o exact T next
  unfolding left_of
  past-going off e = victim-skipped (found_at o exact T) (length T) c here (λ n high. no-going o exact T f c.by c.to c.way c.victim c.above found off n) ∙ sym e

  pub past-counts : may_be_above T f way ≡ false → left (found_at o exact T) (length T) next ≡ after_victim (found_at o exact T) (length T) c → left_of o exact T c ≡ left_of o exact T next
  unfolding left_of
  past-counts none e = victim-skipped (found_at o exact T) (length T) c here (no-higher o exact T f c.by c.to c.way c.victim c.above found none) ∙ sym e

  pub past-place : ((is_step exact T (step_for T f way) && is_sound (sketch_before T f way) f) ≡ true → ⊥) → left (found_at o exact T) (length T) next ≡ after_place (found_at o exact T) (length T) c → left_of o exact T c ≡ left_of o exact T next
  unfolding left_of
  past-place never e =
      left-in (found_at o exact T) (length T) c here
      ∙ ap (λ (l : List Earlier). l ++ after_place (found_at o exact T) (length T) c) (no-step o exact T f c.by c.to c.way c.victim c.above found never) ∙ sym e

  pub place-found : may_be_above T f way ≡ true → may_take o T f way.victim ≡ true → (is_step exact T (step_for T f way) && is_sound (sketch_before T f way) f) ≡ true → left (found_at o exact T) (length T) next ≡ after_place (found_at o exact T) (length T) c → left_of o exact T c ≡ record { step = way; sketch = sketch_before T f way } ∷ left_of o exact T next
  unfolding left_of
  place-found above taken both e =
      left-in (found_at o exact T) (length T) c here
      ∙ ap (λ (l : List Earlier). l ++ after_place (found_at o exact T) (length T) c) (one-step o exact T f c.by c.to c.way c.victim c.above found above taken both)
      ∙ ap (λ (l : List Earlier). record { step = way; sketch = sketch_before T f way } ∷ l) (sym e)
