use Rattle.std.proofs.Common.{◌≡◌, ◌<◌, ◌∷◌, ◌&&◌, ℕ, true, false, length, ap, sym, ◌∙◌, subst}
use Rattle.figures.specs.Figures.{Figure, Sketch}
use Rattle.figures.specs.Steps.{is_step}
use Rattle.sketch_list.specs.Listed.{Listed, is_sound, may_be_above, sketch_before, step_for}
use Rattle.sketch_walk.specs.Goings.{may_go}
use Rattle.sketch_walk.specs.Nests.{Finds, after_place, left}
use Rattle.sketch_walk.specs.Shorts.{takes_so}
use Rattle.sketch_walk.specs.Walks.{found_at, left_of, way_at}
use Rattle.sketch_walk.proofs.Advancing.{past-counts, past-going, past-place, past-victim, place-found}
use Rattle.sketch_walk.proofs.Fitting.{takes-told, victim-fits}
use Rattle.sketch_walk.proofs.walking.look_at.Goals as goal

pub returns-then-not-takes_so-clause-found : goal.returns-then-not-takes_so-clause-found
returns-then-not-takes_so-clause-found c = λ o are.
    let T : Sketch = c.args.sketch.now in
    let f : Figure = c.args.figure.now in
    let never : takes_so c.args.shorts f (way_at c.args.cursor.by f c.args.cursor.to c.args.cursor.way c.args.cursor.victim c.args.cursor.above).victim ≡ false = ap (λ (y : Listed). takes_so c.args.shorts f y.victim) (sym (c.step.view_is ∙ c.requires.step)) ∙ sym c.takes_so.ensures ∙ c.if-not-takes_so.true in
    past-victim o c.args.exact.now T c.args.cursor c.past_victim.result f c.requires.figure c.requires.here (sym (takes-told o T c.args.shorts f _ are) ∙ never) (c.past_victim.ensures.left (found_at o c.args.exact.now T) (length T) c.requires.here)

pub returns-then-not-may_go-clause-found : goal.returns-then-not-may_go-clause-found
returns-then-not-may_go-clause-found c = λ o are.
    let T : Sketch = c.args.sketch.now in
    let f : Figure = c.args.figure.now in
    past-going o c.args.exact.now T c.args.cursor c.past_victim-then-not-may_go.result f c.requires.figure c.requires.here (ap (may_go c.args.exact.now f) (sym c.requires.step) ∙ sym c.may_go.ensures ∙ c.if-not-may_go.true) (c.past_victim-then-not-may_go.ensures.left (found_at o c.args.exact.now T) (length T) c.requires.here)

pub returns-then-not-may_be_above-clause-found : goal.returns-then-not-may_be_above-clause-found
returns-then-not-may_be_above-clause-found c = λ o are.
    let T : Sketch = c.args.sketch.now in
    let f : Figure = c.args.figure.now in
    past-counts o c.args.exact.now T c.args.cursor c.past_victim-then-not-may_be_above.result f c.requires.figure c.requires.here (ap (may_be_above T f) (sym c.requires.step) ∙ sym c.may_be_above.ensures ∙ c.if-not-may_be_above.true) (c.past_victim-then-not-may_be_above.ensures.left (found_at o c.args.exact.now T) (length T) c.requires.here)

pub sound_before-requires-clause-room : goal.sound_before-requires-clause-room
sound_before-requires-clause-room c = victim-fits c.args.shorts c.args.sketch.now c.args.figure.now c.args.step.now.to c.args.step.now.victim c.requires.room c.requires.few (ap (λ (y : Listed). takes_so c.args.shorts c.args.figure.now y.victim) (sym c.step.view_is) ∙ sym c.takes_so.ensures ∙ c.if-not-takes_so.false)

pub returns-in-Some-clause-found : goal.returns-in-Some-clause-found
returns-in-Some-clause-found c = λ o are.
    let T : Sketch = c.args.sketch.now in
    let f : Figure = c.args.figure.now in
    let finds : Finds = found_at o c.args.exact.now T in
    let way : Listed = way_at c.args.cursor.by f c.args.cursor.to c.args.cursor.way c.args.cursor.victim c.args.cursor.above in
    let next : left finds (length T) c.past_place-next.result ≡ after_place finds (length T) c.args.cursor = subst (λ (k : ℕ). left finds k c.past_place-next.result ≡ after_place finds k c.args.cursor) c.len.ensures.value (c.past_place-next.ensures.left finds (subst (λ (k : ℕ). c.args.cursor.by < k) (sym c.len.ensures.value) c.requires.here)) in
    place-found o c.args.exact.now T c.args.cursor c.past_place-next.result f c.requires.figure c.requires.here
    (ap (may_be_above T f) (sym c.requires.step) ∙ sym c.may_be_above.ensures ∙ c.if-not-may_be_above.false)
    (sym (takes-told o T c.args.shorts f way.victim are) ∙ ap (λ (y : Listed). takes_so c.args.shorts f y.victim) (sym (c.step.view_is ∙ c.requires.step)) ∙ sym c.takes_so.ensures ∙ c.if-not-takes_so.false)
    (subst (λ (y : Listed). (is_step c.args.exact.now T (step_for T f y) && is_sound (sketch_before T f y) f) ≡ true) c.requires.step c.in-Some.ensures.0) next
    ∙ ap (λ (S : Sketch). record { step = way; sketch = S } ∷ left_of o c.args.exact.now T c.past_place-next.result) (sym (c.in-Some.ensures.1 ∙ ap (sketch_before T f) c.requires.step))
    ∙ ap (λ (y : Listed). record { step = y; sketch = c.in-Some.before } ∷ left_of o c.args.exact.now T c.past_place-next.result) (sym (c.step.view_is ∙ c.requires.step))

pub returns-in-None-clause-found : goal.returns-in-None-clause-found
returns-in-None-clause-found c = λ o are.
    let T : Sketch = c.args.sketch.now in
    let f : Figure = c.args.figure.now in
    let finds : Finds = found_at o c.args.exact.now T in
    let next : left finds (length T) c.past_place-next.result ≡ after_place finds (length T) c.args.cursor = subst (λ (k : ℕ). left finds k c.past_place-next.result ≡ after_place finds k c.args.cursor) c.len.ensures.value (c.past_place-next.ensures.left finds (subst (λ (k : ℕ). c.args.cursor.by < k) (sym c.len.ensures.value) c.requires.here)) in
    past-place o c.args.exact.now T c.args.cursor c.past_place-next.result f c.requires.figure c.requires.here
    (λ both. c.in-None.ensures (subst (λ (y : Listed). (is_step c.args.exact.now T (step_for T f y) && is_sound (sketch_before T f y) f) ≡ true) (sym c.requires.step) both)) next
