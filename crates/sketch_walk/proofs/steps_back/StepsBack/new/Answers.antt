use Rattle.std.proofs.Common.{ap, sym, ◌∙◌, subst, arith}
use Rattle.std.specs.Prelude.{IsTrue}
use Rattle.std.specs.List.{list_all}
use Rattle.figures.specs.Figures.{Sketch}
use Rattle.sketch_steps.specs.Places.{has_low_place}
use Rattle.sketch_walk.specs.Shorts.{AreShort, has_room}
use Rattle.sketch_walk.specs.Walks.{left_of}
use Rattle.sketch_walk.proofs.Fitting.{back-parts}
use Rattle.sketch_walk.proofs.Spelling.{walk-begun}
use Rattle.sketch_walk.proofs.steps_back.StepsBack.new.Goals as goal

pub invariant_of-result : goal.invariant_of-result
invariant_of-result c =
    let parts = back-parts c.args.odds c.args.sketch.now c.shorts_of.result c.shorts_of.ensures (sym c.can_step_back.ensures ∙ c.if-not-can_step_back.false) in
    record {
      shorts = subst (λ (T : Sketch). AreShort c.args.odds T c.shorts_of.result) (sym c.copied.ensures) c.shorts_of.ensures;
      low = subst (λ (T : Sketch). IsTrue (list_all has_low_place T)) (sym c.copied.ensures) parts.0;
      room = subst (λ (T : Sketch). IsTrue (has_room c.shorts_of.result T)) (sym c.copied.ensures) parts.1;
      place = record { to = omega arith; way = omega arith; victim = omega arith; above = omega arith };
    }

pub returns : goal.returns
returns c = (
  sym c.can_step_back.ensures ∙ c.if-not-can_step_back.false,
  ap (λ (T : Sketch). left_of c.args.odds c.args.exact.now T (record { by = 0; to = 0; way = 0; victim = 0; above = 0 })) c.copied.ensures ∙ walk-begun c.args.odds c.args.exact.now c.args.sketch.now,
)
