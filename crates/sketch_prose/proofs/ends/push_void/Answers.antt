use Rattle.std.proofs.Common.{Bool, List, refl, subst, sym}
use Rattle.std.proofs.lemmas.Bool.{both_ways}
use Rattle.std.proofs.lemmas.Result.{IfOk-weaker}
use Rattle.std.specs.Prelude.{false}
use Rattle.sketch_grounds.specs.Frozen.{AreBegun}
use Rattle.sketch_prose.proofs.Strangers.{foreign-there}
use Rattle.sketch_prose.proofs.ends.push_void.Goals as goal
use Rattle.sketch_prose.specs.Bases.{setting_with}

pub returns-in-Some : goal.returns-in-Some
returns-in-Some c =
    IfOk-weaker c.push_foreign.result _ _
    (λ _ text prices void. record {
      square = c.in-Some.s;
      foreign = foreign-there (setting_with c.args.base.now prices) c.args.sketch.now c.greatest_frozen-set.result c.in-Some.s c.greatest_frozen-set.ensures.value c.in-Some.ensures.foreign;
      text = text;
    })
    c.push_foreign.ensures

pub returns-in-None : goal.returns-in-None
returns-in-None c = λ prices void.
    absurd (both_ways false refl (c.in-None.ensures.some (subst (λ (l : List Bool). AreBegun c.args.base.now.odds c.args.sketch.now l → ⊥) (sym c.greatest_frozen-set.ensures.value) void)))
