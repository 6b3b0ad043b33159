use Rattle.std.proofs.Common.{Bool, [], ◌∷◌, ◌++◌, cond, not, ap, ◌∙◌, arith}
use Rattle.std.proofs.Math.Seq.{take_all}
use Rattle.std.specs.List.{filter}
use Rattle.retraction_bars.proofs.Kept.{kept_next}
use Rattle.retraction_bars.specs.Exceptions.{exceptions, rests}
use Rattle.retraction_bars.specs.declared.gathering.Clause.{Clause}
use Rattle.retraction_bars.proofs.exceptions.exceptions.Goals as goal

pub loop-c-preserved : goal.loop-c-preserved
loop-c-preserved c =
    kept_next (λ (k : Clause). not (rests c.args.query.now c.args.main.now k)) c.args.cs.now c.loop-c.told.items _ c.loop-c.c-index c.c-item.result (omega arith) c.c-item.is c.loop-c.invariant
    (c.in_ok-push_if.ensures ∙ ap (λ (b : Bool). c.loop-c.told.items ++ cond (not b) (c.c-item.result ∷ []) []) c.in_ok-rest.ensures)

pub returns : goal.returns
unfolding exceptions
returns c = c.loop-c.invariant ∙ ap (filter (λ (k : Clause). not (rests c.args.query.now c.args.main.now k))) (take_all c.loop-c.c-index c.args.cs.now (omega arith))
