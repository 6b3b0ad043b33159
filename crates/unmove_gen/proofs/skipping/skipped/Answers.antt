use Rattle.std.proofs.Common.{◌≡◌, ◌+◌, ◌*◌, ◌<◌, sym, ◌∙◌, subst, arith}
use Rattle.query_base.specs.Asked.{Asked}
use Rattle.unmove_gen.specs.Numbers.{AreUnlisted}
use Rattle.unmove_gen.specs.Cursors.{number_of}
use Rattle.unmove_gen.proofs.Skips.{skip-promotion, skip-ways}
use Rattle.unmove_gen.proofs.skipping.skipped.Goals as goal

pub returns-then-reaches_last-clause-unlisted : goal.returns-then-reaches_last-clause-unlisted
returns-then-reaches_last-clause-unlisted c =
    let to : c.mv-m.result.to ≡ c.args.here.to = c.mv-m.ensures.target in
    let from : c.mv-m.result.from ≡ c.args.here.from = c.mv-m.ensures.origin in
    let small : c.args.here.from < 64 = c.args.here.origins in
    let next : number_of c.next_promotion.result ≡ 2240 * c.args.here.to + 35 * c.args.here.from + 7 * (c.args.here.promotion + 1) = c.next_promotion.ensures in
    subst (λ (q : Asked). AreUnlisted q (number_of c.args.here) (number_of c.next_promotion.result)) c.query.view_is
    (skip-promotion _ c.mv-m.result c.args.here.promotion c.args.here.capture _ _ c.is_whole.ensures (omega arith) c.args.here.promotions c.mv-m.ensures.promotion (sym c.is_way.ensures ∙ c.if-is_way.false) (omega arith) (omega arith))

pub returns-else-reaches_last-clause-unlisted : goal.returns-else-reaches_last-clause-unlisted
returns-else-reaches_last-clause-unlisted c =
    let to : c.mv-m.result.to ≡ c.args.here.to = c.mv-m.ensures.target in
    let from : c.mv-m.result.from ≡ c.args.here.from = c.mv-m.ensures.origin in
    let small : c.args.here.from < 64 = c.args.here.origins in
    let next : number_of c.next_origin.result ≡ 2240 * c.args.here.to + 35 * (c.args.here.from + 1) = c.next_origin.ensures in
    subst (λ (q : Asked). AreUnlisted q (number_of c.args.here) (number_of c.next_origin.result)) c.query.view_is
    (skip-ways _ c.mv-m.result c.args.here.promotion c.args.here.capture _ _ c.is_whole.ensures (omega arith) c.args.here.promotions c.mv-m.ensures.promotion (sym c.is_way.ensures ∙ c.if-is_way.false) (sym c.reaches_last.ensures ∙ c.if-reaches_last.false) (omega arith) (omega arith))
