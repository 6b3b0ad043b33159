use Rattle.std.proofs.Common.{Bool, ap, ◌∙◌}
use Rattle.std.specs.Prelude.{None}
use Rattle.query_base.specs.Asked.{Asked}
use Rattle.unmove_gen.specs.Listed.{obeys_clock, taking}
use Rattle.unmove_gen.specs.Plain.{kept_of}
use Rattle.unmove_gen.proofs.ClockListed.{kept-listed}
use Rattle.unmove_gen.proofs.captures.listed.Goals as goal

pub returns : goal.returns
returns c =
    let q : Asked = c.args.query.now in
    let fitting = c.fitting-fitting.result in
    c.kept.ensures
    ∙ ap (λ (b : Bool). kept_of fitting b c.obeys_clock-takes.result) (c.obeys_clock-quiet.ensures ∙ ap (obeys_clock q) c.taking.ensures)
    ∙ ap (kept_of fitting (obeys_clock q (taking c.args.m.now None))) (c.obeys_clock-takes.ensures ∙ ap (obeys_clock q) c.taking_en_passant.ensures)
    ∙ kept-listed q c.args.m.now fitting c.fitting-fitting.ensures
