use Rattle.std.proofs.Common.{◌≡◌, ap, ◌∙◌, arith}
use Rattle.std.specs.Prelude.{slice_get}
use Rattle.unmove_gen.specs.Listed.{candidates}
use Rattle.unmove_gen.specs.Numbers.{number_at}
use Rattle.unmove_gen.specs.Cursors.{number_of}
use Rattle.unmove_gen.proofs.Numbered.{candidate-at}
use Rattle.unmove_gen.proofs.candidates.Cursor.candidate.Goals as goal

pub returns : goal.returns
returns c =
    let to = c.mv.ensures.target in
    let from = c.mv.ensures.origin in
    let few = c.args.self.promotions in
    let fits = c.args.self.captures in
    let origin = c.args.self.origins in
    let inside = c.requires in
    let e : number_of c.args.self ≡ number_at c.mv.result.to c.mv.result.from c.args.self.promotion c.args.self.capture = omega arith in
    ap (slice_get candidates) e ∙ candidate-at c.mv.result.to c.mv.result.from c.args.self.promotion c.args.self.capture c.mv.result.promo (omega arith) (omega arith) few fits c.mv.ensures.promotion ∙ c.taking.ensures
