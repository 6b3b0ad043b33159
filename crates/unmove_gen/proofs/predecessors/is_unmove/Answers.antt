use Rattle.std.proofs.Common.{◌≡◌, length, sym, ap, ◌∙◌, arith}
use Rattle.query_base.specs.Asked.{Asked}
use Rattle.unmove_gen.proofs.Members.{in-list, list-passes}
use Rattle.unmove_gen.proofs.predecessors.is_unmove.Goals as goal

pub returns : goal.returns
returns c =
    let long : length c.args.query.now.board ≡ 64 = ap (λ (a : Asked). length a.board) (sym c.query.view_is) ∙ c.is_whole.ensures in (
      λ h. in-list c.args.query.now c.args.u.now (omega arith) (omega arith) (sym c.is_listed.ensures ∙ h),
      λ h. c.is_listed.ensures ∙ list-passes c.args.query.now c.args.u.now h,
    )
