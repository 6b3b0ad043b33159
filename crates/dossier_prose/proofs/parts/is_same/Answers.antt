use Rattle.std.proofs.Common.{◌≡◌, true, sym, ◌∙◌, subst}
use Rattle.query_base.specs.Asked.{Asked}
use Rattle.query_base.specs.contracts.queries.QueryPartialEq.TheImpl as queries
use Rattle.query_base.proofs.Exact.{exact, itself}
use Rattle.dossier_prose.proofs.parts.is_same.Goals as goal

pub returns : goal.returns
returns c = (
  λ h. exact c.args.a.now c.args.b.now (sym c.eq.ensures ∙ h),
  λ same. c.eq.ensures ∙ subst (λ (q : Asked). queries.eq-value.it c.args.a.now q ≡ true) same (itself c.args.a.now),
)
