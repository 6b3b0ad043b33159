use Rattle.std.proofs.Common.{sym, ◌∙◌, subst}
use Rattle.query_base.specs.Asked.{Asked}
use Rattle.query_base.specs.Ends.{IsWithin}
use Rattle.query_base.proofs.targets.covers.Goals as goal

pub returns-then-not-is_within-clause-answer : goal.returns-then-not-is_within-clause-answer
returns-then-not-is_within-clause-answer c = (
  λ h. cc,
  λ covers.
      let outer : IsWithin c.args.a.now.held c.q.inside.held = subst (λ (p : Asked). IsWithin c.args.a.now.held p.held) (sym c.q.view_is) covers.held in
      sym c.if-not-is_within.true ∙ c.is_within.ensures.1 (subst (λ (p : Asked). IsWithin p.held c.q.inside.held) (sym c.a.view_is) outer),
)
