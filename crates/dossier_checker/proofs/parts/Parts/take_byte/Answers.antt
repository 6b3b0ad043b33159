use Rattle.std.proofs.Common.{◌≡◌, ◌∷◌, sym, ap, ◌∙◌, subst, arith}
use Rattle.std.proofs.lemmas.Bool.{eqb-true}
use Rattle.dossier_checker.specs.Remaining.{Parting, PartsRemain}
use Rattle.dossier_checker.specs.contracts.parts.Parts.{the_view}
use Rattle.dossier_checker.proofs.Stepping.{count_came, no_count, none_due, none_first, overlong}
use Rattle.dossier_checker.proofs.parts.Parts.take_byte.Goals as goal

pub returns-then-is_none-clause-rest : goal.returns-then-is_none-clause-rest
returns-then-is_none-clause-rest c = λ bytes a e.
    let k : Parting = the_view c.self.inside in
    let none : k.left ≡ 0 = ap (λ (p : Parting). p.left) c.self.view_is ∙ c.requires in
    let due = none_first c.self.inside.first c.self.inside.others c.if-is_none.ensures in
    subst (λ (p : Parting). PartsRemain p (c.args.byte ∷ bytes) a) c.self.view_is (none_due k c.args.byte bytes a none due e)

pub returns-then-is_full-clause-rest : goal.returns-then-is_full-clause-rest
returns-then-is_full-clause-rest c = λ bytes a e.
    let k : Parting = the_view c.self.inside in
    let none : k.left ≡ 0 = ap (λ (p : Parting). p.left) c.self.view_is ∙ c.requires in
    let full = eqb-true _ 16 (sym c.is_full.ensures.value ∙ c.if-is_full.true) in
    subst (λ (p : Parting). PartsRemain p (c.args.byte ∷ bytes) a) c.self.view_is (overlong k c.args.byte bytes a none c.self.invariant.0 (omega (arith, full)) e)

pub returns-in_default-clause-rest : goal.returns-in_default-clause-rest
returns-in_default-clause-rest c = λ bytes a e.
    let k : Parting = the_view c.self.inside in
    let none : k.left ≡ 0 = ap (λ (p : Parting). p.left) c.self.view_is ∙ c.requires in
    subst (λ (p : Parting). PartsRemain p (c.args.byte ∷ bytes) a) c.self.view_is (no_count k c.args.byte c.as_slice.result.now bytes a none c.self.invariant.0 c.if-byte-ne10.false (c.as_slice.ensures.value ∙ c.push.ensures.items) c.in_default.ensures e)

pub returns-clause-rest : goal.returns-clause-rest
returns-clause-rest c = λ bytes a rest.
    let k : Parting = the_view c.self.inside in
    let none : k.left ≡ 0 = ap (λ (p : Parting). p.left) c.self.view_is ∙ c.requires in
    let counts = c.in-Some.ensures in
    subst (λ (p : Parting). PartsRemain p (c.args.byte ∷ bytes) a) c.self.view_is
    (count_came k c.new-self-inside.result c.args.byte c.in-Some.count c.as_slice.result.now c.clear.new.self.items bytes a none c.self.invariant.0 c.if-byte-ne10.false (c.as_slice.ensures.value ∙ c.push.ensures.items) counts.0 counts.1 counts.2 c.new-self-inside.ensures rest)
