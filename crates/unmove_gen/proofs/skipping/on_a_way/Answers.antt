use Rattle.std.proofs.Common.{◌≡◌, ℕ, ◌+◌, false, inl, inr, sym, ap, ◌∙◌, subst, arith}
use Rattle.std.proofs.lemmas.Bool.{cases_lt}
use Rattle.std.specs.Prelude.{Option, Some, None}
use Rattle.board_base.specs.Board.{at, is_in}
use Rattle.board_base.specs.declared.men.Man.{Man}
use Rattle.query_base.specs.Asked.{Asked}
use Rattle.unmove_gen.specs.Ways.{IsNoWay}
use Rattle.unmove_gen.specs.Numbers.{AreUnlisted}
use Rattle.unmove_gen.specs.Cursors.{number_of}
use Rattle.unmove_gen.proofs.Skips.{skip-empty, skip-run, skip-targets}
use Rattle.unmove_gen.proofs.skipping.on_a_way.Goals as goal

pub returns-then-not-has-clause-unlisted : goal.returns-then-not-has-clause-unlisted
returns-then-not-has-clause-unlisted c =
    let p = c.args.here in
    let low = c.next_from.ensures.low in
    let out : is_in c.args.targets p.to ≡ false = ap (is_in c.args.targets) (sym c.mv-m.ensures.target) ∙ sym c.has.ensures.member ∙ c.if-not-has.true in
    skip-targets c.args.query.now p.to p.from p.promotion p.capture c.next_from.result _ low
    (λ t first last. c.requires.targets t (omega arith) (elim (cases_lt t (p.to + 1)) [
      | inl near ↦ let same : p.to ≡ t = omega arith in ap (is_in c.args.targets) (sym same) ∙ out
      | inr far ↦ c.next_from.ensures.none t far last
    ])) c.at_target.ensures

pub returns-in-Some-clause-unlisted : goal.returns-in-Some-clause-unlisted
returns-in-Some-clause-unlisted c =
    let p = c.args.here in
    let there : at c.query.inside.board p.to ≡ Some c.in-Some.man = ap (at c.query.inside.board) (sym c.mv-m.ensures.target) ∙ sym c.at.ensures.man ∙ c.in-Some.is in
    subst (λ (q : Asked). AreUnlisted q (number_of p) (number_of c.at_origin.result)) c.query.view_is
    (λ n u low high. elim c.at_origin.ensures.there [
      | inl same ↦ absurd (omega arith)
      | inr later ↦ skip-run _ p.to p.from p.promotion p.capture c.next_way.result _ c.is_whole.ensures p.origins
          (λ s first last. subst (λ (place : Option Man). IsNoWay c.query.inside.board place p.to s) (sym there)
          (subst (λ (t : ℕ). IsNoWay c.query.inside.board (Some c.in-Some.man) t s) c.mv-m.ensures.target (c.next_way.ensures.none s first last)))
          later c.next_way.ensures.low n u low high
    ])

pub returns-in-None-clause-unlisted : goal.returns-in-None-clause-unlisted
returns-in-None-clause-unlisted c =
    let p = c.args.here in
    let gone : at c.query.inside.board p.to ≡ None = ap (at c.query.inside.board) (sym c.mv-m.ensures.target) ∙ sym c.at.ensures.man ∙ c.in-None.is in
    subst (λ (q : Asked). AreUnlisted q (number_of p) (number_of c.next_target.result)) c.query.view_is
    (skip-empty _ p.to p.from p.promotion p.capture _ gone c.next_target.ensures)
