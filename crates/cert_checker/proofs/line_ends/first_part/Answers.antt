use Rattle.std.proofs.Common.{◌≡◌, ◌==◌, ℕ, [], ◌∷◌, ◌++◌, get_or, length, take, ap, ◌∙◌, arith}
use Rattle.std.proofs.lemmas.Bool.{eqb-true}
use Rattle.std.proofs.lemmas.List.{take_more}
use Rattle.cert_checker.proofs.Pieces.{no_end_before}
use Rattle.cert_checker.proofs.line_ends.first_part.Goals as goal

pub returns-in-Some-clause-part : goal.returns-in-Some-clause-part
returns-in-Some-clause-part c =
    let bytes = c.args.bytes.now in
    let found = c.in-Some.ensures.0 in
    let at-end : get_or bytes c.in-Some.i 0 ≡ 10 = eqb-true (get_or bytes c.in-Some.i 0) 10 c.in-Some.ensures.1 in (
      take c.in-Some.i bytes,
      no_end_before bytes c.in-Some.i (omega (arith, found.high)) (λ k below same. found.before k (omega arith) below (ap (λ (b : ℕ). b == 10) same)),
      take_more bytes c.in-Some.i 0 found.high ∙ ap (λ (b : ℕ). take c.in-Some.i bytes ++ b ∷ []) at-end,
    )

pub returns-in-None-clause-part : goal.returns-in-None-clause-part
returns-in-None-clause-part c =
    no_end_before c.args.bytes.now (length c.args.bytes.now) (omega arith) (λ k below same. c.in-None.ensures k (omega arith) below (ap (λ (b : ℕ). b == 10) same))

pub returns-then-near-lt16-clause-part : goal.returns-then-near-lt16-clause-part
returns-then-near-lt16-clause-part c =
    let bytes = c.args.bytes.now in
    let n = c.before_end-near.result in (
      take n bytes,
      c.before_end-near.ensures.before,
      take_more bytes n 0 (omega arith) ∙ ap (λ (b : ℕ). take n bytes ++ b ∷ []) (c.before_end-near.ensures.end (omega arith)),
    )
