use Rattle.std.proofs.Common.{◌≡◌, ◌++◌, [], ℕ, List, length, sym, ap, ◌∙◌, subst, arith, length-append}
use Rattle.std.proofs.lemmas.Bool.{eqb-true}
use Rattle.std.proofs.lemmas.List.{nil_from_length}
use Rattle.cert_checker.specs.Remains.{Remains}
use Rattle.cert_checker.proofs.Pieces.{fed_more}
use Rattle.cert_checker.proofs.checkers.Checker.feed.Goals as goal

pub returns-clause-stands : goal.returns-clause-stands
returns-clause-stands c = λ bytes stands.
    let past : c.parts.rest.now ≡ [] = nil_from_length c.parts.rest.now (eqb-true (length c.parts.rest.now) 0 (sym c.is_empty.ensures ∙ c.parts-test.false)) in
    record {
      fed = omega (arith, c.parts.invariant.fed, ap length past, stands.fed, length-append bytes c.args.piece.now);
      answers = fed_more bytes c.args.piece.now (Remains c.args.self.now) (Remains c.parts.self) (λ others a rest. c.parts.invariant.rest others a (subst (λ (l : List ℕ). Remains c.parts.self (l ++ others) a) (sym past) rest)) stands.answers;
    }
