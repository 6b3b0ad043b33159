use Rattle.std.proofs.Common.{◌≡◌, Bool, false, ◌&&◌, ap, sym, ◌∙◌, arith}
use Rattle.std.proofs.lemmas.Bool.{and_from, and_left, cond-true, cond-false, false_from_ne_true, le-leb, leb-true}
use Rattle.std.proofs.Math.Bool.{and-false}
use Rattle.std.specs.Prelude.{nat_le}
use Rattle.board_base.specs.Board.{is_a, same_kind}
use Rattle.board_base.specs.declared.men.Kind.TheVariants.{Pawn}
use Rattle.balance_rule.specs.Costs.{never}
use Rattle.ledger_rule.proofs.standing.goes_as.Goals as goal

pub returns-then-n-lt8-clause-value : goal.returns-then-n-lt8-clause-value
returns-then-n-lt8-clause-value c = λ o p ground begins.
    let piece : same_kind c.args.first Pawn ≡ false = begins.pawn ∙ false_from_ne_true (nat_le 8 c.args.n) (λ high. omega (arith, leb-true 8 c.args.n high)) in
    sym (cond-false (same_kind c.args.first Pawn && is_a Pawn c.args.place) _ never (and_left (same_kind c.args.first Pawn) (is_a Pawn c.args.place) piece))

pub returns-then-is_pawn-clause-value : goal.returns-then-is_pawn-clause-value
returns-then-is_pawn-clause-value c = λ o p ground begins.
    c.pawn_comes.ensures.value o p ground
    ∙ sym (cond-true (same_kind c.args.first Pawn && is_a Pawn c.args.place) _ never (and_from _ _ (begins.pawn ∙ le-leb 8 c.args.n c.if-n-lt8.false) (sym c.is_pawn.ensures ∙ c.if-is_pawn.true)))

pub returns-else-is_pawn-clause-value : goal.returns-else-is_pawn-clause-value
returns-else-is_pawn-clause-value c = λ o p ground begins.
    let none : is_a Pawn c.args.place ≡ false = sym c.is_pawn.ensures ∙ c.if-is_pawn.false in
    sym (cond-false (same_kind c.args.first Pawn && is_a Pawn c.args.place) _ never (ap (λ (b : Bool). same_kind c.args.first Pawn && b) none ∙ and-false (same_kind c.args.first Pawn)))
