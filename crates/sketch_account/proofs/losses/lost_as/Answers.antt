use Rattle.std.proofs.Common.{◌≡◌, ◌+◌, ◌-◌, ◌∙◌, ℕ, true, false, ap, sym, arith}
use Rattle.std.proofs.lemmas.Bool.{cond-true, cond-false, le-leb, leb-true, false_from_ne_true}
use Rattle.std.specs.Prelude.{nat_le}
use Rattle.board_base.specs.Board.{is_in, same_kind}
use Rattle.board_base.specs.declared.men.Kind.{Kind}
use Rattle.board_base.specs.declared.men.Kind.TheVariants.{Pawn}
use Rattle.balance_rule.specs.Costs.{never}
use Rattle.balance_rule.specs.LeastWays.{seen_by}
use Rattle.balance_rule.proofs.Begun.{begins-on}
use Rattle.sketch_grounds.specs.Limits.{pawn_lost}
use Rattle.sketch_account.proofs.losses.lost_as.Goals as goal

pub returns-then-has-clause-value : goal.returns-then-has-clause-value
returns-then-has-clause-value c = λ o p R m ground there colour kind.
    let g = c.args.ground.now in
    let walled : is_in g.base.frozen (seen_by g.base.side c.args.n) ≡ true = ap (is_in g.base.frozen) (sym c.seen_by.ensures) ∙ sym c.has.ensures.member ∙ c.if-has.true in
    sym (cond-true (is_in g.base.frozen (seen_by g.base.side c.args.n)) never _ walled)

pub returns-then-n-ge8-clause-value : goal.returns-then-n-ge8-clause-value
returns-then-n-ge8-clause-value c = λ o p R m ground there colour kind.
    let g = c.args.ground.now in
    let back : 8 + (c.args.n - 8) ≡ c.args.n = omega arith in
    let out : is_in g.base.frozen (seen_by g.base.side c.args.n) ≡ false = ap (is_in g.base.frozen) (sym c.seen_by.ensures) ∙ sym c.has.ensures.member ∙ c.if-has.false in
    let here : is_in g.base.frozen (seen_by g.base.side (8 + (c.args.n - 8))) ≡ false = ap (λ (k : ℕ). is_in g.base.frozen (seen_by g.base.side k)) back ∙ out in
    let begins = begins-on o g.base.side c.args.n m c.requires there in
    let pawn : same_kind c.args.first Pawn ≡ true = ap (λ (k : Kind). same_kind k Pawn) (sym kind) ∙ begins.pawn ∙ le-leb 8 c.args.n c.if-n-ge8.true in
    c.pawn_lost.ensures.value o p R ground here ∙ ap (λ (k : ℕ). pawn_lost p g.base.frozen R g.base.side (seen_by g.base.side k)) back
    ∙ sym (cond-false (is_in g.base.frozen (seen_by g.base.side c.args.n)) never _ out ∙ cond-true (same_kind c.args.first Pawn) _ _ pawn)

pub returns-else-n-ge8-clause-value : goal.returns-else-n-ge8-clause-value
returns-else-n-ge8-clause-value c = λ o p R m ground there colour kind.
    let g = c.args.ground.now in
    let out : is_in g.base.frozen (seen_by g.base.side c.args.n) ≡ false = ap (is_in g.base.frozen) (sym c.seen_by.ensures) ∙ sym c.has.ensures.member ∙ c.if-has.false in
    let begins = begins-on o g.base.side c.args.n m c.requires there in
    let piece : same_kind c.args.first Pawn ≡ false = ap (λ (k : Kind). same_kind k Pawn) (sym kind) ∙ begins.pawn ∙ false_from_ne_true (nat_le 8 c.args.n) (λ high. omega (arith, leb-true 8 c.args.n high)) in
    c.piece_lost.ensures.value o p R m ground there colour kind piece ∙ sym (cond-false (is_in g.base.frozen (seen_by g.base.side c.args.n)) never _ out ∙ cond-false (same_kind c.args.first Pawn) _ _ piece)
