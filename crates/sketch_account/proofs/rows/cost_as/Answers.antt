use Rattle.std.proofs.Common.{◌≡◌, ◌+◌, ◌-◌, ◌∙◌, ℕ, true, false, ap, sym, subst, arith}
use Rattle.std.proofs.lemmas.Bool.{le-leb, leb-true, false_from_ne_true}
use Rattle.std.specs.Prelude.{nat_le}
use Rattle.board_base.specs.Board.{is_in, same_kind}
use Rattle.board_base.specs.declared.men.Kind.{Kind}
use Rattle.board_base.specs.declared.men.Kind.TheVariants.{Pawn}
use Rattle.board_base.proofs.KindsOfMen.{kind_is}
use Rattle.balance_rule.specs.LeastWays.{seen_by}
use Rattle.balance_rule.proofs.Begun.{begins-on}
use Rattle.sketch_grounds.specs.Limits.{comes_as}
use Rattle.sketch_account.specs.Over.{IsLeastOver}
use Rattle.sketch_account.proofs.rows.cost_as.Goals as goal

pub returns-then-has-clause-value : goal.returns-then-has-clause-value
returns-then-has-clause-value c = λ o p R l m ground comer there colour kind.
    let g = c.args.ground.now in
    let walled : is_in g.base.frozen (seen_by g.base.side c.args.n) ≡ true = ap (is_in g.base.frozen) (sym c.seen_by-home.ensures) ∙ sym c.has.ensures.member ∙ c.if-has.true in
    c.home_cost.ensures.value p g.base.frozen R g.base.side l c.args.first (seen_by g.base.side c.args.n) (sym c.seen_by-home.ensures) walled

pub returns-then-n-ge8-clause-value : goal.returns-then-n-ge8-clause-value
returns-then-n-ge8-clause-value c = λ o p R l m ground comer there colour kind.
    let g = c.args.ground.now in
    let x = c.args.x.now in
    let back : 8 + (c.args.n - 8) ≡ c.args.n = omega arith in
    let out : is_in g.base.frozen (seen_by g.base.side c.args.n) ≡ false = ap (is_in g.base.frozen) (sym c.seen_by-home.ensures) ∙ sym c.has.ensures.member ∙ c.if-has.false in
    let here : is_in g.base.frozen (seen_by g.base.side (8 + (c.args.n - 8))) ≡ false = ap (λ (k : ℕ). is_in g.base.frozen (seen_by g.base.side k)) back ∙ out in
    let begins = begins-on o g.base.side c.args.n m c.requires there in
    let pawn : Pawn ≡ c.args.first = sym (kind_is m.kind Pawn (begins.pawn ∙ le-leb 8 c.args.n c.if-n-ge8.true)) ∙ kind in
    subst (λ (k : Kind). IsLeastOver x.figure (comes_as p g.base.frozen R g.base.side l k (seen_by g.base.side c.args.n)) c.pawn_cost.result) pawn
    (subst (λ (k : ℕ). IsLeastOver x.figure (comes_as p g.base.frozen R g.base.side l Pawn (seen_by g.base.side k)) c.pawn_cost.result) back (c.pawn_cost.ensures.value o p R l ground comer here))

pub returns-else-n-ge8-clause-value : goal.returns-else-n-ge8-clause-value
returns-else-n-ge8-clause-value c = λ o p R l m ground comer there colour kind.
    let g = c.args.ground.now in
    let out : is_in g.base.frozen (seen_by g.base.side c.args.n) ≡ false = ap (is_in g.base.frozen) (sym c.seen_by-home.ensures) ∙ sym c.has.ensures.member ∙ c.if-has.false in
    let begins = begins-on o g.base.side c.args.n m c.requires there in
    let piece : same_kind c.args.first Pawn ≡ false = ap (λ (k : Kind). same_kind k Pawn) (sym kind) ∙ begins.pawn ∙ false_from_ne_true (nat_le 8 c.args.n) (λ high. omega (arith, leb-true 8 c.args.n high)) in
    c.piece_cost.ensures.value o p R l m ground comer there colour kind piece out
