use Rattle.std.proofs.Common.{◌≡◌, Bool, ◌&&◌, not, ap, ◌∙◌}
use Rattle.board_base.specs.Board.{Places, array_of, at, is_a}
use Rattle.board_base.specs.declared.men.Kind.TheVariants.{Pawn}
use Rattle.balance_rule.specs.LeastWays.{seen_by}
use Rattle.ledger_rule.proofs.standing.has_become.Goals as goal

pub returns : goal.returns
returns c = λ o p ground.
    let g = c.args.ground.now in
    let first : c.is_pawn-first.result ≡ is_a Pawn (at (array_of o) (seen_by g.side c.args.n)) =
    c.is_pawn-first.ensures ∙ ap (is_a Pawn) (c.at.ensures.man ∙ ap (at g.first) c.seen_by.ensures ∙ ap (λ (b : Places). at b (seen_by g.side c.args.n)) ground.first) in
    ap (λ (b : Bool). b && not c.is_pawn.result) first ∙ ap (λ (b : Bool). is_a Pawn (at (array_of o) (seen_by g.side c.args.n)) && not b) c.is_pawn.ensures
