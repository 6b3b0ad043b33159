use Rattle.std.proofs.Common.{◌≡◌, ◌+◌, ℕ, refl, sym, subst}
use Rattle.board_base.specs.declared.men.Kind.{Kind}
use Rattle.board_base.specs.declared.men.Kind.TheVariants.{Pawn, Knight, Bishop, Rook, Queen}
use Rattle.men_fates.specs.Fates.{brings}
use Rattle.men_fates.specs.Ways.{toll}
use Rattle.capture_prices.specs.Prices.{PriceList, gate, take}
use Rattle.balance_rule.specs.LeastWays.{IsLeast, seen_by}
use Rattle.balance_rule.specs.declared.grounds.Ground.{Ground}
use Rattle.balance_rule.proofs.Brought.{pawn-brought}
use Rattle.balance_rule.proofs.Seen.{home-inside}
use Rattle.balance_rule.proofs.fates.toll_to.Goals as goal

-- the kind is this one
as-kind : (g : Ground) (p : PriceList) (f s n : ℕ) (first k : Kind) → first ≡ k → IsLeast g.side g.frozen (seen_by g.side (8 + f)) (λ way. brings g.frozen g.side (seen_by g.side (8 + f)) way k s) (toll (take p g.side) (gate p) (seen_by g.side (8 + f))) n → IsLeast g.side g.frozen (seen_by g.side (8 + f)) (λ way. brings g.frozen g.side (seen_by g.side (8 + f)) way first s) (toll (take p g.side) (gate p) (seen_by g.side (8 + f))) n
as-kind g p f s n first k is h = subst (λ (k : Kind). IsLeast g.side g.frozen (seen_by g.side (8 + f)) (λ way. brings g.frozen g.side (seen_by g.side (8 + f)) way k s) (toll (take p g.side) (gate p) (seen_by g.side (8 + f))) n) (sym is) h

pub returns-in-Pawn : goal.returns-in-Pawn
returns-in-Pawn c = λ o p ground out.
    as-kind c.args.ground.now p c.args.f c.args.s c.toll_at.result c.args.kind Pawn c.in-Pawn.is
    (subst (IsLeast c.args.ground.now.side c.args.ground.now.frozen (seen_by c.args.ground.now.side (8 + c.args.f)) (λ way. brings c.args.ground.now.frozen c.args.ground.now.side (seen_by c.args.ground.now.side (8 + c.args.f)) way Pawn c.args.s) (toll (take p c.args.ground.now.side) (gate p) (seen_by c.args.ground.now.side (8 + c.args.f))))
    (sym c.toll_at.ensures)
    (pawn-brought p c.args.ground.now.frozen c.args.ground.now.side (seen_by c.args.ground.now.side (8 + c.args.f)) c.number_of-i.result c.args.s _ (home-inside c.args.ground.now.side c.args.f c.requires) (ground.reaches c.args.f _ c.requires out) c.number_of-i.ensures.on_board c.number_of-i.ensures.value c.if-i-lt56.true))

pub returns-in-Knight : goal.returns-in-Knight
returns-in-Knight c = λ o p ground out.
    as-kind c.args.ground.now p c.args.f c.args.s c.toll_promoted.result c.args.kind Knight c.in-Knight.is
    (c.toll_promoted.ensures.least p c.args.ground.now.frozen c.args.ground.now.side Knight (seen_by c.args.ground.now.side (8 + c.args.f)) (home-inside c.args.ground.now.side c.args.f c.requires) (ground.reaches c.args.f _ c.requires out) refl ground.knights)

pub returns-in-Bishop : goal.returns-in-Bishop
returns-in-Bishop c = λ o p ground out.
    as-kind c.args.ground.now p c.args.f c.args.s c.toll_promoted-in-Bishop.result c.args.kind Bishop c.in-Bishop.is
    (c.toll_promoted-in-Bishop.ensures.least p c.args.ground.now.frozen c.args.ground.now.side Bishop (seen_by c.args.ground.now.side (8 + c.args.f)) (home-inside c.args.ground.now.side c.args.f c.requires) (ground.reaches c.args.f _ c.requires out) refl ground.bishops)

pub returns-in-Rook : goal.returns-in-Rook
returns-in-Rook c = λ o p ground out.
    as-kind c.args.ground.now p c.args.f c.args.s c.toll_promoted-in-Rook.result c.args.kind Rook c.in-Rook.is
    (c.toll_promoted-in-Rook.ensures.least p c.args.ground.now.frozen c.args.ground.now.side Rook (seen_by c.args.ground.now.side (8 + c.args.f)) (home-inside c.args.ground.now.side c.args.f c.requires) (ground.reaches c.args.f _ c.requires out) refl ground.rooks)

pub returns-in-Queen : goal.returns-in-Queen
returns-in-Queen c = λ o p ground out.
    as-kind c.args.ground.now p c.args.f c.args.s c.toll_promoted-in-Queen.result c.args.kind Queen c.in-Queen.is
    (c.toll_promoted-in-Queen.ensures.least p c.args.ground.now.frozen c.args.ground.now.side Queen (seen_by c.args.ground.now.side (8 + c.args.f)) (home-inside c.args.ground.now.side c.args.f c.requires) (ground.reaches c.args.f _ c.requires out) refl ground.queens)
