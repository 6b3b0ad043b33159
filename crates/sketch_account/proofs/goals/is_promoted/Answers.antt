use Rattle.std.proofs.Common.{◌≡◌, ◌+◌, ◌<◌, ◌∙◌, ◌&&◌, ℕ, Bool, List, get_or, ap}
use Rattle.std.specs.List.{list_any, range_with_len}
use Rattle.board_base.specs.Board.{is_in, man}
use Rattle.board_base.specs.declared.men.Kind.{Kind}
use Rattle.board_base.specs.declared.men.Kind.TheVariants.{Knight, Bishop, Rook, Queen}
use Rattle.balance_rule.specs.LeastWays.{seen_by}
use Rattle.figures.specs.Figures.{Figure, may_be}
use Rattle.sketch_grounds.specs.Zones.{Room}
use Rattle.board_base.specs.declared.men.Colour.{Colour}
use Rattle.sketch_account.specs.Coming.{has_room, is_free}
use Rattle.sketch_account.specs.Grounds.{AreRooms}
use Rattle.sketch_account.proofs.Aiming.{any-board, promoted-made}
use Rattle.sketch_account.proofs.goals.is_promoted.Goals as goal

one-kind : (R : Room) (c : Colour) (wall : List Bool) (f : Figure) (k : Kind) (n : ℕ) (free none : List Bool) (rooms : List (List Bool)) (b : Bool) → n < 8 → ((s : ℕ) → s < 64 → is_in free s ≡ is_free wall f s) → AreRooms R c k rooms → b ≡ (may_be f k && list_any (λ s. is_in free s && is_in (get_or rooms n none) s) (range_with_len 0 64)) → b ≡ (may_be f k && has_room R c wall f (seen_by c (56 + n)) k)
one-kind R c wall f k n free none rooms b low are rooms_are e =
    e ∙ ap (λ (x : Bool). may_be f k && x) (any-board (λ s. is_in free s && is_in (get_or rooms n none) s) (λ s. is_free wall f s && R (man c k) (seen_by c (56 + n)) s) (λ s inside.
    ap (λ (x : Bool). x && is_in (get_or rooms n none) s) (are s inside) ∙ ap (λ (x : Bool). is_free wall f s && x) (rooms_are n s none low inside)))

pub returns : goal.returns
returns c = λ o p R ground free.
    let g = c.args.ground.now in
    promoted-made R g.base.side g.base.frozen c.args.figure.now (seen_by g.base.side (56 + c.args.f)) c.comes_as-knight.result c.comes_as-bishop.result c.comes_as-rook.result c.comes_as-queen.result
    (one-kind R g.base.side g.base.frozen c.args.figure.now Knight c.args.f c.args.free c.index-ground-i.result g.knights c.comes_as-knight.result c.requires free ground.knights c.comes_as-knight.ensures)
    (one-kind R g.base.side g.base.frozen c.args.figure.now Bishop c.args.f c.args.free c.index-ground-i-2.result g.bishops c.comes_as-bishop.result c.requires free ground.bishops c.comes_as-bishop.ensures)
    (one-kind R g.base.side g.base.frozen c.args.figure.now Rook c.args.f c.args.free c.index-ground-i-3.result g.rooks c.comes_as-rook.result c.requires free ground.rooks c.comes_as-rook.ensures)
    (one-kind R g.base.side g.base.frozen c.args.figure.now Queen c.args.f c.args.free c.index-ground-i-4.result g.queens c.comes_as-queen.result c.requires free ground.queens c.comes_as-queen.ensures)
