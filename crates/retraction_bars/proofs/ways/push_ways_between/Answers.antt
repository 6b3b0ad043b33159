use Rattle.std.proofs.Common.{List, ◌++◌, Bool, Option, Some, None}
use Rattle.board_base.specs.declared.men.Kind.{Kind}
use Rattle.board_base.specs.declared.men.Kind.TheVariants.{Knight, Bishop, Rook, Queen}
use Rattle.board_base.specs.declared.unmoves.Unmove.{Unmove}
use Rattle.play_rules.specs.Listed.{move_of, moves_between}
use Rattle.unmove_gen.specs.Listed.{unmoves_of}
use Rattle.retraction_bars.specs.Ways.{is_way}
use Rattle.retraction_bars.proofs.Kept.{kept_more}
use Rattle.retraction_bars.proofs.ways.push_ways_between.Goals as goal

pub returns : goal.returns
unfolding moves_between
returns c =
    let by : Option Kind → List Unmove = λ promo. unmoves_of (move_of c.args.from c.args.to promo) in
    let p : Unmove → Bool = is_way c.args.query.now in
    kept_more p _ _ _ (((by None ++ by (Some Knight)) ++ by (Some Bishop)) ++ by (Some Rook)) (by (Some Queen))
    (kept_more p _ _ _ ((by None ++ by (Some Knight)) ++ by (Some Bishop)) (by (Some Rook))
    (kept_more p _ _ _ (by None ++ by (Some Knight)) (by (Some Bishop))
    (kept_more p _ _ _ (by None) (by (Some Knight)) c.in_ok-push_ways_by.ensures c.in_ok-push_ways_by-2.ensures)
    c.in_ok-push_ways_by-3.ensures) c.in_ok-push_ways_by-4.ensures) c.in_ok-push_ways_by-5.ensures
