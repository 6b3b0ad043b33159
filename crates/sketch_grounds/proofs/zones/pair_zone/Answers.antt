use Rattle.std.proofs.Common.{◌≡◌, ◌∙◌, Bool, false, ap, sym, ◌&&◌}
use Rattle.std.proofs.lemmas.Bool.{and_from}
use Rattle.std.specs.List.{list_all}
use Rattle.board_base.specs.Board.{same_kind}
use Rattle.board_base.specs.declared.men.Kind.TheVariants.{Pawn}
use Rattle.figures.specs.Figures.{Figure}
use Rattle.sketch_grounds.specs.LeastZones.{is_pair, least_zone}
use Rattle.sketch_grounds.proofs.zones.pair_zone.Goals as goal

pub returns-then-not-is_only : goal.returns-then-not-is_only
returns-then-not-is_only c =
    let kinds : c.figure.inside.kinds ≡ c.args.figure.now.kinds = ap (λ (x : Figure). x.kinds) c.figure.view_is in
    let no : c.is_only.result ≡ false = cc in
    ap (λ (b : Bool). b && is_pair (least_zone c.args.wall c.args.figure.now)) (ap (list_all (same_kind Pawn)) (sym kinds) ∙ sym c.is_only.ensures ∙ no)

pub returns-then-is_pair : goal.returns-then-is_pair
returns-then-is_pair c = (
  and_from (list_all (same_kind Pawn) c.args.figure.now.kinds) (is_pair (least_zone c.args.wall c.args.figure.now)) c.zone_of-zone.ensures.zone.pawn (ap is_pair (sym c.zone_of-zone.ensures.value) ∙ sym c.is_pair.ensures ∙ c.if-is_pair.true),
  c.zone_of-zone.ensures.value,
  c.zone_of-zone.ensures.size,
  c.zone_of-zone.ensures.zone,
)

pub returns-else-is_pair : goal.returns-else-is_pair
returns-else-is_pair c =
    let no : is_pair (least_zone c.args.wall c.args.figure.now) ≡ false = ap is_pair (sym c.zone_of-zone.ensures.value) ∙ sym c.is_pair.ensures ∙ c.if-is_pair.false in
    ap (λ (b : Bool). b && is_pair (least_zone c.args.wall c.args.figure.now)) c.zone_of-zone.ensures.zone.pawn ∙ no
