use Rattle.std.proofs.Common.{◌≡◌, ℕ, Bool, ◌&&◌, ◌||◌, not, ap, sym, ◌∙◌}
use Rattle.std.specs.Prelude.{nat_lt}
use Rattle.figures.specs.Figures.{Figure}
use Rattle.sketch_sets.specs.Files.{is_below}
use Rattle.sketch_sets.proofs.Rooms.{room-off, room-on}
use Rattle.sketch_sets.proofs.trims.leaves_room.Goals as goal

pub returns-then-not-is_pawn_beside : goal.returns-then-not-is_pawn_beside
returns-then-not-is_pawn_beside c = sym (room-off c.args.figure.now c.args.e c.args.other.now (sym c.is_pawn_beside.ensures ∙ c.if-not-is_pawn_beside.true))

pub returns : goal.returns
returns c =
    let f : c.figure.inside.place ≡ c.args.figure.now.place = ap (λ (x : Figure). x.place) c.figure.view_is in
    let g : c.other.inside.place ≡ c.args.other.now.place = ap (λ (x : Figure). x.place) c.other.view_is in
    ap (λ (n : ℕ). (not (nat_lt n c.figure.inside.place) || c.stands_below.result) && (not (nat_lt c.figure.inside.place n) || c.stands_above.result)) g
    ∙ ap (λ (n : ℕ). (not (nat_lt c.args.other.now.place n) || c.stands_below.result) && (not (nat_lt n c.args.other.now.place) || c.stands_above.result)) f
    ∙ ap (λ (b : Bool). (not (nat_lt c.args.other.now.place c.args.figure.now.place) || b) && (not (nat_lt c.args.figure.now.place c.args.other.now.place) || c.stands_above.result)) c.stands_below.ensures
    ∙ ap (λ (b : Bool). (not (nat_lt c.args.other.now.place c.args.figure.now.place) || is_below c.args.e c.args.other.now) && (not (nat_lt c.args.figure.now.place c.args.other.now.place) || b)) c.stands_above.ensures
    ∙ sym (room-on c.args.figure.now c.args.e c.args.other.now (sym c.is_pawn_beside.ensures ∙ c.if-not-is_pawn_beside.false))
