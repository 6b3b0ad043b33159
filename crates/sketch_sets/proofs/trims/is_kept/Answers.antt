use Rattle.std.proofs.Common.{◌≡◌, ◌||◌, not, Bool, ap, sym, ◌∙◌}
use Rattle.std.specs.List.{list_all}
use Rattle.board_base.specs.Board.{same_kind}
use Rattle.board_base.specs.declared.men.Kind.TheVariants.{Pawn}
use Rattle.figures.specs.Figures.{Figure}
use Rattle.sketch_sets.proofs.Trimming.{kept-officer, kept-out, kept-pawn}
use Rattle.sketch_sets.proofs.trims.is_kept.Goals as goal

free-is : (member there fixed on : Bool) → member ≡ there → fixed ≡ on → (not there || on) ≡ (not member || fixed)
free-is member there fixed on a b = ap (λ (x : Bool). not x || on) (sym a) ∙ ap (λ (x : Bool). not member || x) (sym b)

pub returns-then-not-free : goal.returns-then-not-free
returns-then-not-free c = kept-out c.args.sketch.now c.args.fixed c.args.figure.now c.args.s (free-is _ _ _ _ c.has.ensures.member c.is_fixed_on.ensures ∙ c.if-not-free.true)

pub returns-then-not-is_only : goal.returns-then-not-is_only
returns-then-not-is_only c = kept-officer c.args.sketch.now c.args.fixed c.args.figure.now c.args.s (free-is _ _ _ _ c.has.ensures.member c.is_fixed_on.ensures ∙ c.if-not-free.false) (ap (λ (f : Figure). list_all (same_kind Pawn) f.kinds) (sym c.figure.view_is) ∙ sym c.is_only.ensures ∙ c.if-not-is_only.true)

pub returns : goal.returns
returns c = c.all_leave_room.ensures ∙ kept-pawn c.args.sketch.now c.args.fixed c.args.figure.now c.args.s (free-is _ _ _ _ c.has.ensures.member c.is_fixed_on.ensures ∙ c.if-not-free.false) (ap (λ (f : Figure). list_all (same_kind Pawn) f.kinds) (sym c.figure.view_is) ∙ sym c.is_only.ensures ∙ c.if-not-is_only.false)
