use Rattle.std.proofs.Common.{ℕ, ap, sym, ◌∙◌}
use Rattle.board_base.specs.Board.{is_in}
use Rattle.sketch_sets.proofs.Wayside.{room-exact, room-free, room-officer}
use Rattle.sketch_sets.proofs.origins.has_room.Goals as goal

pub returns-then-not-is_pawn : goal.returns-then-not-is_pawn
returns-then-not-is_pawn c = room-officer c.args.exact.now c.args.sketch.now c.args.figure.now c.args.kind c.args.e (sym c.is_pawn.ensures ∙ c.if-not-is_pawn.true)

pub returns-then-exact-file : goal.returns-then-exact-file
returns-then-exact-file c = room-exact c.args.exact.now c.args.sketch.now c.args.figure.now c.args.kind c.args.e (sym c.is_pawn.ensures ∙ c.if-not-is_pawn.false) (ap (λ (n : ℕ). is_in c.args.exact.now n) (sym c.file.ensures) ∙ c.if-exact-file.true)

pub returns : goal.returns
returns c = c.all_leave_room.ensures ∙ room-free c.args.exact.now c.args.sketch.now c.args.figure.now c.args.kind c.args.e (sym c.is_pawn.ensures ∙ c.if-not-is_pawn.false) (ap (λ (n : ℕ). is_in c.args.exact.now n) (sym c.file.ensures) ∙ c.if-exact-file.false)
