use Rattle.std.proofs.Common.{ℕ, ◌≡◌, ◌+◌, cond, set, ap, sym, ◌∙◌, subst, arith}
use Rattle.std.specs.Prelude.{None}
use Rattle.board_base.specs.Board.{Places, at}
use Rattle.static_rules.specs.Left.{may_live, left_with}
use Rattle.cage_rules.proofs.Beginners.{empty-board}
use Rattle.cage_rules.proofs.Filling.{Filled, filled-end, filled-in}
use Rattle.static_rules.proofs.living_homes.living.Goals as goal

pub loop-i-init : goal.loop-i-init
loop-i-init c = empty-board (λ (s : ℕ). cond (may_live c.args.side c.args.first.now c.args.board.now c.args.set s) (at c.args.first.now s) None) _ c.empty-left.ensures

pub returns : goal.returns
unfolding left_with
returns c = filled-end (λ (s : ℕ). cond (may_live c.args.side c.args.first.now c.args.board.now c.args.set s) (at c.args.first.now s) None) None c.loop-i.left c.loop-i.i (omega arith) c.loop-i.invariant

pub loop-i-preserved : goal.loop-i-preserved
loop-i-preserved c =
    let e : c.put.new.self ≡ set c.loop-i.left c.loop-i.i c.living_at.result = c.put.ensures ∙ ap (λ (s : ℕ). set c.loop-i.left s c.living_at.result) c.known-s.ensures in
    let here : c.living_at.result ≡ cond (may_live c.args.side c.args.first.now c.args.board.now c.args.set c.loop-i.i) (at c.args.first.now c.loop-i.i) None = c.living_at.ensures ∙ ap (λ (s : ℕ). cond (may_live c.args.side c.args.first.now c.args.board.now c.args.set s) (at c.args.first.now s) None) c.known-s.ensures in
    subst (λ (b : Places). Filled (λ (s : ℕ). cond (may_live c.args.side c.args.first.now c.args.board.now c.args.set s) (at c.args.first.now s) None) None b (c.loop-i.i + 1)) (sym e) (filled-in (λ (s : ℕ). cond (may_live c.args.side c.args.first.now c.args.board.now c.args.set s) (at c.args.first.now s) None) None c.loop-i.left c.loop-i.i c.living_at.result c.loop-i-test.true (sym here) c.loop-i.invariant)
