use Rattle.std.proofs.Common.{ℕ, ◌≡◌, ◌+◌, cond, set, ap, sym, ◌∙◌, subst, arith}
use Rattle.std.specs.Prelude.{Option, None}
use Rattle.board_base.specs.Board.{Places, at, is_in}
use Rattle.board_base.specs.declared.men.Man.{Man}
use Rattle.cage_rules.proofs.Beginners.{empty-board}
use Rattle.cage_rules.proofs.Filling.{Filled, filled-end, filled-in}
use Rattle.static_rules.specs.Left.{left_with}
use Rattle.proof_sentences.proofs.lessening.kept_men.Goals as goal

pub loop-i-init : goal.loop-i-init
loop-i-init c = empty-board (λ (s : ℕ). cond (is_in c.args.set s) (at c.args.board.now s) None) _ c.empty-left.ensures

pub returns : goal.returns
unfolding left_with
returns c = filled-end (λ (s : ℕ). cond (is_in c.args.set s) (at c.args.board.now s) None) None c.loop-i.left c.loop-i.i (omega arith) c.loop-i.invariant

pub loop-i-preserved : goal.loop-i-preserved
loop-i-preserved c =
    let f : ℕ → Option Man = λ (s : ℕ). cond (is_in c.args.set s) (at c.args.board.now s) None in
    let e : c.put.new.self ≡ set c.loop-i.left c.loop-i.i c.place_if.result = c.put.ensures ∙ ap (λ (s : ℕ). set c.loop-i.left s c.place_if.result) c.known-s.ensures in
    let here : c.place_if.result ≡ cond (is_in c.args.set c.loop-i.i) (at c.args.board.now c.loop-i.i) None =
    c.place_if.ensures ∙ ap (λ (m : Option Man). cond (is_in c.args.set c.known-s.result) m None) c.at.ensures.man ∙ ap f c.known-s.ensures in
    subst (λ (b : Places). Filled f None b (c.loop-i.i + 1)) (sym e) (filled-in f None c.loop-i.left c.loop-i.i c.place_if.result c.loop-i-test.true (sym here) c.loop-i.invariant)
