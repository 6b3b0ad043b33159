use Rattle.std.proofs.Common.{◌≡◌, ◌++◌, ◌≤◌, ℕ, List, length, append-nil, length-append, ap, sym, ◌∙◌, subst, arith}
use Rattle.std.specs.Prelude.{Some, None}
use Rattle.board_base.specs.Board.{at}
use Rattle.past_sketches.specs.Figures.{Figure, figure_of, sketch_of}
use Rattle.figures.proofs.OfMen.{men-many, men-more, men-none}
use Rattle.figures.proofs.boards.sketch_of.Goals as goal
use Rattle.figures.proofs.boards.sketch_of.Goals.{in-Some+else-len-eq32, in_default}

pub loop-i-preserved : goal.loop-i-preserved
loop-i-preserved c = elim c.match-at.branch [
  | in-Some+else-len-eq32 w ↦
      let same : c.known-s.result ≡ c.loop-i.i = c.known-s.ensures in
      let there : at c.args.board.now c.loop-i.i ≡ Some w.in-Some.man = ap (at c.args.board.now) (sym same) ∙ sym w.in-Some.ensures.man in
      let pushed : c.match-at.sketch ≡ c.loop-i.sketch ++ figure_of c.loop-i.i (Some w.in-Some.man) = w.sketch-is ∙ w.push.ensures ∙ ap (λ (l : List Figure). c.loop-i.sketch ++ l) (sym w.figure_on.ensures ∙ ap (λ (s : ℕ). figure_of s (Some w.in-Some.man)) same) in
      record {
        all = men-more c.args.board.now c.loop-i.i (Some w.in-Some.man) c.loop-i.sketch c.match-at.sketch _ c.loop-i-test.true there pushed c.loop-i.invariant.all;
        few = omega (arith, ap length pushed, length-append c.loop-i.sketch (figure_of c.loop-i.i (Some w.in-Some.man)));
      }
  | in_default w ↦
      let same : c.known-s.result ≡ c.loop-i.i = c.known-s.ensures in
      let there : at c.args.board.now c.loop-i.i ≡ None = ap (at c.args.board.now) (sym same) ∙ sym w.in_default.ensures.man in
      record {
        all = men-more c.args.board.now c.loop-i.i None c.loop-i.sketch c.match-at.sketch _ c.loop-i-test.true there (w.sketch-is ∙ sym (append-nil c.loop-i.sketch)) c.loop-i.invariant.all;
        few = omega (arith, ap length w.sketch-is);
      }
]

pub returns-then-len-eq32 : goal.returns-then-len-eq32
unfolding sketch_of
returns-then-len-eq32 c =
    let same : c.known-s.result ≡ c.loop-i.i = c.known-s.ensures in
    let there : at c.args.board.now c.loop-i.i ≡ Some c.in-Some.man = ap (at c.args.board.now) (sym same) ∙ sym c.in-Some.ensures.man in
    men-many c.args.board.now c.loop-i.i c.in-Some.man c.loop-i.sketch c.loop-i-test.true there (sym c.len.ensures.value ∙ c.if-len-eq32.true) c.loop-i.invariant.all

pub returns : goal.returns
unfolding sketch_of
returns c =
    let same : c.loop-i.sketch ≡ sketch_of c.args.board.now = men-none c.args.board.now c.loop-i.i c.loop-i.sketch _ (omega arith) c.loop-i.invariant.all in
    (subst (λ (l : List Figure). length l ≤ 32) same c.loop-i.invariant.few, same)
