use Rattle.std.proofs.Common.{◌≡◌, ◌+◌, ℕ, Bool, true, false, List, cond, set, subst, arith}
use Rattle.board_base.specs.Board.{at, same_place}
use Rattle.cage_rules.specs.Tests.{squares_alike}
use Rattle.cage_rules.proofs.Filling.{Filled, empty-start, filled-that}
use Rattle.cage_rules.proofs.Sorting.{filled-if}
use Rattle.cage_rules.proofs.arrays.squares_alike.Goals as goal

pub loop-i-init : goal.loop-i-init
loop-i-init c = empty-start (λ (s : ℕ). same_place (at c.args.board.now s) (at c.args.first.now s)) _ c.from_bits-alike.ensures.squares

pub loop-i-preserved : goal.loop-i-preserved
loop-i-preserved c =
    let p : ℕ → Bool = λ s. same_place (at c.args.board.now s) (at c.args.first.now s) in
    let here : p c.loop-i.i ≡ c.is_same_place.result = cc in
    let e : cond c.is_same_place.result (set c.loop-i.alike c.loop-i.i true) c.loop-i.alike ≡ c.with_if-alike.result = cc in
    subst (λ (l : List Bool). Filled p false l (c.loop-i.i + 1)) e (filled-if p c.loop-i.alike c.loop-i.i c.is_same_place.result c.loop-i-test.true here c.loop-i.invariant)

pub returns : goal.returns
unfolding squares_alike
returns c = filled-that (λ (s : ℕ). same_place (at c.args.board.now s) (at c.args.first.now s)) c.loop-i.alike c.loop-i.i (omega arith) c.loop-i.invariant
