use Rattle.std.proofs.Common.{◌≡◌, ◌-◌, ◌&&◌, not, ℕ, Bool, List, refl, ap, sym, ◌∙◌, arith}
use Rattle.std.specs.List.{list_all, range_with_len}
use Rattle.board_base.specs.Board.{at, is_in, is_like, Places}
use Rattle.general_lemmas.proofs.Ranges.{all_step, all_stop}
use Rattle.cage_rules.specs.Regions.{beginner, is_dead, region}
use Rattle.std.specs.Prelude.{Option, Some}
use Rattle.board_base.specs.declared.men.Man.{Man}
use Rattle.cage_rules.proofs.roaming.is_dead.Goals as goal

alive-made : (board : Places) (frozen : List Bool) (h i : ℕ) (man : Man) (found : List Bool) (alive : Bool) → beginner h ≡ Some man → found ≡ region frozen h → alive ≡ (is_in found i && is_like (Some man) (at board i)) → not (is_in (region frozen h) i && is_like (beginner h) (at board i)) ≡ not alive
alive-made board frozen h i man found alive first squares e = ap (λ (p : Option Man). not (is_in (region frozen h) i && is_like p (at board i))) first ∙ ap (λ (l : List Bool). not (is_in l i && is_like (Some man) (at board i))) (sym squares) ∙ ap not (sym e)

pub loop-i-init : goal.loop-i-init
unfolding is_dead
loop-i-init c = refl

pub returns-then-is_alive : goal.returns-then-is_alive
returns-then-is_alive c =
    let p : ℕ → Bool = λ t. not (is_in (region c.args.frozen c.args.home) t && is_like (beginner c.args.home) (at c.args.board.now t)) in
    let here : p c.loop-i.i ≡ not c.is_alive.result = alive-made c.args.board.now c.args.frozen c.args.home c.loop-i.i c.officer-man.result c.region-region.result c.is_alive.result c.officer-man.ensures c.region-region.ensures.squares c.is_alive.ensures in
    all_stop p c.loop-i.i 64 _ c.loop-i-test.true (here ∙ ap not c.if-is_alive.true) c.loop-i.invariant

pub loop-i-preserved : goal.loop-i-preserved
loop-i-preserved c =
    let p : ℕ → Bool = λ t. not (is_in (region c.args.frozen c.args.home) t && is_like (beginner c.args.home) (at c.args.board.now t)) in
    let here : p c.loop-i.i ≡ not c.is_alive.result = alive-made c.args.board.now c.args.frozen c.args.home c.loop-i.i c.officer-man.result c.region-region.result c.is_alive.result c.officer-man.ensures c.region-region.ensures.squares c.is_alive.ensures in
    all_step p c.loop-i.i 64 _ c.loop-i-test.true (here ∙ ap not c.if-is_alive.false) c.loop-i.invariant

pub returns : goal.returns
returns c =
    let p : ℕ → Bool = λ t. not (is_in (region c.args.frozen c.args.home) t && is_like (beginner c.args.home) (at c.args.board.now t)) in
    let e : 0 ≡ 64 - c.loop-i.i = omega arith in
    ap (λ (n : ℕ). list_all p (range_with_len c.loop-i.i n)) e ∙ c.loop-i.invariant
