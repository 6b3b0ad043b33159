use Rattle.std.proofs.Common.{◌≡◌, ◌-◌, ◌==◌, ◌∙◌, ℕ, Bool, not, refl, ap, sym, arith}
use Rattle.std.specs.Prelude.{◌&&◌}
use Rattle.std.specs.List.{list_all, range_with_len}
use Rattle.general_lemmas.proofs.Ranges.{all_step, all_stop}
use Rattle.board_base.specs.Board.{is_in}
use Rattle.ledger_prose.specs.Sentences.{is_alone}
use Rattle.ledger_prose.proofs.due.is_alone.Goals as goal

pub loop-i-init : goal.loop-i-init
unfolding is_alone
loop-i-init c = refl

pub returns-then-is_other : goal.returns-then-is_other
returns-then-is_other c =
    let p : ℕ → Bool = λ s. not (is_in c.args.set s && not (s == c.args.h)) in
    let other = rw c.known.ensures at (sym c.is_other.ensures ∙ c.if-is_other.true) in
    all_stop p c.loop-i.i 64 _ c.loop-i-test.true (ap not other) c.loop-i.invariant

pub loop-i-preserved : goal.loop-i-preserved
loop-i-preserved c =
    let p : ℕ → Bool = λ s. not (is_in c.args.set s && not (s == c.args.h)) in
    let none = rw c.known.ensures at (sym c.is_other.ensures ∙ c.if-is_other.false) in
    all_step p c.loop-i.i 64 _ c.loop-i-test.true (ap not none) c.loop-i.invariant

pub returns : goal.returns
returns c =
    let p : ℕ → Bool = λ s. not (is_in c.args.set s && not (s == c.args.h)) in
    let none : 0 ≡ 64 - c.loop-i.i = omega arith in
    ap (λ (n : ℕ). list_all p (range_with_len c.loop-i.i n)) none ∙ c.loop-i.invariant
