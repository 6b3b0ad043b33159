use Rattle.std.proofs.Common.{◌≡◌, ◌-◌, ◌∙◌, ℕ, Bool, not, refl, ap, sym, arith}
use Rattle.std.specs.List.{list_all, range_with_len}
use Rattle.general_lemmas.proofs.Ranges.{all_step, all_stop}
use Rattle.ledger_lines.specs.Known.{is_far, is_nearer}
use Rattle.ledger_lines.proofs.captors.is_far.Goals as goal

pub loop-i-init : goal.loop-i-init
unfolding is_far
loop-i-init c = refl

pub returns-then-is_nearer : goal.returns-then-is_nearer
returns-then-is_nearer c =
    let p : ℕ → Bool = λ h. not (is_nearer c.args.query.now c.args.ledger.now c.args.s c.args.number h) in
    let near = rw c.known.ensures at (sym c.is_nearer.ensures ∙ c.if-is_nearer.true) in
    all_stop p c.loop-i.i 64 _ c.loop-i-test.true (ap not near) c.loop-i.invariant

pub loop-i-preserved : goal.loop-i-preserved
loop-i-preserved c =
    let p : ℕ → Bool = λ h. not (is_nearer c.args.query.now c.args.ledger.now c.args.s c.args.number h) in
    let other = rw c.known.ensures at (sym c.is_nearer.ensures ∙ c.if-is_nearer.false) in
    all_step p c.loop-i.i 64 _ c.loop-i-test.true (ap not other) c.loop-i.invariant

pub returns : goal.returns
returns c =
    let p : ℕ → Bool = λ h. not (is_nearer c.args.query.now c.args.ledger.now c.args.s c.args.number h) in
    let none : 0 ≡ 64 - c.loop-i.i = omega arith in
    ap (λ (n : ℕ). list_all p (range_with_len c.loop-i.i n)) none ∙ c.loop-i.invariant
