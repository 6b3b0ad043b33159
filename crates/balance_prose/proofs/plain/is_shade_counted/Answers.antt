use Rattle.std.proofs.Common.{ℕ, Bool, nat_lt, sym, ◌∙◌, arith, refl}
use Rattle.general_lemmas.proofs.Ranges.{any_step, any_stop, any_end}
use Rattle.balance_prose.specs.Counted.{is_shade_counted, price_on}
use Rattle.balance_prose.proofs.plain.is_shade_counted.Goals as goal

pub loop-file-init : goal.loop-file-init
unfolding is_shade_counted
loop-file-init c = refl

pub returns-then-is_paid : goal.returns-then-is_paid
returns-then-is_paid c =
    let p : ℕ → Bool = λ f. nat_lt 0 (price_on c.args.takes.now c.args.shade f) in
    any_stop p c.loop-file.file 8 _ c.loop-file-test.true (sym c.is_paid.ensures ∙ c.if-is_paid.true) c.loop-file.invariant

pub loop-file-preserved : goal.loop-file-preserved
loop-file-preserved c =
    let p : ℕ → Bool = λ f. nat_lt 0 (price_on c.args.takes.now c.args.shade f) in
    any_step p c.loop-file.file 8 _ c.loop-file-test.true (sym c.is_paid.ensures ∙ c.if-is_paid.false) c.loop-file.invariant

pub returns : goal.returns
returns c =
    let p : ℕ → Bool = λ f. nat_lt 0 (price_on c.args.takes.now c.args.shade f) in
    any_end p c.loop-file.file 8 _ (omega arith) c.loop-file.invariant
