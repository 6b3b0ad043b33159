use Rattle.std.proofs.Common.{◌≡◌, ℕ, ◌-◌, sym, ap, ◌∙◌, arith, refl}
use Rattle.std.specs.List.{list_all, range_with_len}
use Rattle.general_lemmas.proofs.Ranges.{all_step, all_stop}
use Rattle.balance_prose.specs.Counted.{is_file_plain, is_side_plain}
use Rattle.balance_prose.proofs.plain.is_side_plain.Goals as goal

pub loop-file-init : goal.loop-file-init
unfolding is_side_plain
loop-file-init c = refl

pub returns-then-not-is_file_plain : goal.returns-then-not-is_file_plain
returns-then-not-is_file_plain c =
    all_stop (is_file_plain c.args.takes.now) c.loop-file.file 8 _ c.loop-file-test.true (sym c.is_file_plain.ensures ∙ c.if-not-is_file_plain.true) c.loop-file.invariant

pub loop-file-preserved : goal.loop-file-preserved
loop-file-preserved c =
    all_step (is_file_plain c.args.takes.now) c.loop-file.file 8 _ c.loop-file-test.true (sym c.is_file_plain.ensures ∙ c.if-not-is_file_plain.false) c.loop-file.invariant

pub returns : goal.returns
returns c =
    let e : 0 ≡ 8 - c.loop-file.file = omega arith in
    ap (λ (n : ℕ). list_all (is_file_plain c.args.takes.now) (range_with_len c.loop-file.file n)) e ∙ c.loop-file.invariant
