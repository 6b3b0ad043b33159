use Rattle.std.proofs.Common.{◌≡◌, ◌==◌, ◌+◌, ◌∙◌, ℕ, Bool, ap, refl, arith}
use Rattle.std.specs.List.{list_any, range_with_len}
use Rattle.board_base.specs.Attacks.{files_apart, on_the_way}
use Rattle.capture_prices.specs.Prices.{class_of}
use Rattle.ledger_lines.specs.Slants.{is_slant_on}
use Rattle.ledger_lines.proofs.Homes.{any-more}
use Rattle.ledger_lines.proofs.slants.is_slant_on.Goals as goal

pub loop-k-preserved : goal.loop-k-preserved
loop-k-preserved c =
    let p : ℕ → Bool = λ k. class_of (on_the_way c.args.h c.args.s (k + 1)) == c.args.class in
    any-more p c.loop-k.k c.loop-k.k c.loop-k.found c.is_step_on-here.result c.either-found.result c.loop-k.invariant refl c.is_step_on-here.ensures c.either-found.ensures

pub returns : goal.returns
unfolding is_slant_on
returns c =
    let p : ℕ → Bool = λ k. class_of (on_the_way c.args.h c.args.s (k + 1)) == c.args.class in
    let whole : c.loop-k.k ≡ files_apart c.args.h c.args.s = omega arith in
    c.loop-k.invariant ∙ ap (λ (n : ℕ). list_any p (range_with_len 0 n)) whole
