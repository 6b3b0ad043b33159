use Rattle.std.proofs.Common.{◌≡◌, ◌∙◌, ℕ, ap, arith}
use Rattle.std.specs.List.{list_any, range_with_len}
use Rattle.ledger_lines.specs.Slants.{has_slant_on, is_slant_from_on}
use Rattle.ledger_lines.proofs.Homes.{any-more}
use Rattle.ledger_lines.proofs.slants.has_slant_on.Goals as goal

pub loop-i-preserved : goal.loop-i-preserved
loop-i-preserved c =
    any-more (is_slant_from_on c.args.class c.args.homes c.args.s) c.loop-i.i c.known.result c.loop-i.found c.is_slant_from_on-here.result c.either-found.result c.loop-i.invariant c.known.ensures c.is_slant_from_on-here.ensures c.either-found.ensures

pub returns : goal.returns
unfolding has_slant_on
returns c =
    let whole : c.loop-i.i ≡ 64 = omega arith in
    c.loop-i.invariant ∙ ap (λ (n : ℕ). list_any (is_slant_from_on c.args.class c.args.homes c.args.s) (range_with_len 0 n)) whole
