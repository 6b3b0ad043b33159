use Rattle.std.proofs.Common.{◌≡◌, ◌++◌, ℕ, [], cond}
use Rattle.std.specs.List.{flat_map, range_with_len}
use Rattle.ledger_lines.specs.Slants.{is_slant_from, slant_words}
use Rattle.ledger_lines.proofs.slants.push_way.Given as goal

abbrev pub invariant-loop-i : goal.invariant-loop-i
invariant-loop-i l = l.out.items ≡ l.fn.out.items ++ flat_map (λ (h : ℕ). cond (is_slant_from l.homes l.s h) (slant_words l.before h l.s) []) (range_with_len 0 l.i)
