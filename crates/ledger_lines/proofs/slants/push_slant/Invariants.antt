use Rattle.std.proofs.Common.{◌≡◌, ◌+◌, ◌++◌, ℕ}
use Rattle.std.specs.List.{flat_map, range_with_len}
use Rattle.board_base.specs.Attacks.{on_the_way}
use Rattle.board_base.specs.Texts.{square_text}
use Rattle.ledger_lines.proofs.slants.push_slant.Given as goal

abbrev pub invariant-loop-k : goal.invariant-loop-k
invariant-loop-k l = l.out.items ≡ l.fn.out.items ++ flat_map (λ (k : ℕ). l.before ++ square_text (on_the_way l.h l.s (k + 1))) (range_with_len 0 l.k)
