use Rattle.std.proofs.Common.{◌≡◌, ◌==◌, ◌+◌, ℕ}
use Rattle.std.specs.List.{list_any, range_with_len}
use Rattle.board_base.specs.Attacks.{on_the_way}
use Rattle.capture_prices.specs.Prices.{class_of}
use Rattle.ledger_lines.proofs.slants.is_slant_on.Given as goal

abbrev pub invariant-loop-k : goal.invariant-loop-k
invariant-loop-k l = l.found ≡ list_any (λ (k : ℕ). class_of (on_the_way l.h l.s (k + 1)) == l.class) (range_with_len 0 l.k)
