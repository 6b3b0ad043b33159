use Rattle.std.proofs.Common.{◌≡◌, ◌-◌, ◌<◌, ℕ, false}
use Rattle.std.specs.List.{list_any, range_with_len}
use Rattle.board_base.specs.Legal.{in_check}
use Rattle.proof_sentences.specs.Firsts.{is_king_attacked}
use Rattle.proof_sentences.proofs.squares.king_in_check.Given as goal

abbrev pub invariant-loop-i : goal.invariant-loop-i
invariant-loop-i l = record {
  rest : list_any (is_king_attacked l.board l.side) (range_with_len l.i (64 - l.i)) ≡ in_check l.board l.side;
  none : (s : ℕ) → s < l.i → is_king_attacked l.board l.side s ≡ false;
}
