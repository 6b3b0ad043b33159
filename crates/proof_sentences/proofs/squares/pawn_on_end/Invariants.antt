use Rattle.std.proofs.Common.{◌≡◌, ◌-◌, ◌<◌, ℕ, false, not}
use Rattle.std.specs.List.{list_all, range_with_len}
use Rattle.play_rules.specs.Laws.{has_no_pawn_on_ends}
use Rattle.proof_sentences.specs.Firsts.{is_pawn_on_end}
use Rattle.proof_sentences.proofs.squares.pawn_on_end.Given as goal

abbrev pub invariant-loop-i : goal.invariant-loop-i
invariant-loop-i l = record {
  rest : list_all (λ s. not (is_pawn_on_end l.board s)) (range_with_len l.i (64 - l.i)) ≡ has_no_pawn_on_ends l.board;
  none : (s : ℕ) → s < l.i → is_pawn_on_end l.board s ≡ false;
}
