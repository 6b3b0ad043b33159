-- Squares with labels are on the board.
use Rattle.std.proofs.Common.{◌≡◌, ℕ, ◌<◌, inl, inr, Bool, List, sym, ◌∙◌, arith}
use Rattle.std.proofs.lemmas.Bool.{cases_lt}
use Rattle.std.proofs.lemmas.List.{get_or_past}
use Rattle.std.proofs.lemmas.Option.{none-some}
use Rattle.std.specs.Prelude.{Some, None}
use Rattle.board_base.specs.Game.{IsGame}
use Rattle.board_base.specs.declared.moves.Move.{Move}
use Rattle.men_account.specs.Labels.{label_at, labels_after}
use Rattle.men_account.proofs.Labelled.{length-labels}

pub labelled-inside : (o : List Bool) (g : List Move) (s h : ℕ) → IsGame o g → label_at (labels_after o g) s ≡ Some h → s < 64
labelled-inside o g s h game label = elim (cases_lt s 64) [
  | inl inside ↦ inside
  | inr past ↦
      let none : label_at (labels_after o g) s ≡ None = get_or_past (labels_after o g) s None (omega (arith, length-labels o g game)) in
      absurd (none-some h (sym none ∙ label))
]
