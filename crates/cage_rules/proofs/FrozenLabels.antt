-- Each man on a frozen set has his own square as his label.
use Rattle.std.proofs.Common.{◌≡◌, ℕ, ◌<◌, inl, inr, Bool, false, List, [], ◌∷◌, ◌++◌, length, refl, ap, ◌∙◌, subst, arith}
use Rattle.std.proofs.lemmas.Bool.{cond-false, cases_lt, both_ways}
use Rattle.std.proofs.lemmas.List.{append_assoc, get_or_past}
use Rattle.std.proofs.lemmas.List.FromFn.{get_or-map-range_with_len}
use Rattle.std.specs.Prelude.{Option, Some, None}
use Rattle.board_base.specs.Board.{array_of, at, is_empty, is_of}
use Rattle.board_base.specs.Play.{castling, goes_en_passant}
use Rattle.board_base.specs.Game.{IsGame, board_after, turn_after, last_move, unmoved}
use Rattle.board_base.specs.declared.moves.Move.{Move}
use Rattle.board_base.proofs.Without.{length-array}
use Rattle.play_rules.proofs.Legality.{Legality, legality}
use Rattle.play_rules.proofs.Games.{in_every_game}
use Rattle.play_rules.proofs.Kings.{length-after, within}
use Rattle.query_base.specs.Asked.{Asked}
use Rattle.men_account.specs.Labels.{label_at, first_labels, labels_after, own_label, relabelled}
use Rattle.men_account.proofs.Moved.{on_square, moved_from, label-moved}
use Rattle.men_account.proofs.Labelled.{labels_after-more, length-labels}
use Rattle.cage_rules.specs.Laws.{Caged, KeepLabels}
use Rattle.cage_rules.proofs.Histories.{stood-so, kept-in, game-begins}

-- the labels after one more legal move, by the squares from which the men come
pub label-more : (o : List Bool) (g : List Move) (m : Move) (s : ℕ) → IsGame o g → Legality (board_after o g) (turn_after g) (unmoved o g) (last_move g) m → label_at (labels_after o (g ++ m ∷ [])) s ≡ on_square (labels_after o g) (moved_from m (castling (board_after o g) m) (goes_en_passant (board_after o g) m) s)
unfolding relabelled
label-more o g m s game l =
    let len : length (board_after o g) ≡ 64 = length-after o g game in
    let f : m.from < 64 = rw (← len) (within (is_of (turn_after g)) (board_after o g) m.from refl l.mover) in
    ap (λ (labels : List (Option ℕ)). label_at labels s) (labels_after-more o g m) ∙ label-moved m (castling (board_after o g) m) (goes_en_passant (board_after o g) m) (labels_after o g) s (length-labels o g game) f l.on_board

first-label : (o : List Bool) (s : ℕ) → s < 64 → is_empty (at (array_of o) s) ≡ false → label_at (first_labels o) s ≡ Some s
unfolding first_labels
first-label o s inside full = get_or-map-range_with_len (own_label (array_of o)) 0 64 s s None inside (omega arith) ∙ cond-false (is_empty (at (array_of o) s)) None (Some s) full

-- an occupied square of the array is on the board
full-inside : (o : List Bool) (s : ℕ) → is_empty (at (array_of o) s) ≡ false → s < 64
full-inside o s full = elim (cases_lt s 64) [
  | inl inside ↦ inside
  | inr past ↦ absurd (both_ways _ full (ap is_empty (get_or_past (array_of o) s None (omega (arith, length-array o)))))
]

pub keep-labels : (o : List Bool) (g : List Move) (q : Asked) (set : List Bool) → Caged o g q set → KeepLabels o g set
keep-labels o g q set caged before (after, e) s member =
    let full : is_empty (at (array_of o) s) ≡ false = ap is_empty (stood-so o g q set caged [] (g, refl) s member) ∙ caged.frozen.occupied s member in
    in_every_game o (λ h. (rest : List Move) → g ≡ h ++ rest → label_at (labels_after o h) s ≡ Some s)
    (λ rest whole. first-label o s (full-inside o s full) full)
    (λ h m game legal here rest whole.
    let e' : g ≡ h ++ m ∷ rest = whole ∙ append_assoc h (m ∷ []) rest in
    let stay = (kept-in o g h rest m q set caged e').stay s member in
    label-more o h m s game (legality _ _ _ _ _ legal) ∙ ap (on_square (labels_after o h)) stay.from ∙ here (m ∷ rest) e')
    before (game-begins o before after (subst (IsGame o) e caged.leads.game)) after e
