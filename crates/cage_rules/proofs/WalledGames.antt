-- Games in which the men of a set stay: the squares of the set are never empty, and no move leaves or enters them.
use Rattle.std.proofs.Common.{◌≡◌, ℕ, ◌<◌, ◌==◌, ◌&&◌, Bool, true, false, List, [], ◌∷◌, ◌++◌, length, refl, ap, sym, ◌∙◌, subst}
use Rattle.std.proofs.lemmas.Bool.{both_ways, cond-true, eqb-true, eq-eqb, false_from_ne_true}
use Rattle.std.proofs.lemmas.List.{append_assoc}
use Rattle.std.proofs.lemmas.Option.{same_Some}
use Rattle.std.specs.Prelude.{Option, Some, None, is_none}
use Rattle.general_lemmas.proofs.Options.{unless}
use Rattle.board_base.specs.Board.{Places, array_of, at, is_empty, is_in, is_of}
use Rattle.board_base.specs.Play.{castling, goes_en_passant, en_passant_victim}
use Rattle.board_base.specs.Game.{IsGame, board_after, turn_after, last_move, unmoved}
use Rattle.board_base.specs.declared.moves.Move.{Move}
use Rattle.board_base.specs.declared.castles.Castle.{Castle}
use Rattle.play_rules.proofs.Legality.{Legality, legality}
use Rattle.play_rules.proofs.Games.{board_after-more, in_every_game}
use Rattle.play_rules.proofs.Kings.{Ends, castle-ends, length-after, within}
use Rattle.query_base.specs.Asked.{Asked}
use Rattle.men_account.specs.Labels.{label_at, labels_after}
use Rattle.men_account.proofs.Moved.{moved_from}
use Rattle.men_account.proofs.Labelled.{labels-apart, labels-each_man, on-label}
use Rattle.cage_rules.specs.Laws.{Caged, StandAsBegun, Walled}
use Rattle.cage_rules.proofs.FrozenLabels.{keep-labels, label-more}
use Rattle.cage_rules.proofs.Histories.{game-begins}
use Rattle.cage_rules.proofs.Stays.{Stays, castle-from, king-comes, same-man, whence}

-- the men of a frozen set stay in each game that leads to the query
pub caged-walled : (o : List Bool) (g : List Move) (q : Asked) (set : List Bool) → Caged o g q set → Walled o g set
caged-walled o g q set caged = record { game = caged.leads.game; labels = keep-labels o g q set caged }

-- the set's squares are never empty
pub walled-full : (o : List Bool) (g before after : List Move) (set : List Bool) → Walled o g set → g ≡ before ++ after → (s : ℕ) → is_in set s ≡ true → is_empty (at (board_after o before) s) ≡ false
walled-full o g before after set walled e s member =
    sym (labels-each_man o before (game-begins o before after (subst (IsGame o) e walled.game)) s) ∙ ap is_none (walled.labels before (after, e) s member)

-- what comes to the target of a move that is no capture en passant of the target itself came from the origin
target-from : (m : Move) (castle : Option Castle) (en_passant : Bool) (board : Places) (u : ℕ) → castling board m ≡ castle → moved_from m castle en_passant m.to ≡ Some u → u ≡ m.from
target-from m None en_passant board u e led =
    let plain = (unless (en_passant && (m.to == en_passant_victim m)) _ u led).1 in
    same_Some u m.from (sym plain ∙ cond-true (m.to == m.to) (Some m.from) _ (eq-eqb m.to m.to refl))
target-from m (Some x) en_passant board u e led =
    let ends : Ends m x board = castle-ends board m x e in
    same_Some u m.from (sym led ∙ castle-from board m x m.to ends ∙ ap (whence x) (sym ends.to) ∙ king-comes x ∙ ap Some ends.from)

-- and no move of the game leaves or enters one
pub walled-stays : (o : List Bool) (g before after : List Move) (m : Move) (set : List Bool) → Walled o g set → g ≡ before ++ m ∷ after → (s : ℕ) → is_in set s ≡ true → Stays m (castling (board_after o before) m) (goes_en_passant (board_after o before) m) s
walled-stays o g before after m set walled e s member =
    let e' : g ≡ (before ++ m ∷ []) ++ after = e ∙ sym (append_assoc before (m ∷ []) after) in
    let game : IsGame o before = game-begins o before (m ∷ after) (subst (IsGame o) e walled.game) in
    let l : Legality (board_after o before) (turn_after before) (unmoved o before) (last_move before) m = legality _ _ _ _ _ (walled.game before after m e) in
    let here : label_at (labels_after o before) s ≡ Some s = walled.labels before (m ∷ after, e) s member in
    let from = on-label (labels_after o before) (moved_from m (castling (board_after o before) m) (goes_en_passant (board_after o before) m) s) s (sym (label-more o before m s game l) ∙ walled.labels (before ++ m ∷ []) (after, e') s member) in
    let same : from.0 ≡ s = labels-apart o before game from.0 s s from.2 here in
    record {
      from = from.1 ∙ ap Some same;
      elsewhere = false_from_ne_true (s == m.to) (λ to.
          let is : s ≡ m.to = eqb-true s m.to to in
          let led : moved_from m (castling (board_after o before) m) (goes_en_passant (board_after o before) m) m.to ≡ Some s = subst (λ (t : ℕ). moved_from m (castling (board_after o before) m) (goes_en_passant (board_after o before) m) t ≡ Some s) is (from.1 ∙ ap Some same) in
          let origin : s ≡ m.from = target-from m (castling (board_after o before) m) (goes_en_passant (board_after o before) m) (board_after o before) s refl led in
          both_ways (is_of (turn_after before) (at (board_after o before) m.to)) l.not_own (ap (λ (t : ℕ). is_of (turn_after before) (at (board_after o before) t)) (sym is ∙ origin) ∙ l.mover));
    }

-- so the set's men are those of the array
pub walled-stands : (o : List Bool) (g : List Move) (set : List Bool) → Walled o g set → StandAsBegun o g set
walled-stands o g set walled before (after, e) s member =
    in_every_game o (λ k. (rest : List Move) → g ≡ k ++ rest → at (board_after o k) s ≡ at (array_of o) s) (λ rest whole. refl)
    (λ k m game legal here rest whole.
    let e' : g ≡ k ++ m ∷ rest = whole ∙ append_assoc k (m ∷ []) rest in
    let l : Legality (board_after o k) (turn_after k) (unmoved o k) (last_move k) m = legality _ _ _ _ _ legal in
    let len : length (board_after o k) ≡ 64 = length-after o k game in
    let f : m.from < 64 = rw (← len) (within (is_of (turn_after k)) (board_after o k) m.from refl l.mover) in
    ap (λ (b : Places). at b s) (board_after-more o k m) ∙ same-man (board_after o k) m s len f l.on_board (walled-stays o g k rest m set walled e' s member) ∙ here (m ∷ rest) e')
    before (game-begins o before after (subst (IsGame o) e walled.game)) after e
