-- In every game a way's captures are those of its pawn, and the men whom pawns took are those of the captures.
use Rattle.std.proofs.Common.{◌≡◌, ℕ, inl, inr, Bool, true, false, ◌&&◌, List, [], ◌++◌, map, refl, ap, sym, ◌∙◌, subst}
use Rattle.std.proofs.lemmas.Bool.{and_parts, and_from, and_right, both_ways, cases_Bool, cond-false, cond-true}
use Rattle.std.proofs.lemmas.List.{map-append}
use Rattle.std.specs.Prelude.{Option, Some, None, is_none}
use Rattle.std.specs.Option.{option_to_list}
use Rattle.board_base.specs.Board.{Places, array_of, at, is_a, is_empty, is_of, is_the, opponent}
use Rattle.board_base.specs.Game.{IsGame, board_after, turn_after, unmoved, last_move}
use Rattle.board_base.specs.declared.men.Colour.{Colour}
use Rattle.board_base.specs.declared.men.Kind.TheVariants.{Pawn}
use Rattle.board_base.specs.declared.moves.Move.{Move}
use Rattle.board_base.proofs.KindsOfMen.{full-of, same_colour-self}
use Rattle.board_base.proofs.Equal.{none_is}
use Rattle.play_rules.proofs.Legality.{Legality, legality}
use Rattle.play_rules.proofs.Games.{in_every_game}
use Rattle.men_account.specs.Labels.{Labels, label_at, labels_after}
use Rattle.men_account.specs.Captures.{captured_by_pawns, taken_by_pawn, taken_on}
use Rattle.men_account.proofs.Labelled.{labels-colours, labels-each_man}
use Rattle.men_account.proofs.Captured.{captured-more, man-there, same-side}
use Rattle.men_fates.specs.Deeds.{is_label, squares_trodden, strike, strike_by, strikes, struck_by, way_by, way_of}
use Rattle.men_fates.specs.Ways.{captures_on, way_end}
use Rattle.men_fates.proofs.WayLists.{captures-append}
use Rattle.men_fates.proofs.MoreDeeds.{label-is, label-told, mover-goes, other-rests, other-strikes, piece-rests, strike-none, strike-plain, strike-takes, strikes-more, struck-append, struck-empty, struck-one, way-more}
use Rattle.men_fates.proofs.Goings.{pawn-ends}
use Rattle.men_fates.proofs.Treads.{Tread, tread, trodden-captures}

-- whether a square has a label
pub label-some : (label : Option ℕ) → is_none label ≡ false → (l : ℕ) × (label ≡ Some l)
label-some None h = absurd (both_ways true h refl)
label-some (Some l) h = (l, refl)

-- the man who began on h has the colour of who stood there
pub side-of : (o : List Bool) (g : List Move) (c : Colour) (s h : ℕ) → IsGame o g → is_of c (at (array_of o) h) ≡ true → label_at (labels_after o g) s ≡ Some h → is_of c (at (board_after o g) s) ≡ true
side-of o g c s h game first label =
    let man = man-there (board_after o g) (labels_after o g) s h (labels-each_man o g game) label in
    let side : c ≡ man.0.colour = same-side c man.0.colour (at (array_of o) h) first (labels-colours o g game s h man.0 label man.1) in
    ap (is_of c) man.1 ∙ subst (λ (x : Colour). is_of x (Some man.0) ≡ true) (sym side) (same_colour-self man.0.colour)

-- the captures that a pawn's move adds to his way and to those of his side
goes-captures : (o : List Bool) (g : List Move) (m : Move) (c : Colour) (h : ℕ) → IsGame o g → Legality (board_after o g) (turn_after g) (unmoved o g) (last_move g) m → is_the c Pawn (at (board_after o g) m.from) ≡ true → label_at (labels_after o g) m.from ≡ Some h → captures_on m.from (squares_trodden m) ≡ struck_by h (strike_by c (board_after o g) (labels_after o g) m)
goes-captures o g m c h game legal pawn label =
    let board : Places = board_after o g in
    let labels : Labels = labels_after o g in
    let way : Tread board (turn_after g) m = tread board (turn_after g) (unmoved o g) (last_move g) m (and_parts (is_of c (at board m.from)) (is_a Pawn (at board m.from)) pawn).1 legal.on_board legal.manner in
    let plain : strike_by c board labels m ≡ strike (label_at labels m.from) (label_at labels (taken_on board m)) m.to = strike-plain c board labels m pawn in
    let each : is_none (label_at labels (taken_on board m)) ≡ is_empty (at board (taken_on board m)) = labels-each_man o g game (taken_on board m) in
    elim (trodden-captures board (turn_after g) m legal.on_board way) [
      | inl none ↦
          none.0 ∙ sym (ap (struck_by h) plain ∙ struck-empty h m.to (label_at labels m.from) (label_at labels (taken_on board m)) (none_is (label_at labels (taken_on board m)) (each ∙ none.1)))
      | inr one ↦
          let victim = label-some (label_at labels (taken_on board m)) (each ∙ full-of (opponent (turn_after g)) (at board (taken_on board m)) one.1) in
          one.0 ∙ sym (ap (struck_by h) plain ∙ struck-one h victim.0 m.to (label_at labels m.from) (label_at labels (taken_on board m)) label victim.1)
    ]

rests-captures : (o : List Bool) (g : List Move) (m : Move) (c : Colour) (s h : ℕ) → (is_a Pawn (at (board_after o g) m.from) && is_label (label_at (labels_after o g) m.from) h) ≡ false → captures_on s (way_by h (board_after o g) (labels_after o g) m) ≡ struck_by h (strike_by c (board_after o g) (labels_after o g) m)
rests-captures o g m c s h other =
    let board : Places = board_after o g in
    let labels : Labels = labels_after o g in
    elim (cases_Bool (is_a Pawn (at board m.from))) [
      | inl pawn ↦
          let apart : label_at labels m.from ≡ Some h → ⊥ = λ label. both_ways _ other (and_from _ _ pawn (label-is (label_at labels m.from) h label)) in
          ap (captures_on s) (other-rests h board labels m apart) ∙ sym (other-strikes h c board labels m apart)
      | inr piece ↦
          ap (captures_on s) (piece-rests h board labels m piece) ∙ sym (ap (struck_by h) (strike-none c board labels m (and_right (is_of c (at board m.from)) _ piece)))
    ]

added-captures : (o : List Bool) (g : List Move) (m : Move) (c : Colour) (h : ℕ) → IsGame o g → Legality (board_after o g) (turn_after g) (unmoved o g) (last_move g) m → is_of c (at (array_of o) h) ≡ true → captures_on (way_end h (way_of o g h)) (way_by h (board_after o g) (labels_after o g) m) ≡ struck_by h (strike_by c (board_after o g) (labels_after o g) m)
added-captures o g m c h game legal first =
    let board : Places = board_after o g in
    let labels : Labels = labels_after o g in
    elim (cases_Bool (is_a Pawn (at board m.from) && is_label (label_at labels m.from) h)) [
      | inl his ↦
          let parts = and_parts (is_a Pawn (at board m.from)) (is_label (label_at labels m.from) h) his in
          let label : label_at labels m.from ≡ Some h = label-told (label_at labels m.from) h parts.1 in
          ap (λ (s : ℕ). captures_on s (way_by h board labels m)) (pawn-ends o g game m.from h label parts.0)
          ∙ ap (captures_on m.from) (mover-goes h board labels m parts.0 label)
          ∙ goes-captures o g m c h game legal (and_from _ _ (side-of o g c m.from h game first label) parts.0) label
      | inr other ↦ rests-captures o g m c (way_end h (way_of o g h)) h other
    ]

pub way-captures : (o : List Bool) (g : List Move) (c : Colour) (h : ℕ) → IsGame o g → is_of c (at (array_of o) h) ≡ true → captures_on h (way_of o g h) ≡ struck_by h (strikes o g c)
way-captures o g c h game first =
    in_every_game o (λ k. captures_on h (way_of o k h) ≡ struck_by h (strikes o k c)) refl
    (λ k m before allowed here.
    ap (captures_on h) (way-more o k m h) ∙ captures-append h (way_of o k h) (way_by h (board_after o k) (labels_after o k) m)
    ∙ ap (λ (l : List ℕ). l ++ captures_on (way_end h (way_of o k h)) (way_by h (board_after o k) (labels_after o k) m)) here
    ∙ ap (λ (l : List ℕ). struck_by h (strikes o k c) ++ l) (added-captures o k m c h before (legality _ _ _ _ _ allowed) first)
    ∙ sym (ap (struck_by h) (strikes-more o k m c) ∙ struck-append h (strikes o k c) (strike_by c (board_after o k) (labels_after o k) m)))
    g game

-- the men taken
taken-more : (o : List Bool) (g : List Move) (m : Move) (c : Colour) → IsGame o g → map (λ x. x.of) (strike_by c (board_after o g) (labels_after o g) m) ≡ taken_by_pawn c (board_after o g) (labels_after o g) m
taken-more o g m c game = elim (cases_Bool (is_the c Pawn (at (board_after o g) m.from))) [
  | inl pawn ↦
      let board : Places = board_after o g in
      let labels : Labels = labels_after o g in
      let his = label-some (label_at labels m.from) (labels-each_man o g game m.from ∙ full-of c (at board m.from) (and_parts (is_of c (at board m.from)) (is_a Pawn (at board m.from)) pawn).0) in
      ap (map (λ x. x.of)) (strike-plain c board labels m pawn) ∙ strike-takes (label_at labels m.from) (label_at labels (taken_on board m)) m.to his.0 his.1 ∙ sym (cond-true _ (option_to_list (label_at labels (taken_on board m))) [] pawn)
  | inr other ↦ ap (map (λ x. x.of)) (strike-none c (board_after o g) (labels_after o g) m other) ∙ sym (cond-false _ (option_to_list (label_at (labels_after o g) (taken_on (board_after o g) m))) [] other)
]

pub strikes-take : (o : List Bool) (g : List Move) (c : Colour) → IsGame o g → map (λ x. x.of) (strikes o g c) ≡ captured_by_pawns o g c
strikes-take o g c game =
    in_every_game o (λ k. map (λ x. x.of) (strikes o k c) ≡ captured_by_pawns o k c) refl
    (λ k m before allowed here.
    ap (map (λ x. x.of)) (strikes-more o k m c) ∙ map-append (λ x. x.of) (strikes o k c) (strike_by c (board_after o k) (labels_after o k) m)
    ∙ ap (λ (l : List ℕ). l ++ map (λ x. x.of) (strike_by c (board_after o k) (labels_after o k) m)) here
    ∙ ap (λ (l : List ℕ). captured_by_pawns o k c ++ l) (taken-more o k m c before)
    ∙ sym (captured-more o k m c))
    g game
