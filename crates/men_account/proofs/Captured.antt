-- In every game the labels of the men whom pawns of a side took differ, belong to the other side, and are gone from the board.
use Rattle.std.proofs.Common.{◌≡◌, ℕ, ◌<◌, Bool, true, false, cond, inl, inr, List, [], ◌∷◌, ◌++◌, length, fold, refl, ap, sym, ◌∙◌, subst}
use Rattle.std.proofs.lemmas.Bool.{and_parts, both_ways, cases_Bool, cond-true, cond-false}
use Rattle.std.proofs.lemmas.List.{append_assoc, append-nil}
use Rattle.std.specs.Prelude.{Option, Some, None, is_none}
use Rattle.std.specs.Option.{option_to_list}
use Rattle.board_base.specs.Board.{Places, array_of, at, is_of, is_a, is_the, is_empty, opponent}
use Rattle.board_base.specs.Play.{play, castling, goes_en_passant, en_passant_victim}
use Rattle.board_base.specs.Game.{IsGame, board_after, turn_after, unmoved, last_move}
use Rattle.board_base.specs.declared.men.Colour.{Colour}
use Rattle.board_base.specs.declared.men.Colour.TheVariants.{White, Black}
use Rattle.board_base.specs.declared.men.Kind.TheVariants.{Pawn, King}
use Rattle.board_base.specs.declared.men.Man.{Man}
use Rattle.board_base.specs.declared.moves.Move.{Move}
use Rattle.board_base.specs.declared.castles.Castle.{Castle}
use Rattle.board_base.proofs.KindsOfMen.{another_kind, colour_is, colour_other, same_colour-self}
use Rattle.play_rules.proofs.Legality.{Legality, legality}
use Rattle.play_rules.proofs.Games.{in_every_game}
use Rattle.play_rules.proofs.Kings.{within, length-after, castle-ends}
use Rattle.men_account.specs.Labels.{Labels, label_at, first_labels, relabelled, labels_from, labels_after, LabelsEachMan, AreApart, HoldsOfEach, HasColourOf}
use Rattle.men_account.specs.Captures.{taken_on, taken_by_pawn, captured_from, captured_by_pawns}
use Rattle.general_lemmas.proofs.Differing.{Has, Differ, has-either, differ-append}
use Rattle.men_account.proofs.Moved.{moved_from, label-moved}
use Rattle.men_account.proofs.Labelled.{on-label, labels_after-more, length-labels, labels-apart, labels-colours, labels-each_man}
use Rattle.men_account.proofs.Origins.{Origin, stays, goes, with_king, origin, origin-not-victim}
use Rattle.men_account.proofs.PawnWays.{victim-enemy}

captured_from-more : (c : Colour) (board : Places) (labels : Labels) (g : List Move) (m : Move) → captured_from c board labels (g ++ m ∷ []) ≡ captured_from c board labels g ++ taken_by_pawn c (fold play board g) (labels_from board labels g) m
captured_from-more c board labels [] m = append-nil (taken_by_pawn c board labels m)
captured_from-more c board labels (n ∷ g) m =
    ap (λ (l : List ℕ). taken_by_pawn c board labels n ++ l) (captured_from-more c (play board n) (relabelled board labels n) g m)
    ∙ sym (append_assoc (taken_by_pawn c board labels n) (captured_from c (play board n) (relabelled board labels n) g) _)

pub captured-more : (o : List Bool) (g : List Move) (m : Move) (c : Colour) → captured_by_pawns o (g ++ m ∷ []) c ≡ captured_by_pawns o g c ++ taken_by_pawn c (board_after o g) (labels_after o g) m
captured-more o g m c = captured_from-more c (array_of o) (first_labels o) g m

has-only : (o : Option ℕ) (y : ℕ) → Has (option_to_list o) y → o ≡ Some y
has-only None y h = elim h [ ]
has-only (Some u) y h = elim h [ inl e ↦ ap Some e | inr never ↦ elim never [ ] ]

differ-only : (o : Option ℕ) → Differ (option_to_list o)
differ-only None = tt
differ-only (Some u) = (λ h. h, tt)

-- what is told of a member of a list that is there only under a test
pub has-cond : (b : Bool) (xs : List ℕ) (y : ℕ) → Has (cond b xs []) y → (b ≡ true) × Has xs y
has-cond true xs y h = (refl, h)
has-cond false xs y h = elim h [ ]

differ-cond : (b : Bool) (xs : List ℕ) → Differ xs → Differ (cond b xs [])
differ-cond true xs d = d
differ-cond false xs d = tt

taken-differ : (c : Colour) (board : Places) (labels : Labels) (m : Move) → Differ (taken_by_pawn c board labels m)
taken-differ c board labels m = differ-cond (is_the c Pawn (at board m.from)) _ (differ-only (label_at labels (taken_on board m)))

-- the man taken by a pawn had this label
pub taken-label : (c : Colour) (board : Places) (labels : Labels) (m : Move) (l : ℕ) → Has (taken_by_pawn c board labels m) l → (is_the c Pawn (at board m.from) ≡ true) × (label_at labels (taken_on board m) ≡ Some l)
taken-label c board labels m l h = let parts = has-cond (is_the c Pawn (at board m.from)) _ l h in (parts.0, has-only (label_at labels (taken_on board m)) l parts.1)

-- the man on a square that has a label
pub man-there : (board : Places) (labels : Labels) (s l : ℕ) → LabelsEachMan board labels → label_at labels s ≡ Some l → (man : Man) × (at board s ≡ Some man)
man-there board labels s l each label = elim (at board s) as (λ p. at board s ≡ p → (man : Man) × (at board s ≡ Some man)) [
  | None ↦ λ e. absurd (both_ways false refl (sym (ap is_none label) ∙ each s ∙ ap is_empty e))
  | Some man ↦ λ e. (man, e)
] refl

not-own : (c : Colour) (place : Option Man) (man : Man) → place ≡ Some man → is_of c place ≡ false → is_of (opponent c) place ≡ true
not-own c place man e other =
    let d : opponent c ≡ man.colour = colour_other c man.colour (sym (ap (is_of c) e) ∙ other) in
    ap (is_of (opponent c)) e ∙ rw d (same_colour-self man.colour)

-- where a man is taken, he is of the other side
taken-enemy : (board : Places) (c : Colour) (rights : Castle → Bool) (last : Option Move) (m : Move) (man : Man) → Legality board c rights last m → at board (taken_on board m) ≡ Some man → is_of (opponent c) (at board (taken_on board m)) ≡ true
taken-enemy board c rights last m man legal there = elim (cases_Bool (goes_en_passant board m)) [
  | inl past ↦ subst (λ (s : ℕ). is_of (opponent c) (at board s) ≡ true) (sym (cond-true _ (en_passant_victim m) m.to past)) (victim-enemy board c rights last m past legal.manner)
  | inr plain ↦
      let here : taken_on board m ≡ m.to = cond-false _ (en_passant_victim m) m.to plain in
      subst (λ (s : ℕ). is_of (opponent c) (at board s) ≡ true) (sym here) (not-own c (at board m.to) man (subst (λ (s : ℕ). at board s ≡ Some man) here there) legal.not_own)
]

-- men of one colour
pub same-side : (c d : Colour) (place : Option Man) → is_of c place ≡ true → is_of d place ≡ true → c ≡ d
same-side c d None a b = cc
same-side c d (Some m) a b = colour_is c m.colour a ∙ sym (colour_is d m.colour b)

other-side : (c : Colour) → c ≡ opponent c → ⊥
other-side White e = cc
other-side Black e = cc

pub opponent-differs : (c : Colour) (place : Option Man) → is_of c place ≡ true → is_of (opponent c) place ≡ true → ⊥
opponent-differs c place a b = other-side c (same-side c (opponent c) place a b)

leads-from : (board : Places) (c : Colour) (rights : Castle → Bool) (last : Option Move) (m : Move) (s : ℕ) (castle : Option Castle) (past : Bool) → castling board m ≡ castle → goes_en_passant board m ≡ past → Legality board c rights last m → is_a Pawn (at board m.from) ≡ true → is_of (opponent c) (at board (taken_on board m)) ≡ true → moved_from m castle past s ≡ Some (taken_on board m) → Origin m castle (taken_on board m) s → ⊥
leads-from board c rights last m s castle past is goes_past legal pawn enemy led (goes from to) =
    opponent-differs c (at board m.from) legal.mover (subst (λ (u : ℕ). is_of (opponent c) (at board u) ≡ true) from enemy)
leads-from board c rights last m s castle past is goes_past legal pawn enemy led (with_king x castles from to) =
    both_ways _ (another_kind King Pawn (at board m.from) pawn) (castle-ends board m x (is ∙ castles)).king
leads-from board c rights last m s castle false is goes_past legal pawn enemy led (stays same not_to not_from) =
    not_to (sym same ∙ cond-false _ (en_passant_victim m) m.to goes_past)
leads-from board c rights last m s (Some x) true is goes_past legal pawn enemy led (stays same not_to not_from) =
    both_ways _ (another_kind King Pawn (at board m.from) pawn) (castle-ends board m x is).king
leads-from board c rights last m s None true is goes_past legal pawn enemy led (stays same not_to not_from) =
    origin-not-victim m s (taken_on board m) led (sym same ∙ cond-true _ (en_passant_victim m) m.to goes_past)

-- the square of a man who is taken leads nowhere
taken-leads : (board : Places) (c : Colour) (rights : Castle → Bool) (last : Option Move) (m : Move) (s : ℕ) → Legality board c rights last m → is_a Pawn (at board m.from) ≡ true → is_of (opponent c) (at board (taken_on board m)) ≡ true → moved_from m (castling board m) (goes_en_passant board m) s ≡ Some (taken_on board m) → ⊥
taken-leads board c rights last m s legal pawn enemy led = leads-from board c rights last m s (castling board m) (goes_en_passant board m) refl refl legal pawn enemy led (origin board m (castling board m) (goes_en_passant board m) s (taken_on board m) refl led)

-- labels of men whom pawns of a side took, where a game began on another board
record Spent (first : Places) (labels : Labels) (c : Colour) (taken : List ℕ) : Type 0 where
  differ : Differ taken
  enemies : (l : ℕ) → Has taken l → is_of (opponent c) (at first l) ≡ true
  gone : (l s : ℕ) → Has taken l → label_at labels s ≡ Some l → ⊥

-- what a pawn takes by a legal move
record Taken (first board : Places) (labels : Labels) (c : Colour) (m : Move) (l : ℕ) : Type 0 where
  label : label_at labels (taken_on board m) ≡ Some l
  enemy : is_of (opponent c) (at first l) ≡ true
  leads : (s : ℕ) → moved_from m (castling board m) (goes_en_passant board m) s ≡ Some (taken_on board m) → ⊥

taken-is : (first board : Places) (labels : Labels) (c d : Colour) (rights : Castle → Bool) (last : Option Move) (m : Move) (l : ℕ) → LabelsEachMan board labels → HoldsOfEach board labels (HasColourOf first) → Legality board d rights last m → Has (taken_by_pawn c board labels m) l → Taken first board labels c m l
taken-is first board labels c d rights last m l each colours legal h =
    let was = taken-label c board labels m l h in
    let pawn = and_parts _ _ was.0 in
    let side : d ≡ c = same-side d c (at board m.from) legal.mover pawn.0 in
    let stood = man-there board labels (taken_on board m) l each was.1 in
    let enemy : is_of (opponent d) (at board (taken_on board m)) ≡ true = taken-enemy board d rights last m stood.0 legal stood.1 in
    let his : opponent d ≡ stood.0.colour = colour_is (opponent d) stood.0.colour (sym (ap (is_of (opponent d)) stood.1) ∙ enemy) in
    record {
      label = was.1;
      enemy = subst (λ (x : Colour). is_of x (at first l) ≡ true) (sym his ∙ ap opponent side) (colours (taken_on board m) l stood.0 was.1 stood.1);
      leads = λ s. taken-leads board d rights last m s legal pawn.1 enemy;
    }

spent-more : (first board : Places) (labels : Labels) (c d : Colour) (rights : Castle → Bool) (last : Option Move) (m : Move) (taken : List ℕ) → length board ≡ 64 → length labels ≡ 64 → LabelsEachMan board labels → AreApart labels → HoldsOfEach board labels (HasColourOf first) → Legality board d rights last m → Spent first labels c taken → Spent first (relabelled board labels m) c (taken ++ taken_by_pawn c board labels m)
unfolding relabelled
spent-more first board labels c d rights last m taken len size each apart colours legal spent =
    let f : m.from < 64 = rw (← len) (within (is_of d) board m.from refl legal.mover) in
    record {
      differ = differ-append taken (taken_by_pawn c board labels m) spent.differ (taken-differ c board labels m) (λ z old new.
          spent.gone z (taken_on board m) old (taken-is first board labels c d rights last m z each colours legal new).label);
      enemies = λ l h. elim (has-either taken (taken_by_pawn c board labels m) l h) [
        | inl old ↦ spent.enemies l old
        | inr new ↦ (taken-is first board labels c d rights last m l each colours legal new).enemy
      ];
      gone = λ l s h label.
          let was = on-label labels (moved_from m (castling board m) (goes_en_passant board m) s) l (sym (label-moved m (castling board m) (goes_en_passant board m) labels s size f legal.on_board) ∙ label) in
          elim (has-either taken (taken_by_pawn c board labels m) l h) [
            | inl old ↦ spent.gone l was.0 old was.2
            | inr new ↦
                let it = taken-is first board labels c d rights last m l each colours legal new in
                it.leads s (was.1 ∙ ap Some (apart was.0 (taken_on board m) l was.2 it.label))
          ];
    }

spent-after : (o : List Bool) (c : Colour) (g : List Move) → IsGame o g → Spent (array_of o) (labels_after o g) c (captured_by_pawns o g c)
spent-after o c = in_every_game o (λ g. Spent (array_of o) (labels_after o g) c (captured_by_pawns o g c))
    (record { differ = tt; enemies = λ l h. elim h [ ]; gone = λ l s h. elim h [ ] })
    (λ g m game legal before.
    rw (labels_after-more o g m) (rw (captured-more o g m c) (spent-more (array_of o) (board_after o g) (labels_after o g) c (turn_after g) (unmoved o g) (last_move g) m (captured_by_pawns o g c) (length-after o g game) (length-labels o g game) (labels-each_man o g game) (labels-apart o g game) (labels-colours o g game) (legality _ _ _ _ _ legal) before)))

pub captured-differ : (o : List Bool) (g : List Move) (c : Colour) → IsGame o g → Differ (captured_by_pawns o g c)
captured-differ o g c game = (spent-after o c g game).differ

pub captured-enemies : (o : List Bool) (g : List Move) (c : Colour) → IsGame o g → (l : ℕ) → Has (captured_by_pawns o g c) l → is_of (opponent c) (at (array_of o) l) ≡ true
captured-enemies o g c game = (spent-after o c g game).enemies

pub captured-gone : (o : List Bool) (g : List Move) (c : Colour) → IsGame o g → (l s : ℕ) → Has (captured_by_pawns o g c) l → label_at (labels_after o g) s ≡ Some l → ⊥
captured-gone o g c game = (spent-after o c g game).gone
