-- The men who are never taken: kings, and those who stay on a set.
use Rattle.std.proofs.Common.{◌≡◌, ◌≢◌, ℕ, ◌==◌, inl, inr, Bool, true, false, List, [], refl, ap, sym, ◌∙◌, subst}
use Rattle.std.proofs.lemmas.Bool.{and_left, and_parts, both_ways, cases_eq, cond-false, cond-true, eq-eqb, ne_eqb}
use Rattle.std.proofs.lemmas.List.{append-nil}
use Rattle.std.specs.Prelude.{Option, Some, None}
use Rattle.board_base.specs.Board.{Places, array_of, at, is_in, is_a, is_empty, is_of, is_the, opponent}
use Rattle.board_base.specs.Texts.{◌>>=◌}
use Rattle.board_base.specs.Play.{castling, crossed, en_passant_victim, goes_en_passant, king_target, rook_home}
use Rattle.board_base.specs.Game.{IsGame, board_after, turn_after, unmoved, last_move}
use Rattle.board_base.specs.declared.men.Colour.{Colour}
use Rattle.board_base.specs.declared.men.Kind.TheVariants.{Pawn, Rook, King}
use Rattle.board_base.specs.declared.moves.Move.{Move}
use Rattle.board_base.specs.declared.castles.Castle.{Castle}
use Rattle.board_base.proofs.CastleSquares.{crossed-empty}
use Rattle.board_base.proofs.KindsOfMen.{another_kind, full-of}
use Rattle.play_rules.proofs.Legality.{Legality, legality}
use Rattle.play_rules.proofs.Games.{in_every_game, no_moves}
use Rattle.play_rules.proofs.Kings.{castle-ends, double-en_passant_victim, empty-not, two-castles}
use Rattle.men_account.specs.Labels.{label_at, first_labels, labels_after}
use Rattle.men_account.proofs.Captured.{man-there}
use Rattle.men_account.proofs.Labelled.{first-is, labels-each_man}
use Rattle.men_account.proofs.Moved.{carried_from, moved_from, on_square}
use Rattle.men_account.proofs.Origins.{rook-there}
use Rattle.men_account.proofs.PawnLaws.{himself}
use Rattle.cage_rules.specs.Laws.{IsGone, Walled}
use Rattle.cage_rules.proofs.FrozenLabels.{label-more}
use Rattle.cage_rules.proofs.Stays.{castle-from, king-comes}
use Rattle.men_fates.proofs.Strikes.{label-some}
use Rattle.men_fates.proofs.Treads.{passes-on}

pub carried-there : (from to : ℕ) → carried_from from to to ≡ Some from
carried-there from to = cond-true (to == to) (Some from) _ (eq-eqb to to refl)

pub carried-elsewhere : (from to u : ℕ) → u ≢ from → u ≢ to → carried_from from to u ≡ Some u
carried-elsewhere from to u not_from not_to = cond-false (u == to) (Some from) _ (ne_eqb u to not_to) ∙ cond-false (u == from) None (Some u) (ne_eqb u from not_from)

-- a king doesn't stand where nobody stands who passes a test that kings pass
apart-from : (board : Places) (u s : ℕ) → is_a King (at board u) ≡ true → is_a King (at board s) ≡ false → u ≢ s
apart-from board u s king other = λ same. both_ways (is_a King (at board s)) other (subst (λ (t : ℕ). is_a King (at board t) ≡ true) same king)

-- what is taken en passant is no king
victim-no-king : (board : Places) (c : Colour) (rights : Castle → Bool) (last : Option Move) (m : Move) → goes_en_passant board m ≡ true → Legality board c rights last m → is_a King (at board (en_passant_victim m)) ≡ false
victim-no-king board c rights last m past legal =
    let by = passes-on board c rights last m past legal.manner in
    let pawn : is_a Pawn (at board by.step.to) ≡ true = (and_parts (is_of (opponent c) (at board by.step.to)) (is_a Pawn (at board by.step.to)) by.pawn).1 in
    ap (λ (s : ℕ). is_a King (at board s)) (sym (double-en_passant_victim m by.step c by.answers)) ∙ another_kind King Pawn (at board by.step.to) pawn

-- a king who doesn't move
king-rests : (board : Places) (c : Colour) (rights : Castle → Bool) (last : Option Move) (m : Move) (u : ℕ) (past : Bool) → goes_en_passant board m ≡ past → Legality board c rights last m → is_a King (at board u) ≡ true → u ≢ m.from → moved_from m None past u ≡ Some u
king-rests board c rights last m u false is legal king other = carried-elsewhere m.from m.to u other (apart-from board u m.to king legal.no_king)
king-rests board c rights last m u true is legal king other =
    cond-false (u == en_passant_victim m) None _ (ne_eqb _ _ (apart-from board u (en_passant_victim m) king (victim-no-king board c rights last m is legal)))
    ∙ carried-elsewhere m.from m.to u other (apart-from board u m.to king legal.no_king)

-- one who moves, and doesn't castle
king-goes : (board : Places) (m : Move) → is_a King (at board m.from) ≡ true → moved_from m None (goes_en_passant board m) m.to ≡ Some m.from
king-goes board m king =
    let plain : goes_en_passant board m ≡ false = and_left _ (is_empty (at board m.to)) (and_left (is_a Pawn (at board m.from)) _ (another_kind Pawn King (at board m.from) king)) in
    ap (λ (b : Bool). moved_from m None b m.to) plain ∙ carried-there m.from m.to

-- one who doesn't move while another castles
castle-rests : (board : Places) (c : Colour) (rights : Castle → Bool) (last : Option Move) (m : Move) (x : Castle) (u : ℕ) → castling board m ≡ Some x → Legality board c rights last m → is_a King (at board u) ≡ true → u ≢ m.from → moved_from m (Some x) (goes_en_passant board m) u ≡ Some u
castle-rests board c rights last m x u is legal king other =
    let may = two-castles board c rights last m x is legal.manner in
    let free = crossed-empty board x (and_parts _ _ (and_parts _ _ (and_parts _ _ (and_parts _ _ may).0).0).0).1 in
    let rook = another_kind King Rook (at board (rook_home x)) (rook-there board c rights last m x is legal) in
    ap (λ (y : Option ℕ). y >>= carried_from m.from m.to) (carried-elsewhere (rook_home x) (crossed x) u (apart-from board u (rook_home x) king rook) (apart-from board u (crossed x) king (empty-not (is_a King) (at board (crossed x)) refl free)))
    ∙ carried-elsewhere m.from m.to u other (apart-from board u m.to king legal.no_king)

-- the square to which a king comes by a legal move
king-follows : (board : Places) (c : Colour) (rights : Castle → Bool) (last : Option Move) (m : Move) (u : ℕ) (castle : Option Castle) → castling board m ≡ castle → Legality board c rights last m → is_a King (at board u) ≡ true → (s : ℕ) × (moved_from m castle (goes_en_passant board m) s ≡ Some u)
king-follows board c rights last m u None is legal king = elim (cases_eq u m.from) [
  | inl same ↦ (m.to, king-goes board m (subst (λ (t : ℕ). is_a King (at board t) ≡ true) same king) ∙ ap Some (sym same))
  | inr other ↦ (u, king-rests board c rights last m u (goes_en_passant board m) refl legal king other)
]
king-follows board c rights last m u (Some x) is legal king = elim (cases_eq u m.from) [
  | inl same ↦
      let ends = castle-ends board m x is in
      (king_target x, castle-from board m x (king_target x) ends ∙ king-comes x ∙ ap Some (ends.from ∙ sym same))
  | inr other ↦ (u, castle-rests board c rights last m x u is legal king other)
]

-- a man with a king's label is a king
king-still : (o : List Bool) (g : List Move) (c : Colour) (h s : ℕ) → IsGame o g → is_the c King (at (array_of o) h) ≡ true → label_at (labels_after o g) s ≡ Some h → is_a King (at (board_after o g) s) ≡ true
king-still o g c h s game home label =
    let king = (and_parts (is_of c (at (array_of o) h)) (is_a King (at (array_of o) h)) home).1 in
    let man = man-there (board_after o g) (labels_after o g) s h (labels-each_man o g game) label in
    let same : at (array_of o) h ≡ Some man.0 = himself o g game s h man.0 label man.1 (another_kind Pawn King (at (array_of o) h) king) in
    ap (is_a King) (man.1 ∙ sym same) ∙ king

king-labelled : (o : List Bool) (c : Colour) (h : ℕ) → is_the c King (at (array_of o) h) ≡ true → (g : List Move) → IsGame o g → (s : ℕ) × (label_at (labels_after o g) s ≡ Some h)
king-labelled o c h home =
    in_every_game o (λ g. (s : ℕ) × (label_at (labels_after o g) s ≡ Some h))
    (let own = label-some (label_at (first_labels o) h) (labels-each_man o [] (no_moves o) h ∙ full-of c (at (array_of o) h) (and_parts (is_of c (at (array_of o) h)) (is_a King (at (array_of o) h)) home).0) in
    (h, own.1 ∙ ap Some (sym (first-is o h own.0 own.1))))
    (λ g m game allowed before.
    let legal = legality _ _ _ _ _ allowed in
    let comes = king-follows (board_after o g) (turn_after g) (unmoved o g) (last_move g) m before.0 (castling (board_after o g) m) refl legal (king-still o g c h before.0 game home before.1) in
    (comes.0, label-more o g m comes.0 game legal ∙ ap (on_square (labels_after o g)) comes.1 ∙ before.1))

pub king-lasts : (o : List Bool) (g : List Move) (c : Colour) (h : ℕ) → IsGame o g → is_the c King (at (array_of o) h) ≡ true → IsGone o g h → ⊥
king-lasts o g c h game home gone = let here = king-labelled o c h home g game in gone here.0 here.1

pub walled-last : (o : List Bool) (g : List Move) (set : List Bool) (h : ℕ) → Walled o g set → is_in set h ≡ true → IsGone o g h → ⊥
walled-last o g set h walled member gone = gone h (walled.labels g ([], sym (append-nil g)) h member)
