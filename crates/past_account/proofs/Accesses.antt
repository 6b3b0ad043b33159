-- A figure's man who comes to a square comes by an entry that is empty afterwards; by a plain one where he is rightly marked.
use Rattle.std.proofs.Common.{◌≡◌, ◌≢◌, ℕ, ◌<◌, ◌==◌, ◌⊎◌, inl, inr, Bool, true, false, not, List, [], ◌∷◌, ◌++◌, refl, ap, sym, ◌∙◌, subst}
use Rattle.std.proofs.lemmas.Bool.{and_parts, both_ways, cases_Bool, cond-true, cond-false, eqb-true, false_from_ne_true, not-true, or_cases, or_left, or_right}
use Rattle.std.proofs.lemmas.List.{append-nil, append_assoc}
use Rattle.std.specs.Prelude.{Option, Some, None}
use Rattle.std.specs.List.{list_any}
use Rattle.board_base.specs.Board.{Places, array_of, at, file, is_a, is_empty, is_of, rank, same_kind}
use Rattle.board_base.specs.Attacks.{attacks_from, kind_attacks}
use Rattle.board_base.specs.Play.{castling, promoted}
use Rattle.board_base.specs.Legal.{king_castles, last_rank, man_moves, pawn_captures, pawn_captures_en_passant, pawn_doubles, pawn_steps}
use Rattle.board_base.specs.Parts.{castles_as}
use Rattle.board_base.specs.Game.{IsGame, board_after, turn_after, last_move, unmoved}
use Rattle.board_base.specs.declared.men.Colour.{Colour}
use Rattle.board_base.specs.declared.men.Colour.TheVariants.{White, Black}
use Rattle.board_base.specs.declared.men.Kind.{Kind}
use Rattle.board_base.specs.declared.men.Kind.TheVariants.{Pawn}
use Rattle.board_base.specs.declared.men.Man.{Man}
use Rattle.board_base.specs.declared.moves.Move.{Move}
use Rattle.board_base.specs.declared.castles.Castle.{Castle}
use Rattle.board_base.proofs.KindsOfMen.{colour_is, kind_is}
use Rattle.play_rules.specs.Laws.{is_end}
use Rattle.play_rules.proofs.Legality.{Legality, Manner, moves, steps, doubles, takes, passes, castles}
use Rattle.play_rules.proofs.Ends.{no_pawn_on_ends}
use Rattle.men_account.specs.Labels.{label_at, labels_after}
use Rattle.men_account.proofs.Origins.{promoted_man}
use Rattle.cage_rules.specs.Frozen.{is_entry, is_plain_entry, may_enter}
use Rattle.cage_rules.proofs.Arrivals.{Entry, enters}
use Rattle.cage_rules.proofs.Entries.{PlainWay, man-enters-plain}
use Rattle.cage_rules.proofs.PawnEntries.{double-enters-plain, step-enters}
use Rattle.men_fates.specs.Deeds.{squares_trodden, way_by, way_of}
use Rattle.men_fates.specs.Ways.{is_straight}
use Rattle.men_fates.proofs.Brought.{piece-keeps}
use Rattle.men_fates.proofs.Goings.{mover-home, pawn-before, pawn-ends}
use Rattle.men_fates.proofs.MoreDeeds.{mover-goes}
use Rattle.men_fates.proofs.Roads.{mover-tread}
use Rattle.men_fates.proofs.Treads.{Tread, capture, double, one-trodden, single}
use Rattle.balance_rule.proofs.Facing.{straight-both}
use Rattle.past_sketches.specs.Figures.{Figure, may_be}
use Rattle.past_sketches.specs.Fits.{is_plain}
use Rattle.past_sketches.proofs.Quiet.{files-differ, promoted-colour}
use Rattle.past_account.specs.Frozen.{enters_as, figure_enters}

-- one of the figure's kinds
pub some-kind : (P : Kind → Bool) (kinds : List Kind) (k : Kind) → list_any (λ j. same_kind j k) kinds ≡ true → P k ≡ true → list_any P kinds ≡ true
some-kind P [] k h here = h
some-kind P (j ∷ kinds) k h here = elim (or_cases (same_kind j k) (list_any (λ i. same_kind i k) kinds) h) [
  | inl same ↦ or_left (P j) (list_any P kinds) (ap P (kind_is j k same) ∙ here)
  | inr later ↦ or_right (P j) (list_any P kinds) (some-kind P kinds k later here)
]

pub figure-enters : (f : Figure) (k : Kind) (s t : ℕ) → may_be f k ≡ true → enters_as f.marked f.colour k s t ≡ true → figure_enters f s t ≡ true
figure-enters f k s t kind here = some-kind (λ j. enters_as f.marked f.colour j s t) f.kinds k kind here

-- an entry of the figure's man to t from s, or over an empty square
pub record Access (board : Places) (f : Figure) (s t : ℕ) : Type 0 where
  pub entry : ℕ
  pub inside : entry < 64
  pub apart : entry ≢ t
  pub vacant : (entry ≡ s) ⊎ (is_empty (at board entry) ≡ true)
  pub enters : figure_enters f t entry ≡ true

plain-access : (board : Places) (f : Figure) (c : Colour) (k : Kind) (s t : ℕ) → f.marked ≡ true → c ≡ f.colour → may_be f k ≡ true → PlainWay board c k s t → Access board f s t
plain-access board f c k s t marked colour kind way = record {
  entry = way.entry;
  inside = way.inside;
  apart = way.apart;
  vacant = way.vacant;
  enters = figure-enters f k t way.entry kind (cond-true f.marked (is_plain_entry f.colour k t way.entry) (is_entry f.colour k t way.entry) marked ∙ ap (λ (d : Colour). is_plain_entry d k t way.entry) (sym colour) ∙ way.enters);
}

promoted-as : (promo : Option Kind) (man : Man) → promoted promo (Some man) ≡ Some (promoted_man promo man)
promoted-as None man = refl
promoted-as (Some k) man = refl

any-access : (board : Places) (f : Figure) (m : Move) (man : Man) → f.marked ≡ false → (promoted_man m.promo man).colour ≡ f.colour → may_be f (promoted_man m.promo man).kind ≡ true → Entry board (promoted m.promo (Some man)) m.from m.to → Access board f m.from m.to
any-access board f m man unmarked colour kind way =
    let n : Man = promoted_man m.promo man in
    let enter : is_entry n.colour n.kind m.to way.entry ≡ true = ap (λ (p : Option Man). may_enter p m.to way.entry) (sym (promoted-as m.promo man)) ∙ way.enters in
    record {
      entry = way.entry;
      inside = way.inside;
      apart = way.apart;
      vacant = way.vacant;
      enters = figure-enters f n.kind m.to way.entry kind (cond-false f.marked (is_plain_entry f.colour n.kind m.to way.entry) (is_entry f.colour n.kind m.to way.entry) unmarked ∙ ap (λ (d : Colour). is_entry d n.kind m.to way.entry) (sym colour) ∙ enter);
    }

-- who is no pawn, and doesn't castle, goes as a man goes
only-moves : (board : Places) (c : Colour) (rights : Castle → Bool) (last : Option Move) (m : Move) (man : Man) → castling board m ≡ None → at board m.from ≡ Some man → same_kind Pawn man.kind ≡ false → Manner board c rights last m → kind_attacks board man.colour man.kind m.from m.to ≡ true
unfolding man_moves attacks_from pawn_steps pawn_doubles pawn_captures pawn_captures_en_passant king_castles
only-moves board c rights last m man none here piece (moves h) =
    subst (λ (o : Option Man). elim o as (λ _. Bool) [ None ↦ false | Some n ↦ kind_attacks board n.colour n.kind m.from m.to ] ≡ true) here (and_parts _ _ h).1
only-moves board c rights last m man none here piece (steps h) = absurd (both_ways _ (ap (is_a Pawn) here ∙ piece) (and_parts _ _ (and_parts _ _ (and_parts _ _ h).0).0).0)
only-moves board c rights last m man none here piece (doubles h) = absurd (both_ways _ (ap (is_a Pawn) here ∙ piece) (and_parts _ _ (and_parts _ _ (and_parts _ _ (and_parts _ _ (and_parts _ _ h).0).0).0).0).0)
only-moves board c rights last m man none here piece (takes h) = absurd (both_ways _ (ap (is_a Pawn) here ∙ piece) (and_parts _ _ (and_parts _ _ (and_parts _ _ h).0).0).0)
only-moves board c rights last m man none here piece (passes h) = absurd (both_ways _ (ap (is_a Pawn) here ∙ piece) (and_parts _ _ (and_parts _ _ h).0).0)
only-moves board c rights last m man none here piece (castles h) = absurd (both_ways false refl (subst (λ (o : Option Castle). castles_as board c rights o ≡ true) none h))

-- inner ranks
inner-last : (c : Colour) (s : ℕ) → is_end s ≡ false → (rank s == last_rank c) ≡ false
inner-last White s inner = false_from_ne_true (rank s == 7) (λ last. both_ways (is_end s) inner (or_right (rank s == 0) (rank s == 7) last))
inner-last Black s inner = false_from_ne_true (rank s == 0) (λ last. both_ways (is_end s) inner (or_left (rank s == 0) (rank s == 7) last))

-- a pawn who treads straight on comes by the square behind
tread-enters : (board : Places) (c : Colour) (m : Move) → m.from < 64 → m.to < 64 → is_end m.from ≡ false → is_end m.to ≡ false → is_straight m.from (squares_trodden m) ≡ true → Tread board c m → PlainWay board c Pawn m.from m.to
tread-enters board c m f t inner outer straight (single one ahead same free) = step-enters board c m.from m.to f t ahead same inner (inner-last c m.to outer)
tread-enters board c m f t inner outer straight (double two home same crossed free) = double-enters-plain board c m.from m.to t home same two crossed
tread-enters board c m f t inner outer straight (capture one ahead aside enemy) =
    absurd (files-differ m.from m.to aside (eqb-true (file m.from) (file m.to) (and_parts (file m.from == file m.to) (is_straight m.to []) (ap (is_straight m.from) (sym (one-trodden m one)) ∙ straight)).0))

-- a straight way began straight
pub straight-begins : (o : List Bool) (l : ℕ) (after k : List Move) → is_straight l (way_of o (k ++ after) l) ≡ true → is_straight l (way_of o k l) ≡ true
straight-begins o l [] k h = ap (λ (g : List Move). is_straight l (way_of o g l)) (sym (append-nil k)) ∙ h
straight-begins o l (m ∷ after) k h =
    (straight-both o l k m (straight-begins o l after (k ++ m ∷ []) (ap (λ (g : List Move). is_straight l (way_of o g l)) (append_assoc k (m ∷ []) after) ∙ h))).0

-- so a mark that is true in the end was true before
pub plain-begins : (o : List Bool) (l : ℕ) (n : Man) (after k : List Move) → is_plain o (k ++ after) l n ≡ true → is_plain o k l n ≡ true
plain-begins o l n after k h = elim (cases_Bool (same_kind Pawn n.kind)) [
  | inl pawn ↦
      cond-true (same_kind Pawn n.kind) (is_straight l (way_of o k l)) (not (is_a Pawn (at (array_of o) l))) pawn
      ∙ straight-begins o l after k (sym (cond-true (same_kind Pawn n.kind) (is_straight l (way_of o (k ++ after) l)) (not (is_a Pawn (at (array_of o) l))) pawn) ∙ h)
  | inr piece ↦
      cond-false (same_kind Pawn n.kind) (is_straight l (way_of o k l)) (not (is_a Pawn (at (array_of o) l))) piece
      ∙ sym (cond-false (same_kind Pawn n.kind) (is_straight l (way_of o (k ++ after) l)) (not (is_a Pawn (at (array_of o) l))) piece) ∙ h
]

module _ (o : List Bool) (k : List Move) (m : Move) (f : Figure) (l : ℕ) (man : Man) (game : IsGame o (k ++ m ∷ [])) (begun : IsGame o k) (legal : Legality (board_after o k) (turn_after k) (unmoved o k) (last_move k) m) (inside : m.from < 64) (none : castling (board_after o k) m ≡ None)
    (there : at (board_after o k) m.from ≡ Some man) (label : label_at (labels_after o k) m.from ≡ Some l) (arrived : at (board_after o (k ++ m ∷ [])) m.to ≡ Some (promoted_man m.promo man)) (colour : (promoted_man m.promo man).colour ≡ f.colour) (kind : may_be f (promoted_man m.promo man).kind ≡ true) where
  abbrev board : Places
  board = board_after o k

  abbrev c : Colour
  c = turn_after k

  abbrev n : Man
  n = promoted_man m.promo man

  side : c ≡ man.colour
  side = colour_is c man.colour (sym (ap (is_of c) there) ∙ legal.mover)

  side-figure : c ≡ f.colour
  side-figure = side ∙ sym (promoted-colour m.promo man) ∙ colour

  pawn-access : f.marked ≡ true → same_kind Pawn n.kind ≡ true → is_straight l (way_of o (k ++ m ∷ []) l) ≡ true → Access board f m.from m.to
  pawn-access marked pawn straight =
      let was : same_kind Pawn man.kind ≡ true = pawn-before board c (unmoved o k) (last_move k) m man legal pawn in
      let is_pawn : is_a Pawn (at board m.from) ≡ true = ap (is_a Pawn) there ∙ was in
      let goes : Tread board c m = mover-tread o k m c legal legal.mover is_pawn in
      let both = straight-both o l k m straight in
      let added : is_straight m.from (squares_trodden m) ≡ true =
      ap (is_straight m.from) (sym (mover-goes l board (labels_after o k) m is_pawn label)) ∙ ap (λ (e : ℕ). is_straight e (way_by l board (labels_after o k) m)) (sym (pawn-ends o k begun m.from l label is_pawn)) ∙ both.1 in
      let inner : is_end m.from ≡ false = false_from_ne_true (is_end m.from) (λ end. both_ways _ (no_pawn_on_ends o k begun m.from end) is_pawn) in
      let outer : is_end m.to ≡ false = false_from_ne_true (is_end m.to) (λ end. both_ways _ (no_pawn_on_ends o (k ++ m ∷ []) game m.to end) (ap (is_a Pawn) arrived ∙ pawn)) in
      plain-access board f c Pawn m.from m.to marked side-figure (subst (λ (j : Kind). may_be f j ≡ true) (sym (kind_is Pawn n.kind pawn)) kind) (tread-enters board c m inside legal.on_board inner outer added goes)

  piece-access : f.marked ≡ true → is_a Pawn (at (array_of o) l) ≡ false → Access board f m.from m.to
  piece-access marked began =
      let no_pawn : is_a Pawn (at board m.from) ≡ false = false_from_ne_true (is_a Pawn (at board m.from)) (λ pawn. both_ways _ began (mover-home o k m l begun pawn label)) in
      let piece : same_kind Pawn man.kind ≡ false = ap (is_a Pawn) (sym there) ∙ no_pawn in
      let same : n ≡ man = piece-keeps board c m man legal.promotion no_pawn in
      let hits = only-moves board c (unmoved o k) (last_move k) m man none there piece legal.manner in
      plain-access board f man.colour man.kind m.from m.to marked (sym side ∙ side-figure) (subst (λ (x : Man). may_be f x.kind ≡ true) same kind) (man-enters-plain board man.colour man.kind m.from m.to inside legal.on_board piece hits)

  pub access : (f.marked ≡ true → is_plain o (k ++ m ∷ []) l n ≡ true) → Access board f m.from m.to
  access mark = elim (cases_Bool f.marked) [
    | inr unmarked ↦
        any-access board f m man unmarked colour kind
        (enters board c (unmoved o k) (last_move k) m man there inside legal.on_board (sym (ap (is_of c) there) ∙ legal.mover) legal.promotion (λ pawn. false_from_ne_true _ (λ end. both_ways _ (no_pawn_on_ends o k begun m.from end) pawn)) none legal.manner)
    | inl marked ↦ elim (cases_Bool (same_kind Pawn n.kind)) [
      | inl pawn ↦ pawn-access marked pawn (sym (cond-true (same_kind Pawn n.kind) (is_straight l (way_of o (k ++ m ∷ []) l)) (not (is_a Pawn (at (array_of o) l))) pawn) ∙ mark marked)
      | inr piece ↦ piece-access marked (not-true _ (sym (cond-false (same_kind Pawn n.kind) (is_straight l (way_of o (k ++ m ∷ []) l)) (not (is_a Pawn (at (array_of o) l))) piece) ∙ mark marked))
    ]
  ]
