-- In every game a pawn stands where his way ends, and a way's captures are those of its pawn.
use Rattle.std.proofs.Common.{◌≡◌, ℕ, inl, inr, Bool, true, false, List, [], ◌∷◌, ◌++◌, refl, ap, sym, ◌∙◌, subst}
use Rattle.std.proofs.lemmas.Bool.{and_parts, and_from, both_ways, cases_Bool}
use Rattle.std.proofs.lemmas.List.{append-nil}
use Rattle.std.specs.Prelude.{Option, Some}
use Rattle.board_base.specs.Board.{Places, array_of, at, is_a, same_kind}
use Rattle.board_base.specs.Game.{IsGame, board_after, turn_after, unmoved, last_move}
use Rattle.board_base.specs.Play.{rook_home}
use Rattle.board_base.specs.declared.men.Colour.{Colour}
use Rattle.board_base.specs.declared.men.Kind.TheVariants.{Pawn, Rook}
use Rattle.board_base.specs.declared.men.Man.{Man}
use Rattle.board_base.specs.declared.moves.Move.{Move}
use Rattle.board_base.specs.declared.castles.Castle.{Castle}
use Rattle.board_base.proofs.KindsOfMen.{another_kind, same_colour-self}
use Rattle.play_rules.proofs.Legality.{Legality, legality}
use Rattle.play_rules.proofs.Games.{in_every_game, board_after-more}
use Rattle.play_rules.proofs.Kings.{length-after}
use Rattle.men_account.specs.Labels.{label_at, labels_after}
use Rattle.men_account.proofs.Labelled.{first-is, labels_after-more, labels-apart, labels-each_man, labels-promotions, length-labels}
use Rattle.men_account.proofs.Origins.{Came, stayed, moved_here, with_the_king, before, promoted_man, rook-there}
use Rattle.men_account.proofs.Bishops.{pawn-label}
use Rattle.men_account.proofs.Captured.{man-there}
use Rattle.men_account.proofs.FilesLeft.{still-pawn}
use Rattle.men_fates.specs.Deeds.{squares_trodden, way_by, way_of}
use Rattle.men_fates.specs.Ways.{way_end}
use Rattle.men_fates.proofs.WayLists.{end-append}
use Rattle.men_fates.proofs.MoreDeeds.{mover-goes, other-rests, piece-rests, way-more}
use Rattle.men_fates.proofs.Treads.{trodden-end}

-- the man with another label rests
pub apart-rests : (o : List Bool) (g : List Move) (m : Move) (s h : ℕ) → IsGame o g → label_at (labels_after o g) s ≡ Some h → (s ≡ m.from → ⊥) → way_by h (board_after o g) (labels_after o g) m ≡ []
apart-rests o g m s h game label other = other-rests h (board_after o g) (labels_after o g) m (λ from. other (labels-apart o g game s m.from h label from))

pub way-rests : (o : List Bool) (g : List Move) (m : Move) (h : ℕ) → way_by h (board_after o g) (labels_after o g) m ≡ [] → way_of o (g ++ m ∷ []) h ≡ way_of o g h
way-rests o g m h rests = way-more o g m h ∙ ap (λ (l : List ℕ). way_of o g h ++ l) rests ∙ append-nil (way_of o g h)

pub end-rests : (o : List Bool) (g : List Move) (m : Move) (h s : ℕ) → way_by h (board_after o g) (labels_after o g) m ≡ [] → way_end h (way_of o g h) ≡ s → way_end h (way_of o (g ++ m ∷ []) h) ≡ s
end-rests o g m h s rests here = ap (way_end h) (way-rests o g m h rests) ∙ here

-- the man who moved as a pawn stands where his way ends
pub end-goes : (o : List Bool) (g : List Move) (m : Move) (h : ℕ) → is_a Pawn (at (board_after o g) m.from) ≡ true → label_at (labels_after o g) m.from ≡ Some h → way_end h (way_of o g h) ≡ m.from → way_end h (way_of o (g ++ m ∷ []) h) ≡ m.to
end-goes o g m h pawn label here =
    ap (way_end h) (way-more o g m h ∙ ap (λ (l : List ℕ). way_of o g h ++ l) (mover-goes h (board_after o g) (labels_after o g) m pawn label))
    ∙ end-append h (way_of o g h) (squares_trodden m)
    ∙ ap (λ (s : ℕ). way_end s (squares_trodden m)) here
    ∙ trodden-end m

-- who is a pawn after his move was one before it
pub pawn-before : (board : Places) (c : Colour) (rights : Castle → Bool) (last : Option Move) (m : Move) (man : Man) → Legality board c rights last m → same_kind Pawn (promoted_man m.promo man).kind ≡ true → same_kind Pawn man.kind ≡ true
pawn-before board c rights last m man legal pawn =
    let after : Man = promoted_man m.promo man in
    (and_parts _ _ (still-pawn board after.colour c m man legal.promotion (and_from _ _ (same_colour-self after.colour) pawn))).1

ends-more : (o : List Bool) (g : List Move) (m : Move) (u s h : ℕ) (after : Man) → IsGame o g → Legality (board_after o g) (turn_after g) (unmoved o g) (last_move g) m → ((s h : ℕ) (man : Man) → label_at (labels_after o g) s ≡ Some h → at (board_after o g) s ≡ Some man → same_kind Pawn man.kind ≡ true → way_end h (way_of o g h) ≡ s) → same_kind Pawn after.kind ≡ true → Came (board_after o g) (labels_after o g) m u s h after → way_end h (way_of o (g ++ m ∷ []) h) ≡ s
ends-more o g m u s h after game legal here pawn (stayed same not_to not_from label there) =
    end-rests o g m h s (apart-rests o g m s h game label not_from) (here s h after label there pawn)
ends-more o g m u s h after game legal here pawn (moved_here man from to label there is) =
    let was : same_kind Pawn man.kind ≡ true = pawn-before (board_after o g) (turn_after g) (unmoved o g) (last_move g) m man legal (subst (λ (x : Man). same_kind Pawn x.kind ≡ true) is pawn) in
    end-goes o g m h (ap (is_a Pawn) there ∙ was) label (here m.from h man label there was) ∙ sym to
ends-more o g m u s h after game legal here pawn (with_the_king x castles from to label there) =
    absurd (both_ways _ (another_kind Pawn Rook (at (board_after o g) (rook_home x)) (rook-there (board_after o g) (turn_after g) (unmoved o g) (last_move g) m x castles legal)) (ap (is_a Pawn) there ∙ pawn))

ends-each : (o : List Bool) (g : List Move) → IsGame o g → (s h : ℕ) (man : Man) → label_at (labels_after o g) s ≡ Some h → at (board_after o g) s ≡ Some man → same_kind Pawn man.kind ≡ true → way_end h (way_of o g h) ≡ s
ends-each o = in_every_game o (λ g. (s h : ℕ) (man : Man) → label_at (labels_after o g) s ≡ Some h → at (board_after o g) s ≡ Some man → same_kind Pawn man.kind ≡ true → way_end h (way_of o g h) ≡ s)
    (λ s h man label there pawn. sym (first-is o s h label))
    (λ g m game allowed here s h after label there pawn.
    let legal = legality _ _ _ _ _ allowed in
    let was = before (board_after o g) (labels_after o g) (turn_after g) (unmoved o g) (last_move g) m (length-after o g game) (length-labels o g game) legal s h after (rw labels_after-more at label) (rw board_after-more at there) in
    ends-more o g m was.square s h after game legal here pawn was.came)

pub pawn-ends : (o : List Bool) (g : List Move) → IsGame o g → (s h : ℕ) → label_at (labels_after o g) s ≡ Some h → is_a Pawn (at (board_after o g) s) ≡ true → way_end h (way_of o g h) ≡ s
pawn-ends o g game s h label pawn =
    let man = man-there (board_after o g) (labels_after o g) s h (labels-each_man o g game) label in
    ends-each o g game s h man.0 label man.1 (sym (ap (is_a Pawn) man.1) ∙ pawn)

-- who makes a move as a pawn began as one
pub mover-home : (o : List Bool) (g : List Move) (m : Move) (h : ℕ) → IsGame o g → is_a Pawn (at (board_after o g) m.from) ≡ true → label_at (labels_after o g) m.from ≡ Some h → is_a Pawn (at (array_of o) h) ≡ true
mover-home o g m h game pawn label =
    let man = man-there (board_after o g) (labels_after o g) m.from h (labels-each_man o g game) label in
    pawn-label (array_of o) m.from h man.0 (labels-promotions o g game m.from h man.0 label man.1) (sym (ap (is_a Pawn) man.1) ∙ pawn)

pub no-way : (o : List Bool) (g : List Move) (h : ℕ) → IsGame o g → is_a Pawn (at (array_of o) h) ≡ false → way_of o g h ≡ []
no-way o g h game no_pawn =
    in_every_game o (λ k. way_of o k h ≡ []) refl
    (λ k m before allowed here. elim (cases_Bool (is_a Pawn (at (board_after o k) m.from))) [
      | inl pawn ↦ way-rests o k m h (other-rests h (board_after o k) (labels_after o k) m (λ label. both_ways _ no_pawn (mover-home o k m h before pawn label))) ∙ here
      | inr piece ↦ way-rests o k m h (piece-rests h (board_after o k) (labels_after o k) m piece) ∙ here
    ])
    g game
