-- Each man on the board after a move stood there before it, or is the man who moved, or the rook of a castling.
use Rattle.std.proofs.Common.{◌≡◌, ◌≢◌, ℕ, ◌<◌, ◌==◌, Bool, true, false, cond, List, length, refl, sym, ◌∙◌, subst}
use Rattle.std.proofs.lemmas.Bool.{and_parts, eqb-true, eqb-false, ne_eqb}
use Rattle.std.proofs.lemmas.Option.{same_Some}
use Rattle.std.specs.Prelude.{Option, Some, None}
use Rattle.general_lemmas.proofs.Options.{unless}
use Rattle.board_base.specs.Board.{Places, array_of, at, is_of, is_a, is_the}
use Rattle.board_base.specs.Texts.{◌>>=◌}
use Rattle.board_base.specs.Play.{play, promoted, castling, goes_en_passant, en_passant_victim, king_home, king_target, rook_home, crossed}
use Rattle.board_base.specs.Legal.{promotion_fits}
use Rattle.board_base.specs.Game.{IsGame, board_after, turn_after, unmoved, last_move}
use Rattle.board_base.specs.declared.men.Colour.{Colour}
use Rattle.board_base.specs.declared.men.Kind.{Kind}
use Rattle.board_base.specs.declared.men.Kind.TheVariants.{Pawn, King, Rook}
use Rattle.board_base.specs.declared.men.Man.{Man}
use Rattle.board_base.specs.declared.moves.Move.{Move}
use Rattle.board_base.specs.declared.castles.Castle.{Castle}
use Rattle.board_base.proofs.KindsOfMen.{another_kind, no-promo}
use Rattle.board_base.proofs.CastleSquares.{rook_home-not-home, rook_home-not-target}
use Rattle.play_rules.proofs.Legality.{Legality, legality}
use Rattle.play_rules.proofs.Games.{in_every_game, board_after-more}
use Rattle.play_rules.proofs.Kings.{within, length-after, castle-ends, two-castles}
use Rattle.men_account.specs.Labels.{Labels, label_at, relabelled, labels_after, HoldsOfEach, HasColourOf, IsPromotedFrom}
use Rattle.men_account.proofs.Moved.{on_square, carried_from, moved_from, arrived, at-moved, label-moved}
use Rattle.men_account.proofs.Labelled.{promoted-none, on-label, first-is, labels_after-more, length-labels, labels-colours, labels-promotions}

-- the square u is that on which what comes to s stood
pub data Origin (m : Move) (castle : Option Castle) (u s : ℕ) : Type 0 where
  stays : u ≡ s → s ≢ m.to → s ≢ m.from → Origin m castle u s
  goes : u ≡ m.from → s ≡ m.to → Origin m castle u s
  with_king : (x : Castle) → castle ≡ Some x → u ≡ rook_home x → s ≡ crossed x → Origin m castle u s

carried-origin : (m : Move) (castle : Option Castle) (u s : ℕ) (on_to on_from : Bool) → (s == m.to) ≡ on_to → (s == m.from) ≡ on_from → cond on_to (Some m.from) (cond on_from None (Some s)) ≡ Some u → Origin m castle u s
carried-origin m castle u s true on_from e1 e2 h = goes (sym (same_Some _ _ h)) (eqb-true s m.to e1)
carried-origin m castle u s false true e1 e2 h = cc
carried-origin m castle u s false false e1 e2 h = stays (sym (same_Some _ _ h)) (eqb-false s m.to e1) (eqb-false s m.from e2)

-- the rook of a castling is neither where the king goes from nor where he goes
rook-carried : (m : Move) (x : Castle) (u : ℕ) → rook_home x ≢ m.from → rook_home x ≢ m.to → carried_from m.from m.to (rook_home x) ≡ Some u → u ≡ rook_home x
rook-carried m x u a b h =
    let e : carried_from m.from m.to (rook_home x) ≡ Some (rook_home x) = rw (ne_eqb _ _ b, ne_eqb _ _ a) refl in
    sym (same_Some _ _ (sym e ∙ h))

castle-origin : (m : Move) (x : Castle) (u s : ℕ) (on_crossed on_home : Bool) → (s == crossed x) ≡ on_crossed → (s == rook_home x) ≡ on_home → king_home x ≡ m.from → king_target x ≡ m.to → (cond on_crossed (Some (rook_home x)) (cond on_home None (Some s)) >>= carried_from m.from m.to) ≡ Some u → Origin m (Some x) u s
castle-origin m x u s true on_home e1 e2 from to h =
    with_king x refl (rook-carried m x u (λ e. rook_home-not-home x (e ∙ sym from)) (λ e. rook_home-not-target x (e ∙ sym to)) h) (eqb-true s (crossed x) e1)
castle-origin m x u s false true e1 e2 from to h = cc
castle-origin m x u s false false e1 e2 from to h = carried-origin m (Some x) u s (s == m.to) (s == m.from) refl refl h

pub origin : (board : Places) (m : Move) (castle : Option Castle) (en_passant : Bool) (s u : ℕ) → castling board m ≡ castle → moved_from m castle en_passant s ≡ Some u → Origin m castle u s
origin board m (Some x) en_passant s u is h =
    let ends = castle-ends board m x is in
    castle-origin m x u s (s == crossed x) (s == rook_home x) refl refl ends.from ends.to h
origin board m None en_passant s u is h = carried-origin m None u s (s == m.to) (s == m.from) refl refl (unless _ _ u h).1

-- nothing that stands on the square of a pawn taken en passant stood anywhere before
pub origin-not-victim : (m : Move) (s u : ℕ) → moved_from m None true s ≡ Some u → s ≢ en_passant_victim m
origin-not-victim m s u h = eqb-false s (en_passant_victim m) (unless _ _ u h).0

-- what this man becomes
abbrev pub promoted_man : Option Kind → Man → Man
promoted_man None man = man
promoted_man (Some k) man = record man { kind = k }

promoted-some : (promo : Option Kind) (place : Option Man) (after : Man) → promoted promo place ≡ Some after → (man : Man) × (place ≡ Some man) × (after ≡ promoted_man promo man)
promoted-some None place after e = (after, e, refl)
promoted-some (Some k) None after e = cc
promoted-some (Some k) (Some man) after e = (man, refl, sym (same_Some _ _ e))

-- the king of a castling is not promoted
castle-no-promo : (board : Places) (c : Colour) (m : Move) (x : Castle) → castling board m ≡ Some x → promotion_fits board c m ≡ true → m.promo ≡ None
unfolding promotion_fits
castle-no-promo board c m x is fits = no-promo m.promo (is_a Pawn (at board m.from)) _ (another_kind Pawn King _ (castle-ends board m x is).king) fits

-- How the man who stands on s after a move, with this label, came there from the square u: he stayed, or made the move and became
-- what it makes of him, or is the rook of a castling.
pub data Came (board : Places) (labels : Labels) (m : Move) (u s l : ℕ) (after : Man) : Type 0 where
  stayed : u ≡ s → s ≢ m.to → s ≢ m.from → label_at labels s ≡ Some l → at board s ≡ Some after → Came board labels m u s l after
  moved_here : (man : Man) → u ≡ m.from → s ≡ m.to → label_at labels m.from ≡ Some l → at board m.from ≡ Some man → after ≡ promoted_man m.promo man → Came board labels m u s l after
  with_the_king : (x : Castle) → castling board m ≡ Some x → u ≡ rook_home x → s ≡ crossed x → label_at labels (rook_home x) ≡ Some l → at board (rook_home x) ≡ Some after → Came board labels m u s l after

came-from : (board : Places) (labels : Labels) (m : Move) (castle : Option Castle) (u s l : ℕ) (after : Man) (on_to : Bool) → castling board m ≡ castle → ((x : Castle) → castle ≡ Some x → m.promo ≡ None) → (s == m.to) ≡ on_to → label_at labels u ≡ Some l → arrived (promoted m.promo) castle on_to (at board u) ≡ Some after → Origin m castle u s → Came board labels m u s l after
came-from board labels m (Some x) u s l after on_to is none e label there (stays same a b) =
    stayed same a b (subst (λ (t : ℕ). label_at labels t ≡ Some l) same label) (subst (λ (t : ℕ). at board t ≡ Some after) same there)
came-from board labels m (Some x) u s l after on_to is none e label there (goes a b) =
    moved_here after a b (subst (λ (t : ℕ). label_at labels t ≡ Some l) a label) (subst (λ (t : ℕ). at board t ≡ Some after) a there) (rw (none x refl) refl)
came-from board labels m (Some x) u s l after on_to is none e label there (with_king y same a b) =
    let it : x ≡ y = same_Some _ _ same in
    with_the_king y (is ∙ same) a b (subst (λ (t : ℕ). label_at labels t ≡ Some l) a label) (subst (λ (t : ℕ). at board t ≡ Some after) a there)
came-from board labels m None u s l after on_to is none e label there (with_king y same a b) = cc
came-from board labels m None u s l after true is none e label there (stays same a b) = absurd (a (eqb-true s m.to e))
came-from board labels m None u s l after false is none e label there (stays same a b) =
    stayed same a b (subst (λ (t : ℕ). label_at labels t ≡ Some l) same label) (subst (λ (t : ℕ). at board t ≡ Some after) same there)
came-from board labels m None u s l after true is none e label there (goes a b) =
    let was = promoted-some m.promo (at board u) after there in
    moved_here was.0 a b (subst (λ (t : ℕ). label_at labels t ≡ Some l) a label) (subst (λ (t : ℕ). at board t ≡ Some was.0) a was.1) was.2
came-from board labels m None u s l after false is none e label there (goes a b) = absurd (eqb-false s m.to e b)

pub record Before (board : Places) (labels : Labels) (m : Move) (s l : ℕ) (after : Man) : Type 0 where
  pub square : ℕ
  pub led : moved_from m (castling board m) (goes_en_passant board m) s ≡ Some square
  pub came : Came board labels m square s l after

pub before : (board : Places) (labels : Labels) (c : Colour) (rights : Castle → Bool) (last : Option Move) (m : Move) → length board ≡ 64 → length labels ≡ 64 → Legality board c rights last m → (s l : ℕ) (after : Man) → label_at (relabelled board labels m) s ≡ Some l → at (play board m) s ≡ Some after → Before board labels m s l after
unfolding play relabelled
before board labels c rights last m len size legal s l after label there =
    let f : m.from < 64 = rw (← len) (within (is_of c) board m.from refl legal.mover) in
    let castle : Option Castle = castling board m in
    let en_passant : Bool = goes_en_passant board m in
    let was = on-label labels (moved_from m castle en_passant s) l (sym (label-moved m castle en_passant labels s size f legal.on_board) ∙ label) in
    let stood : arrived (promoted m.promo) castle (s == m.to) (on_square board (moved_from m castle en_passant s)) ≡ Some after =
    sym (at-moved (promoted m.promo) m castle en_passant board s (promoted-none m.promo) len f legal.on_board) ∙ there in
    record {
      square = was.0;
      led = was.1;
      came = came-from board labels m castle was.0 s l after (s == m.to) refl (λ x is. castle-no-promo board c m x is legal.promotion) refl was.2 (subst (λ (o : Option ℕ). arrived (promoted m.promo) castle (s == m.to) (on_square board o) ≡ Some after) was.1 stood) (origin board m castle en_passant s was.0 refl was.1);
    }

kept-by : (P : ℕ → ℕ → Man → Type 0) (board : Places) (labels : Labels) (m : Move) (u s l : ℕ) (after : Man) → HoldsOfEach board labels P → ((l : ℕ) (man : Man) → label_at labels m.from ≡ Some l → at board m.from ≡ Some man → P m.from l man → P m.to l (promoted_man m.promo man)) → ((x : Castle) (l : ℕ) (man : Man) → castling board m ≡ Some x → label_at labels (rook_home x) ≡ Some l → at board (rook_home x) ≡ Some man → P (rook_home x) l man → P (crossed x) l man) → Came board labels m u s l after → P s l after
kept-by P board labels m u s l after holds mover rook (stayed same a b label there) = holds s l after label there
kept-by P board labels m u s l after holds mover rook (moved_here man a b label there is) =
    subst (λ (t : ℕ). P t l after) (sym b) (subst (λ (k : Man). P m.to l k) (sym is) (mover l man label there (holds m.from l man label there)))
kept-by P board labels m u s l after holds mover rook (with_the_king x castles a b label there) =
    subst (λ (t : ℕ). P t l after) (sym b) (rook x l after castles label there (holds (rook_home x) l after label there))

-- What holds of each man before a legal move holds after it, where it is kept by the man who moves and by the rook of a castling.
pub each-moved : (P : ℕ → ℕ → Man → Type 0) (board : Places) (labels : Labels) (c : Colour) (rights : Castle → Bool) (last : Option Move) (m : Move) → length board ≡ 64 → length labels ≡ 64 → Legality board c rights last m → HoldsOfEach board labels P → ((l : ℕ) (man : Man) → label_at labels m.from ≡ Some l → at board m.from ≡ Some man → P m.from l man → P m.to l (promoted_man m.promo man)) → ((x : Castle) (l : ℕ) (man : Man) → castling board m ≡ Some x → label_at labels (rook_home x) ≡ Some l → at board (rook_home x) ≡ Some man → P (rook_home x) l man → P (crossed x) l man) → HoldsOfEach (play board m) (relabelled board labels m) P
each-moved P board labels c rights last m len size legal holds mover rook s l after label there =
    let was = before board labels c rights last m len size legal s l after label there in
    kept-by P board labels m was.square s l after holds mover rook was.came

-- What a legal move must keep of a fact: that it holds of the man who moves and of the rook of a castling. The man's colour and whether he
-- was promoted are told by his label.
pub record Keeps (first : Places) (P : ℕ → ℕ → Man → Type 0) (board : Places) (m : Move) : Type 0 where
  pub mover : (l : ℕ) (man : Man) → at board m.from ≡ Some man → HasColourOf first m.from l man → IsPromotedFrom first m.from l man → P m.from l man → P m.to l (promoted_man m.promo man)
  pub rook : (x : Castle) (l : ℕ) (man : Man) → castling board m ≡ Some x → is_a Rook (at board (rook_home x)) ≡ true → at board (rook_home x) ≡ Some man → P (rook_home x) l man → P (crossed x) l man

pub rook-there : (board : Places) (c : Colour) (rights : Castle → Bool) (last : Option Move) (m : Move) (x : Castle) → castling board m ≡ Some x → Legality board c rights last m → is_a Rook (at board (rook_home x)) ≡ true
rook-there board c rights last m x is legal =
    let may = two-castles board c rights last m x is legal.manner in
    let rook : is_the c Rook (at board (rook_home x)) ≡ true = (and_parts _ _ (and_parts _ _ (and_parts _ _ (and_parts _ _ (and_parts _ _ may).0).0).0).0).1 in
    (and_parts _ _ rook).1

-- a fact that holds of each man at first, and is kept so, holds of each man after every game
pub in_each_game : (o : List Bool) (P : ℕ → ℕ → Man → Type 0) → ((s : ℕ) (man : Man) → at (array_of o) s ≡ Some man → P s s man) → ((board : Places) (c : Colour) (rights : Castle → Bool) (last : Option Move) (m : Move) → length board ≡ 64 → Legality board c rights last m → Keeps (array_of o) P board m) → (g : List Move) → IsGame o g → HoldsOfEach (board_after o g) (labels_after o g) P
in_each_game o P start keeps = in_every_game o (λ g. HoldsOfEach (board_after o g) (labels_after o g) P)
    (λ s l man label there. subst (λ (t : ℕ). P s t man) (first-is o s l label) (start s man there))
    (λ g m game allowed here.
    let legal = legality _ _ _ _ _ allowed in
    let kept = keeps (board_after o g) (turn_after g) (unmoved o g) (last_move g) m (length-after o g game) legal in
    rw (board_after-more o g m) (rw (labels_after-more o g m) (each-moved P (board_after o g) (labels_after o g) (turn_after g) (unmoved o g) (last_move g) m (length-after o g game) (length-labels o g game) legal here
    (λ l man label there. kept.mover l man there (labels-colours o g game m.from l man label there) (labels-promotions o g game m.from l man label there))
    (λ x l man is label there. kept.rook x l man is (rook-there (board_after o g) (turn_after g) (unmoved o g) (last_move g) m x is legal) there))))
