-- A legal move leaves the men on a frozen set where they stand.
use Rattle.std.proofs.Common.{◌≡◌, ℕ, ◌<◌, ◌==◌, ◌⊎◌, inl, inr, Bool, true, false, cond, ◌&&◌, ◌||◌, not, List, length, refl, ap, sym, ◌∙◌, subst}
use Rattle.std.proofs.lemmas.Bool.{and_parts, or_cases, or_left, or_right, eqb-true, eq-eqb, both_ways, not-true, ne_eqb, and_right, false_from_ne_true}
use Rattle.std.specs.Prelude.{Option, Some, None}
use Rattle.std.specs.List.{list_all, list_any}
use Rattle.board_base.specs.Board.{Places, at, is_empty, is_of, is_a, is_the, is_in, same_colour}
use Rattle.board_base.specs.Attacks.{distance, king_distance}
use Rattle.board_base.specs.Play.{play, promoted, castling, goes_en_passant, en_passant_victim, all_castles, king_home, rook_home, king_target, crossed}
use Rattle.board_base.specs.Parts.{played_as}
use Rattle.board_base.specs.Game.{touches}
use Rattle.board_base.specs.Rights.{Rights, holds}
use Rattle.board_base.specs.Texts.{◌>>=◌}
use Rattle.board_base.specs.declared.men.Man.{Man}
use Rattle.board_base.specs.declared.men.Colour.{Colour}
use Rattle.board_base.specs.declared.men.Kind.{Kind}
use Rattle.board_base.specs.declared.men.Kind.TheVariants.{Rook, King}
use Rattle.board_base.specs.declared.moves.Move.{Move}
use Rattle.board_base.specs.declared.castles.Castle.{Castle}
use Rattle.board_base.specs.declared.castles.Castle.TheVariants.{WhiteShort, WhiteLong, BlackShort, BlackLong}
use Rattle.board_base.proofs.EachCastle.{each-castle}
use Rattle.board_base.proofs.KindsOfMen.{kind_is}
use Rattle.board_base.proofs.CastleSquares.{king_home-within, crossed-within}
use Rattle.play_rules.specs.Laws.{HasNoPawnOnEnds}
use Rattle.play_rules.proofs.Legality.{Legality}
use Rattle.play_rules.proofs.Kings.{Ends, castle-ends, two-castles, within}
use Rattle.men_account.proofs.Labelled.{promoted-none}
use Rattle.men_account.proofs.Moved.{on_square, carried_from, moved_from, arrived, at-moved}
use Rattle.cage_rules.specs.Frozen.{IsCaged, is_held_home, is_entry, may_enter}
use Rattle.cage_rules.proofs.Must.{must-tells}
use Rattle.cage_rules.proofs.Arrivals.{Entry, enters}

-- what stands on the square after the move stood there before it, and didn't come there
pub record Stays (m : Move) (castle : Option Castle) (en_passant : Bool) (s : ℕ) : Type 0 where
  pub from : moved_from m castle en_passant s ≡ Some s
  pub elsewhere : (s == m.to) ≡ false

-- the squares of the set after the move: each is occupied, and is a home of a right that is held, or its man is caged
pub record StillFrozen (after : Places) (held : Rights) (set : List Bool) : Type 0 where
  pub occupied : (s : ℕ) → is_in set s ≡ true → is_empty (at after s) ≡ false
  pub caged : (s : ℕ) → is_in set s ≡ true → (is_held_home held s ≡ true) ⊎ IsCaged after set s

-- the homes of the rights that are held aren't touched
abbrev pub Untouched : Rights → Move → Type 0
Untouched held m = (x : Castle) → holds held x ≡ true → touches m x ≡ false

-- who stands on a caged square has no empty entry
no-entry : (after : Places) (held : Rights) (set : List Bool) (s e : ℕ) → StillFrozen after held set → is_in set s ≡ true → is_held_home held s ≡ false → e < 64 → may_enter (at after s) s e ≡ true → is_empty (at after e) ≡ true → ⊥
no-entry after held set s e frozen member away inside enters vacant = elim (frozen.caged s member) [
  | inl home ↦ both_ways _ away home
  | inr caged ↦ both_ways _ (frozen.occupied e (caged e (must-tells after s e inside enters))) vacant
]

any-castle : (p : Castle → Bool) → ((x : Castle) → p x ≡ false) → list_any p all_castles ≡ false
any-castle p none = rw (none WhiteShort, none WhiteLong, none BlackShort, none BlackLong) refl

target-touches : (m : Move) (x : Castle) → ((king_home x == m.to) || (rook_home x == m.to)) ≡ true → touches m x ≡ true
target-touches m x h = elim (or_cases (king_home x == m.to) (rook_home x == m.to) h) [
  | inl king ↦ or_left ((m.from == king_home x) || (m.from == rook_home x) || (m.to == king_home x)) (m.to == rook_home x) (or_right ((m.from == king_home x) || (m.from == rook_home x)) (m.to == king_home x) (eq-eqb m.to (king_home x) (sym (eqb-true (king_home x) m.to king))))
  | inr rook ↦ or_right ((m.from == king_home x) || (m.from == rook_home x) || (m.to == king_home x)) (m.to == rook_home x) (eq-eqb m.to (rook_home x) (sym (eqb-true (rook_home x) m.to rook)))
]

-- the target of a move that touches no held home is none
pub target-away : (held : Rights) (m : Move) → Untouched held m → is_held_home held m.to ≡ false
target-away held m untouched = any-castle (λ x. holds held x && ((king_home x == m.to) || (rook_home x == m.to))) (λ x. false_from_ne_true _ (λ h.
    let parts = and_parts _ _ h in
    both_ways _ (untouched x parts.0) (target-touches m x parts.1)))

crossed-apart : (x y : Castle) → ((king_home y == crossed x) || (rook_home y == crossed x)) ≡ false
crossed-apart x y = not-true _ (each-castle (λ z. not ((king_home z == crossed x) || (rook_home z == crossed x))) (each-castle (λ w. list_all (λ z. not ((king_home z == crossed w) || (rook_home z == crossed w))) all_castles) refl x) y)

pub crossed-away : (held : Rights) (x : Castle) → is_held_home held (crossed x) ≡ false
crossed-away held x = any-castle (λ y. holds held y && ((king_home y == crossed x) || (rook_home y == crossed x))) (λ y. and_right _ _ (crossed-apart x y))

-- what is on the square after the move, told by whether it is the square of a man taken en passant, the target, and the origin
abbrev pub came : Places → Option Kind → ℕ → ℕ → Bool → Bool → Bool → Option Man
came board promo from s taken at_to at_from = arrived (promoted promo) None at_to (on_square board (cond taken None (cond at_to (Some from) (cond at_from None (Some s)))))

record Came (taken at_to at_from : Bool) : Type 0 where
  not_taken : taken ≡ false
  whence : (at_to ≡ true) ⊎ ((at_to ≡ false) × (at_from ≡ false))

came-cases : (board : Places) (promo : Option Kind) (from s : ℕ) (taken at_to at_from : Bool) → is_empty (came board promo from s taken at_to at_from) ≡ false → Came taken at_to at_from
came-cases board promo from s true true at_from h = absurd (both_ways _ h (ap is_empty (promoted-none promo)))
came-cases board promo from s true false at_from h = absurd (both_ways _ h refl)
came-cases board promo from s false true at_from h = record { not_taken = refl; whence = inl refl }
came-cases board promo from s false false true h = absurd (both_ways _ h refl)
came-cases board promo from s false false false h = record { not_taken = refl; whence = inr (refl, refl) }

-- the origin, and a square that was empty before, are empty after the move
pub vacated : (board : Places) (promo : Option Kind) (from e : ℕ) (taken at_from : Bool) → (e == from) ≡ at_from → (e ≡ from) ⊎ (is_empty (at board e) ≡ true) → is_empty (came board promo from e taken false at_from) ≡ true
vacated board promo from e true at_from here h = refl
vacated board promo from e false true here h = refl
vacated board promo from e false false here (inl same) = absurd (both_ways _ here (eq-eqb _ _ same))
vacated board promo from e false false here (inr none) = none

pub after-plain : (board : Places) (m : Move) (s : ℕ) → length board ≡ 64 → m.from < 64 → m.to < 64 → at (played_as board m None) s ≡ came board m.promo m.from s (goes_en_passant board m && (s == en_passant_victim m)) (s == m.to) (s == m.from)
after-plain board m s len f t = at-moved (promoted m.promo) m None (goes_en_passant board m) board s (promoted-none m.promo) len f t

man-of : (c : Colour) (place : Option Man) → is_of c place ≡ true → (man : Man) × (place ≡ Some man) × (same_colour c man.colour ≡ true)
man-of c None h = absurd (both_ways false refl h)
man-of c (Some man) h = (man, refl, h)

-- nobody comes to a square of the set
none-comes : (board : Places) (c : Colour) (rights : Castle → Bool) (last : Option Move) (m : Move) (held : Rights) (set : List Bool) (taken : Bool) → castling board m ≡ None → length board ≡ 64 → m.from < 64 → Legality board c rights last m → HasNoPawnOnEnds board → Untouched held m → StillFrozen (played_as board m None) held set → is_in set m.to ≡ true → (goes_en_passant board m && (m.to == en_passant_victim m)) ≡ taken → taken ≡ false → ⊥
none-comes board c rights last m held set taken none len f l ends untouched frozen member is_taken not_taken =
    let t : m.to < 64 = l.on_board in
    let man = man-of c (at board m.from) l.mover in
    let entry : Entry board (promoted m.promo (Some man.0)) m.from m.to = enters board c rights last m man.0 man.1 f t man.2 l.promotion (λ pawn. false_from_ne_true _ (λ end. both_ways _ (ends m.from end) pawn)) none l.manner in
    let here : at (played_as board m None) m.to ≡ promoted m.promo (Some man.0) =
    after-plain board m m.to len f t
    ∙ ap (λ (b : Bool). came board m.promo m.from m.to b (m.to == m.to) (m.to == m.from)) (is_taken ∙ not_taken)
    ∙ ap (λ (b : Bool). came board m.promo m.from m.to false b (m.to == m.from)) (eq-eqb m.to m.to refl)
    ∙ ap (promoted m.promo) man.1 in
    let vacant : is_empty (at (played_as board m None) entry.entry) ≡ true =
    ap is_empty (after-plain board m entry.entry len f t ∙ ap (λ (b : Bool). came board m.promo m.from entry.entry (goes_en_passant board m && (entry.entry == en_passant_victim m)) b (entry.entry == m.from)) (ne_eqb _ _ entry.apart))
    ∙ vacated board m.promo m.from entry.entry _ _ refl entry.vacant in
    no-entry (played_as board m None) held set m.to entry.entry frozen member (target-away held m untouched) entry.inside (subst (λ (p : Option Man). may_enter p m.to entry.entry ≡ true) (sym here) entry.enters) vacant

stays-plain : (board : Places) (c : Colour) (rights : Castle → Bool) (last : Option Move) (m : Move) (held : Rights) (set : List Bool) (s : ℕ) → castling board m ≡ None → length board ≡ 64 → m.from < 64 → Legality board c rights last m → HasNoPawnOnEnds board → Untouched held m → StillFrozen (played_as board m None) held set → is_in set s ≡ true → Stays m None (goes_en_passant board m) s
stays-plain board c rights last m held set s none len f l ends untouched frozen member =
    let t : m.to < 64 = l.on_board in
    let cases = came-cases board m.promo m.from s _ _ _ (ap is_empty (sym (after-plain board m s len f t)) ∙ frozen.occupied s member) in
    elim cases.whence [
      | inl arrives ↦
          let same : s ≡ m.to = eqb-true _ _ arrives in
          absurd (none-comes board c rights last m held set _ none len f l ends untouched frozen (subst (λ (x : ℕ). is_in set x ≡ true) same member) refl (subst (λ (x : ℕ). (goes_en_passant board m && (x == en_passant_victim m)) ≡ false) same cases.not_taken))
      | inr (away, left) ↦ record {
        from = rw (cases.not_taken, away, left) refl;
        elsewhere = away;
      }
    ]

-- where the men of a castling come from
unfoldable pub whence : Castle → ℕ → Option ℕ
whence x s = carried_from (rook_home x) (crossed x) s >>= carried_from (king_home x) (king_target x)

pub rook-comes : (x : Castle) → whence x (crossed x) ≡ Some (rook_home x)
unfolding whence
rook-comes WhiteShort = refl
rook-comes WhiteLong = refl
rook-comes BlackShort = refl
rook-comes BlackLong = refl

pub king-leaves : (x : Castle) → whence x (king_home x) ≡ None
unfolding whence
king-leaves WhiteShort = refl
king-leaves WhiteLong = refl
king-leaves BlackShort = refl
king-leaves BlackLong = refl

pub king-comes : (x : Castle) → whence x (king_target x) ≡ Some (king_home x)
unfolding whence
king-comes WhiteShort = refl
king-comes WhiteLong = refl
king-comes BlackShort = refl
king-comes BlackLong = refl

-- a rook next to his king's home may have come from there
pub rook-enters : (c : Colour) (x : Castle) → is_entry c Rook (crossed x) (king_home x) ≡ true
unfolding is_entry king_distance distance
rook-enters c WhiteShort = refl
rook-enters c WhiteLong = refl
rook-enters c BlackShort = refl
rook-enters c BlackLong = refl

-- and the king over the square next to it
pub king-enters : (c : Colour) (x : Castle) → is_entry c King (king_target x) (crossed x) ≡ true
unfolding is_entry king_distance distance
king-enters c WhiteShort = refl
king-enters c WhiteLong = refl
king-enters c BlackShort = refl
king-enters c BlackLong = refl

enters-as : (k : Kind) (place : Option Man) (s t : ℕ) → is_a k place ≡ true → ((c : Colour) → is_entry c k s t ≡ true) → may_enter place s t ≡ true
enters-as k None s t h enter = absurd (both_ways false refl h)
enters-as k (Some man) s t h enter = subst (λ (j : Kind). is_entry man.colour j s t ≡ true) (kind_is k man.kind h) (enter man.colour)

-- a castling is told by its squares
pub castle-from : (board : Places) (m : Move) (x : Castle) (s : ℕ) → Ends m x board → moved_from m (Some x) (goes_en_passant board m) s ≡ whence x s
unfolding whence
castle-from board m x s ends = ap (λ (n : ℕ). carried_from (rook_home x) (crossed x) s >>= carried_from n m.to) (sym ends.from) ∙ ap (λ (n : ℕ). carried_from (rook_home x) (crossed x) s >>= carried_from (king_home x) n) (sym ends.to)

pub after-castle : (board : Places) (m : Move) (x : Castle) (s : ℕ) → Ends m x board → length board ≡ 64 → m.from < 64 → m.to < 64 → at (played_as board m (Some x)) s ≡ on_square board (whence x s)
after-castle board m x s ends len f t =
    at-moved (promoted m.promo) m (Some x) (goes_en_passant board m) board s (promoted-none m.promo) len f t ∙ ap (on_square board) (castle-from board m x s ends)

-- the rook comes to no square of the set
rook-out : (board : Places) (m : Move) (x : Castle) (held : Rights) (set : List Bool) → Ends m x board → length board ≡ 64 → m.from < 64 → m.to < 64 → is_a Rook (at board (rook_home x)) ≡ true → StillFrozen (played_as board m (Some x)) held set → is_in set (crossed x) ≡ true → ⊥
rook-out board m x held set ends len f t rook frozen member =
    let here : at (played_as board m (Some x)) (crossed x) ≡ at board (rook_home x) = after-castle board m x (crossed x) ends len f t ∙ ap (on_square board) (rook-comes x) in
    let vacant : is_empty (at (played_as board m (Some x)) (king_home x)) ≡ true = ap is_empty (after-castle board m x (king_home x) ends len f t ∙ ap (on_square board) (king-leaves x)) in
    no-entry (played_as board m (Some x)) held set (crossed x) (king_home x) frozen member (crossed-away held x) (king_home-within x)
    (subst (λ (p : Option Man). may_enter p (crossed x) (king_home x) ≡ true) (sym here) (enters-as Rook (at board (rook_home x)) (crossed x) (king_home x) rook (λ c. rook-enters c x))) vacant

-- nor does the king
king-out : (board : Places) (m : Move) (x : Castle) (held : Rights) (set : List Bool) → Ends m x board → length board ≡ 64 → m.from < 64 → m.to < 64 → is_a Rook (at board (rook_home x)) ≡ true → Untouched held m → StillFrozen (played_as board m (Some x)) held set → is_in set (king_target x) ≡ true → ⊥
king-out board m x held set ends len f t rook untouched frozen member = elim (frozen.caged (king_target x) member) [
  | inl home ↦ both_ways _ (subst (λ (n : ℕ). is_held_home held n ≡ false) (sym ends.to) (target-away held m untouched)) home
  | inr caged ↦
      let here : at (played_as board m (Some x)) (king_target x) ≡ at board (king_home x) = after-castle board m x (king_target x) ends len f t ∙ ap (on_square board) (king-comes x) in
      let king : is_a King (at board (king_home x)) ≡ true = ap (λ (n : ℕ). is_a King (at board n)) ends.from ∙ ends.king in
      let enter = enters-as King (at board (king_home x)) (king_target x) (crossed x) king (λ c. king-enters c x) in
      rook-out board m x held set ends len f t rook frozen (caged (crossed x) (must-tells (played_as board m (Some x)) (king_target x) (crossed x) (crossed-within x) (subst (λ (p : Option Man). may_enter p (king_target x) (crossed x) ≡ true) (sym here) enter)))
]

-- what is on a square after a castling that is neither target, told by whether it is one of the homes
stays-whence : (board : Places) (x : Castle) (s : ℕ) (at_rook at_king : Bool) → (s == rook_home x) ≡ at_rook → (s == king_home x) ≡ at_king → (s == crossed x) ≡ false → (s == king_target x) ≡ false → is_empty (on_square board (whence x s)) ≡ false → whence x s ≡ Some s
unfolding whence
stays-whence board x s true at_king r k cr t h = absurd (both_ways _ h (rw (cr, r) refl))
stays-whence board x s false true r k cr t h = absurd (both_ways _ h (rw (cr, r, t, k) refl))
stays-whence board x s false false r k cr t h = rw (cr, r, t, k) refl

pub rook-at : (c : Colour) (place : Option Man) → is_the c Rook place ≡ true → is_a Rook place ≡ true
rook-at c place h = (and_parts _ _ h).1

stays-castle : (board : Places) (c : Colour) (rights : Castle → Bool) (last : Option Move) (m : Move) (x : Castle) (held : Rights) (set : List Bool) (s : ℕ) → castling board m ≡ Some x → length board ≡ 64 → m.from < 64 → Legality board c rights last m → Untouched held m → StillFrozen (played_as board m (Some x)) held set → is_in set s ≡ true → Stays m (Some x) (goes_en_passant board m) s
stays-castle board c rights last m x held set s e len f l untouched frozen member =
    let t : m.to < 64 = l.on_board in
    let ends = castle-ends board m x e in
    let may = two-castles board c rights last m x e l.manner in
    let rook : is_a Rook (at board (rook_home x)) ≡ true = rook-at c (at board (rook_home x)) (and_parts _ _ (and_parts _ _ (and_parts _ _ (and_parts _ _ (and_parts _ _ may).0).0).0).0).1 in
    let no_rook : (s == crossed x) ≡ false = false_from_ne_true _ (λ same. rook-out board m x held set ends len f t rook frozen (subst (λ (n : ℕ). is_in set n ≡ true) (eqb-true _ _ same) member)) in
    let no_king : (s == king_target x) ≡ false = false_from_ne_true _ (λ same. king-out board m x held set ends len f t rook untouched frozen (subst (λ (n : ℕ). is_in set n ≡ true) (eqb-true _ _ same) member)) in
    record {
      from = castle-from board m x s ends ∙ stays-whence board x s _ _ refl refl no_rook no_king (ap is_empty (sym (after-castle board m x s ends len f t)) ∙ frozen.occupied s member);
      elsewhere = ap (λ (n : ℕ). s == n) (sym ends.to) ∙ no_king;
    }

stays-as : (board : Places) (c : Colour) (rights : Castle → Bool) (last : Option Move) (m : Move) (held : Rights) (set : List Bool) (s : ℕ) (castle : Option Castle) → castling board m ≡ castle → length board ≡ 64 → m.from < 64 → Legality board c rights last m → HasNoPawnOnEnds board → Untouched held m → StillFrozen (played_as board m castle) held set → is_in set s ≡ true → Stays m castle (goes_en_passant board m) s
stays-as board c rights last m held set s None e len f l ends untouched frozen member = stays-plain board c rights last m held set s e len f l ends untouched frozen member
stays-as board c rights last m held set s (Some x) e len f l ends untouched frozen member = stays-castle board c rights last m x held set s e len f l untouched frozen member

-- a legal move that touches no home of a held right leaves each man of the set where he stands
pub stays : (board : Places) (c : Colour) (rights : Castle → Bool) (last : Option Move) (m : Move) (held : Rights) (set : List Bool) (s : ℕ) → length board ≡ 64 → Legality board c rights last m → HasNoPawnOnEnds board → Untouched held m → StillFrozen (play board m) held set → is_in set s ≡ true → Stays m (castling board m) (goes_en_passant board m) s
unfolding play
stays board c rights last m held set s len l ends untouched frozen member =
    let f : m.from < 64 = rw (← len) (within (is_of c) board m.from refl l.mover) in
    stays-as board c rights last m held set s (castling board m) refl len f l ends untouched frozen member

arrived-elsewhere : (become : Option Man → Option Man) (castle : Option Castle) (place : Option Man) → arrived become castle false place ≡ place
arrived-elsewhere become None place = refl
arrived-elsewhere become (Some x) place = refl

-- so the square holds what it held
pub same-man : (board : Places) (m : Move) (s : ℕ) → length board ≡ 64 → m.from < 64 → m.to < 64 → Stays m (castling board m) (goes_en_passant board m) s → at (play board m) s ≡ at board s
unfolding play
same-man board m s len f t stay =
    at-moved (promoted m.promo) m (castling board m) (goes_en_passant board m) board s (promoted-none m.promo) len f t
    ∙ ap (λ (b : Bool). arrived (promoted m.promo) (castling board m) b (on_square board (moved_from m (castling board m) (goes_en_passant board m) s))) stay.elsewhere
    ∙ arrived-elsewhere (promoted m.promo) (castling board m) _
    ∙ ap (on_square board) stay.from
