-- A legal move, taken back.
use Rattle.std.proofs.Common.{◌≡◌, ◌≢◌, ℕ, ◌<◌, Bool, true, false, cond, ◌&&◌, not, length, set, refl, sym, ap, ◌∙◌, arith}
use Rattle.std.proofs.lemmas.Bool.{and_parts, and_left, both_ways}
use Rattle.std.proofs.lemmas.List.{set-set, set_comm, set-get_or, length-set, get_or-set_same, get_or-set_other}
use Rattle.std.specs.Prelude.{Option, Some, None}
use Rattle.board_base.specs.Board.{Places, at, is_of, is_a, man, opponent}
use Rattle.board_base.specs.Play.{play, carried, promoted, castling, goes_en_passant, en_passant_victim, rook_home, crossed}
use Rattle.board_base.specs.Parts.{played_as}
use Rattle.board_base.specs.Carry.{carry}
use Rattle.board_base.specs.Legal.{promotion_fits, is_officer}
use Rattle.board_base.specs.declared.men.Man.{Man}
use Rattle.board_base.specs.declared.men.Colour.{Colour}
use Rattle.board_base.specs.declared.men.Kind.{Kind}
use Rattle.board_base.specs.declared.men.Kind.TheVariants.{Pawn, King}
use Rattle.board_base.specs.declared.moves.Move.{Move}
use Rattle.board_base.specs.declared.castles.Castle.{Castle}
use Rattle.board_base.specs.declared.unmoves.Unmove.{Unmove}
use Rattle.board_base.proofs.KindsOfMen.{another_kind, colour_is, colour_other, kind_is, no_officer}
use Rattle.board_base.proofs.CastleSquares.{crossed-empty, crossed-not-home, crossed-not-target, crossed-within, rook_home-not-crossed}
use Rattle.play_rules.proofs.Legality.{Legality}
use Rattle.play_rules.proofs.Kings.{two-castles, castle-ends, Ends, length-carry}
use Rattle.play_rules.proofs.Left.{Placed, placed}
use Rattle.unmove_gen.specs.TakenBack.{captured_by, capture_square, kind_of, rook_back, taken_back, unpromoted}
use Rattle.board_base.proofs.Equal.{empty_is}
use Rattle.unmove_gen.proofs.Castlings.{Castles, castle-there, castled, castles, none-castled}
use Rattle.unmove_gen.proofs.Marks.{Captures}

-- the unmove of a move on the board before it, marked en passant or not
abbrev pub marked : Bool → Places → Move → Unmove
marked ep board m = record { mv = m; captured = cond ep (Some Pawn) (kind_of (at board m.to)); ep = ep }

-- the board before an unmove's move that was this castling or none
abbrev pub taken_back_as : Places → Unmove → Option Castle → Places
taken_back_as board u castle =
    set (carried (unpromoted u.mv.promo) (rook_back castle board) u.mv.to u.mv.from) (capture_square u) (captured_by (at board u.mv.to) u.captured)

-- what was put on a square and what came to another are put back
restore : (board : Places) (i j : ℕ) (x y : Option Man) → i ≢ j → set (set (set (set board i x) j y) j (at board j)) i (at board i) ≡ board
restore board i j x y apart =
    ap (λ (b : Places). set b i (at board i)) (set-set (set board i x) j y (at board j))
    ∙ set_comm (set board i x) j i (at board j) (at board i) (λ e. apart (sym e))
    ∙ ap (λ (b : Places). set b j (at board j)) (set-set board i x (at board i) ∙ set-get_or board i None)
    ∙ set-get_or board j None

put-back : (board : Places) (i j : ℕ) (x y : Option Man) → i ≢ j → set (set (set board j None) i x) j y ≡ set (set board j y) i x
put-back board i j x y apart = set_comm (set board j None) i j x y apart ∙ ap (λ (b : Places). set b i x) (set-set board j None y)

-- the parts of a promotion that fits, when the man and his arrival are known
abbrev pub fits_as : Option Man → Bool → Option Kind → Bool
fits_as place reaches promo = elim promo as (λ _. Bool) [ None ↦ not (is_a Pawn place && reaches) | Some k ↦ is_a Pawn place && reaches && is_officer k ]

unpromoted-promoted : (promo : Option Kind) (place : Option Man) (reaches : Bool) → fits_as place reaches promo ≡ true → unpromoted promo (promoted promo place) ≡ place
unpromoted-promoted None place reaches h = refl
unpromoted-promoted (Some k) None reaches h = refl
unpromoted-promoted (Some k) (Some m) reaches h =
    ap (λ (j : Kind). Some (record m { kind = j })) (kind_is Pawn m.kind (and_parts _ _ (and_parts _ _ h).0).0)

-- a promotion makes no king
king-promoted : (promo : Option Kind) (place : Option Man) (reaches : Bool) → fits_as place reaches promo ≡ true → is_a King (promoted promo place) ≡ is_a King place
king-promoted None place reaches h = refl
king-promoted (Some k) None reaches h = refl
king-promoted (Some k) (Some m) reaches h =
    let parts = and_parts _ _ h in
    no_officer King k refl parts.1 ∙ sym (another_kind King Pawn (Some m) (and_parts _ _ parts.0).0)

-- a man that is no pawn isn't promoted
plain-officer : (place : Option Man) (promo : Option Kind) (reaches : Bool) → is_a Pawn place ≡ false → fits_as place reaches promo ≡ true → promo ≡ None
plain-officer place None reaches off h = refl
plain-officer place (Some k) reaches off h = absurd (both_ways _ off (and_parts _ _ (and_parts _ _ h).0).0)

promoted-of : (c : Colour) (promo : Option Kind) (place : Option Man) → is_of c (promoted promo place) ≡ is_of c place
promoted-of c None place = refl
promoted-of c (Some k) None = refl
promoted-of c (Some k) (Some m) = refl

-- what was captured, by its kind
captured-is : (c : Colour) (mover taken : Option Man) → is_of c mover ≡ true → is_of c taken ≡ false → captured_by mover (kind_of taken) ≡ taken
captured-is c None taken own other = cc
captured-is c (Some m) None own other = refl
captured-is c (Some m) (Some t) own other =
    ap (λ (d : Colour). Some (record t { colour = d })) (ap opponent (sym (colour_is c m.colour own)) ∙ colour_other c t.colour other)

captured-pawn : (c : Colour) (mover : Option Man) → is_of c mover ≡ true → captured_by mover (Some Pawn) ≡ man (opponent c) Pawn
captured-pawn c None own = cc
captured-pawn c (Some m) own = ap (λ (d : Colour). man (opponent d) Pawn) (sym (colour_is c m.colour own))

captured-none : (place : Option Man) → captured_by place None ≡ None
captured-none None = refl
captured-none (Some m) = refl

arrived : (board : Places) (m : Move) → Placed board m → at (carry board m.from m.to m.promo) m.to ≡ promoted m.promo (at board m.from)
arrived board m p =
    let t : m.to < length (set board m.from None) = let inside = p.target in omega (arith, length-set board m.from None) in
    get_or-set_same (set board m.from None) m.to (promoted m.promo (at board m.from)) None t

-- a plain move is taken back
plain-back : (c : Colour) (board : Places) (m : Move) → Placed board m → is_of c (at board m.from) ≡ true → is_of c (at board m.to) ≡ false → unpromoted m.promo (promoted m.promo (at board m.from)) ≡ at board m.from → taken_back_as (carry board m.from m.to m.promo) (marked false board m) None ≡ board
plain-back c board m p own other back =
    let moved : Places = carry board m.from m.to m.promo in
    let came : Option Man = promoted m.promo (at board m.from) in
    ap (λ (q : Option Man). set (set (set moved m.to None) m.from (unpromoted m.promo q)) m.to (captured_by q (kind_of (at board m.to)))) (arrived board m p)
    ∙ ap (λ (q : Option Man). set (set (set moved m.to None) m.from q) m.to (captured_by came (kind_of (at board m.to)))) back
    ∙ ap (set (set (set moved m.to None) m.from (at board m.from)) m.to) (captured-is c came (at board m.to) (promoted-of c m.promo (at board m.from) ∙ own) other)
    ∙ put-back moved m.from m.to (at board m.from) (at board m.to) p.apart
    ∙ restore board m.from m.to None came p.apart

-- a capture en passant is taken back
en_passant-back : (c : Colour) (board : Places) (m : Move) → Placed board m → is_of c (at board m.from) ≡ true → at board m.to ≡ None → Captures board c m → taken_back_as (set (carry board m.from m.to m.promo) (en_passant_victim m) None) (marked true board m) None ≡ board
en_passant-back c board m p own empty k =
    let v : ℕ = en_passant_victim m in
    let moved : Places = carry board m.from m.to m.promo in
    let after : Places = set moved v None in
    let plain : promoted m.promo (at board m.from) ≡ at board m.from = ap (λ (o : Option Kind). promoted o (at board m.from)) k.no_promo in
    let there : at after m.to ≡ at board m.from = get_or-set_other moved v m.to None None (λ e. k.not_target (sym e)) ∙ arrived board m p ∙ plain in
    let back : unpromoted m.promo (at after m.to) ≡ at board m.from = ap (λ (o : Option Kind). unpromoted o (at after m.to)) k.no_promo ∙ there in
    let foe : captured_by (at after m.to) (Some Pawn) ≡ at board v = ap (λ (q : Option Man). captured_by q (Some Pawn)) there ∙ captured-pawn c (at board m.from) own ∙ sym k.pawn in
    ap (λ (q : Option Man). set (set (set after m.to None) m.from q) v (captured_by (at after m.to) (Some Pawn))) back
    ∙ ap (set (set (set after m.to None) m.from (at board m.from)) v) foe
    ∙ ap (λ (b : Places). set (set b m.from (at board m.from)) v (at board v)) (set_comm moved v m.to None None k.not_target)
    ∙ ap (λ (b : Places). set b v (at board v)) (set_comm (set moved m.to None) v m.from None (at board m.from) k.not_origin)
    ∙ set-set (set (set moved m.to None) m.from (at board m.from)) v None (at board v)
    ∙ ap (λ (q : Option Man). set (set (set moved m.to q) m.from (at board m.from)) v (at board v)) (sym empty)
    ∙ ap (λ (b : Places). set b v (at board v)) (restore board m.from m.to None (promoted m.promo (at board m.from)) p.apart)
    ∙ set-get_or board v None

-- a man who goes to an empty square and back
round-trip : (board : Places) (i j : ℕ) → i ≢ j → j < length board → at board j ≡ None → carry (carry board i j None) j i None ≡ board
round-trip board i j apart inside empty =
    let j' : j < length (set board i None) = omega (arith, length-set board i None) in
    let there : at (carry board i j None) j ≡ at board i = get_or-set_same (set board i None) j (at board i) None j' in
    ap (set (set (carry board i j None) j None) i) there
    ∙ ap (λ (q : Option Man). set (set (carry board i j None) j q) i (at board i)) (sym empty)
    ∙ restore board i j None (at board i) apart

castle-back : (board : Places) (rights : Castle → Bool) (m : Move) (x : Castle) → Placed board m → length board ≡ 64 → m.promo ≡ None → Ends m x board → Castles board rights x → taken_back_as (played_as board m (Some x)) (marked false board m) (Some x) ≡ board
castle-back board rights m x p len plain ends k =
    let moved : Places = carry board m.from m.to None in
    let after : Places = carry moved (rook_home x) (crossed x) None in
    let ne_from : crossed x ≢ m.from = λ e. crossed-not-home x (e ∙ sym ends.from) in
    let ne_to : crossed x ≢ m.to = λ e. crossed-not-target x (e ∙ sym ends.to) in
    let empty : at moved (crossed x) ≡ None =
    get_or-set_other (set board m.from None) m.to (crossed x) (at board m.from) None ne_to ∙ get_or-set_other board m.from (crossed x) None None ne_from ∙ empty_is _ (crossed-empty board x k.clear) in
    let inside : crossed x < length moved = rw (length-carry board m.from m.to None, len) (crossed-within x) in
    let gone : at board m.to ≡ None = ap (at board) (sym ends.to) ∙ k.target in
    ap (λ (b : Places). set (carried (unpromoted m.promo) b m.to m.from) m.to (captured_by (at after m.to) (kind_of (at board m.to)))) (round-trip moved (rook_home x) (crossed x) (rook_home-not-crossed x) inside empty)
    ∙ ap (λ (o : Option Kind). set (carried (unpromoted m.promo) moved m.to m.from) m.to (captured_by (at after m.to) o)) (ap kind_of gone)
    ∙ ap (set (carried (unpromoted m.promo) moved m.to m.from) m.to) (captured-none (at after m.to))
    ∙ ap (λ (o : Option Kind). set (carried (unpromoted o) moved m.to m.from) m.to None) plain
    ∙ put-back moved m.from m.to (at moved m.to) None p.apart
    ∙ round-trip board m.from m.to p.apart p.target gone

-- what came to the target
pub record Came (after board : Places) (c : Colour) (m : Move) : Type 0 where
  pub there : at after m.to ≡ promoted m.promo (at board m.from)
  pub own : is_of c (at after m.to) ≡ true
  pub king : is_a King (at after m.to) ≡ is_a King (at board m.from)

came-from : (after board : Places) (c : Colour) (rights : Castle → Bool) (last : Option Move) (m : Move) → Legality board c rights last m → at after m.to ≡ promoted m.promo (at board m.from) → Came after board c m
unfolding promotion_fits
came-from after board c rights last m l there = record {
  there = there;
  own = ap (is_of c) there ∙ promoted-of c m.promo (at board m.from) ∙ l.mover;
  king = ap (is_a King) there ∙ king-promoted m.promo (at board m.from) _ l.promotion;
}

at-target : (board : Places) (m : Move) (b : Bool) → Placed board m → (b ≡ true → en_passant_victim m ≢ m.to) → at (cond b (set (carry board m.from m.to m.promo) (en_passant_victim m) None) (carry board m.from m.to m.promo)) m.to ≡ promoted m.promo (at board m.from)
at-target board m false p apart = arrived board m p
at-target board m true p apart = get_or-set_other (carry board m.from m.to m.promo) (en_passant_victim m) m.to None None (λ e. apart refl (sym e)) ∙ arrived board m p

not-promoted : (board : Places) (c : Colour) (rights : Castle → Bool) (last : Option Move) (m : Move) → is_a King (at board m.from) ≡ true → Legality board c rights last m → m.promo ≡ None
unfolding promotion_fits
not-promoted board c rights last m king l = plain-officer (at board m.from) m.promo _ (another_kind Pawn King _ king) l.promotion

came-as : (board : Places) (c : Colour) (rights : Castle → Bool) (last : Option Move) (m : Move) (b : Bool) (o : Option Castle) → castling board m ≡ o → goes_en_passant board m ≡ b → (b ≡ true → Captures board c m) → Placed board m → Legality board c rights last m → Came (played_as board m o) board c m
came-as board c rights last m b None e marks k p l =
    came-from (played_as board m None) board c rights last m l (at-target board m (goes_en_passant board m) p (λ h. (k (sym marks ∙ h)).not_target))
came-as board c rights last m b (Some x) e marks k p l =
    let ends = castle-ends board m x e in
    came-from (played_as board m (Some x)) board c rights last m l (castle-there board m x p.target ends ∙ ap (λ (q : Option Kind). promoted q (at board m.from)) (sym (not-promoted board c rights last m ends.king l)))

pub came : (board : Places) (c : Colour) (rights : Castle → Bool) (last : Option Move) (m : Move) (b : Bool) → goes_en_passant board m ≡ b → (b ≡ true → Captures board c m) → Placed board m → Legality board c rights last m → Came (play board m) board c m
unfolding play
came board c rights last m b marks k p l = came-as board c rights last m b (castling board m) refl marks k p l

none-back : (c : Colour) (board : Places) (m : Move) (b : Bool) → Placed board m → is_of c (at board m.from) ≡ true → is_of c (at board m.to) ≡ false → unpromoted m.promo (promoted m.promo (at board m.from)) ≡ at board m.from → (b ≡ true → Captures board c m) → taken_back_as (cond b (set (carry board m.from m.to m.promo) (en_passant_victim m) None) (carry board m.from m.to m.promo)) (marked b board m) None ≡ board
none-back c board m false p own other back k = plain-back c board m p own other back
none-back c board m true p own other back k = en_passant-back c board m p own (empty_is _ (and_parts _ _ (k refl).goes).1) (k refl)

-- a king goes past nobody
king-marks : (board : Places) (m : Move) (b : Bool) → is_a King (at board m.from) ≡ true → goes_en_passant board m ≡ b → marked b board m ≡ marked false board m
king-marks board m b king marks = ap (λ (d : Bool). marked d board m) (sym marks ∙ and_left _ _ (and_left _ _ (another_kind Pawn King _ king)))

back-as : (board : Places) (c : Colour) (rights : Castle → Bool) (last : Option Move) (m : Move) (b : Bool) (o : Option Castle) → castling board m ≡ o → goes_en_passant board m ≡ b → (b ≡ true → Captures board c m) → length board ≡ 64 → Legality board c rights last m → taken_back (played_as board m o) (marked b board m) ≡ board
unfolding taken_back promotion_fits
back-as board c rights last m b None e marks k len l =
    let p = placed board c rights last m len l in
    let after : Places = played_as board m None in
    ap (taken_back_as after (marked b board m)) (none-castled board after m e (came-as board c rights last m b None e marks k p l).king)
    ∙ ap (λ (d : Bool). taken_back_as (cond d (set (carry board m.from m.to m.promo) (en_passant_victim m) None) (carry board m.from m.to m.promo)) (marked b board m) None) marks
    ∙ none-back c board m b p l.mover l.not_own (unpromoted-promoted m.promo (at board m.from) _ l.promotion) k
back-as board c rights last m b (Some x) e marks k len l =
    let p = placed board c rights last m len l in
    let ends = castle-ends board m x e in
    let may = two-castles board c rights last m x e l.manner in
    let after : Places = played_as board m (Some x) in
    ap (taken_back_as after (marked b board m)) (castled board c rights m x p.target e may)
    ∙ ap (λ (u : Unmove). taken_back_as after u (Some x)) (king-marks board m b ends.king marks)
    ∙ castle-back board rights m x p len (not-promoted board c rights last m ends.king l) ends (castles board c rights x may)

-- a legal move, taken back, leaves the board before it
pub back : (board : Places) (c : Colour) (rights : Castle → Bool) (last : Option Move) (m : Move) (b : Bool) → goes_en_passant board m ≡ b → (b ≡ true → Captures board c m) → length board ≡ 64 → Legality board c rights last m → taken_back (play board m) (marked b board m) ≡ board
unfolding play
back board c rights last m b marks k len l = back-as board c rights last m b (castling board m) refl marks k len l
