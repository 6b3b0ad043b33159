-- A castling: the king and the rook stood on squares of their figures before it.
use Rattle.std.proofs.Common.{◌≡◌, ℕ, ◌<◌, inl, inr, Bool, true, false, List, [], ◌∷◌, ◌++◌, refl, ap, sym, ◌∙◌, subst}
use Rattle.std.proofs.lemmas.Bool.{and_parts, and_from, both_ways, false_from_ne_true, lt-ltb, not_from_false, not-true}
use Rattle.std.proofs.lemmas.Option.{none-some, same_Some}
use Rattle.std.specs.Prelude.{Option, Some, None}
use Rattle.board_base.specs.Board.{Places, at, is_a, is_empty, is_in, is_of, is_the, opponent, same_colour, same_kind}
use Rattle.board_base.specs.Attacks.{attacks, distance, is_open, kind_attacks, king_distance}
use Rattle.board_base.specs.Play.{castling, crossed, goes_en_passant, king_home, king_target, rook_home}
use Rattle.board_base.specs.Legal.{promotion_fits}
use Rattle.board_base.specs.Game.{board_after, last_move, turn_after, unmoved}
use Rattle.board_base.specs.Rights.{Rights}
use Rattle.board_base.specs.declared.men.Colour.{Colour}
use Rattle.board_base.specs.declared.men.Kind.{Kind}
use Rattle.board_base.specs.declared.men.Kind.TheVariants.{Pawn, Rook, King}
use Rattle.board_base.specs.declared.men.Man.{Man}
use Rattle.board_base.specs.declared.moves.Move.{Move}
use Rattle.board_base.specs.declared.castles.Castle.{Castle}
use Rattle.board_base.specs.declared.castles.Castle.TheVariants.{WhiteShort, WhiteLong, BlackShort, BlackLong}
use Rattle.board_base.proofs.CastleSquares.{crossed-empty, crossed-not-home, crossed-not-target, crossed-within, king_home-within, rook_home-within}
use Rattle.board_base.proofs.KindsOfMen.{another_kind, colour_is, kind_is, no-promo, same_colour-self}
use Rattle.play_rules.proofs.Kings.{Ends, castle-ends, two-castles}
use Rattle.men_account.specs.Labels.{labels_after}
use Rattle.men_account.proofs.Moved.{moved_from}
use Rattle.men_account.proofs.Origins.{Came, moved_here, promoted_man, stayed, with_the_king}
use Rattle.cage_rules.specs.Regions.{walls}
use Rattle.cage_rules.proofs.Goings.{IsPiece, went}
use Rattle.cage_rules.proofs.Stays.{castle-from, crossed-away, rook-comes, whence}
use Rattle.past_sketches.specs.Closed.{is_loose, is_quiet_way, is_unguarded}
use Rattle.past_sketches.specs.Figures.{Figure, Sketch, figure_at, fixed_squares, is_fixed_on, may_be}
use Rattle.past_sketches.specs.Touching.{touched_squares}
use Rattle.past_sketches.specs.Fits.{IsManOf}
use Rattle.past_sketches.proofs.Sketches.{fixed-there}
use Rattle.past_sketches.proofs.Between.{past-walls}
use Rattle.past_sketches.proofs.Touching.{king-attacks, king-by, touched-attacked, touched-next}
use Rattle.past_sketches.proofs.Moments.{Moment, fixed-man, legal}
use Rattle.past_sketches.proofs.Quiet.{from-free, king-apart, king-untouched, loose-target, mover-colour, next-back, there-before, unguarded}

rook-leaves : (x : Castle) → whence x (rook_home x) ≡ None
unfolding whence
rook-leaves WhiteShort = refl
rook-leaves WhiteLong = refl
rook-leaves BlackShort = refl
rook-leaves BlackLong = refl

-- the king's home is next to the square that the king crosses, and that to his target
rook-near : (board : Places) (c : Colour) (x : Castle) → kind_attacks board c Rook (king_home x) (crossed x) ≡ true
unfolding kind_attacks king_distance distance
rook-near board c WhiteShort = refl
rook-near board c WhiteLong = refl
rook-near board c BlackShort = refl
rook-near board c BlackLong = refl

king-near : (board : Places) (c : Colour) (x : Castle) → kind_attacks board c King (king_home x) (crossed x) ≡ true
unfolding kind_attacks king_distance distance
king-near board c WhiteShort = refl
king-near board c WhiteLong = refl
king-near board c BlackShort = refl
king-near board c BlackLong = refl

king-on : (board : Places) (c : Colour) (x : Castle) → kind_attacks board c King (crossed x) (king_target x) ≡ true
unfolding kind_attacks king_distance distance
king-on board c WhiteShort = refl
king-on board c WhiteLong = refl
king-on board c BlackShort = refl
king-on board c BlackLong = refl

king-no-promo : (board : Places) (c : Colour) (m : Move) → is_a King (at board m.from) ≡ true → promotion_fits board c m ≡ true → m.promo ≡ None
unfolding promotion_fits
king-no-promo board c m king fits = no-promo m.promo (is_a Pawn (at board m.from)) _ (another_kind Pawn King (at board m.from) king) fits

-- what is known of a castling
record Castles (board : Places) (c : Colour) (x : Castle) : Type 0 where
  king : is_the c King (at board (king_home x)) ≡ true
  rook : is_the c Rook (at board (rook_home x)) ≡ true
  clear : is_open board (king_home x) (rook_home x) ≡ true
  crossed_safe : attacks board (crossed x) (opponent c) ≡ false

module _ (o : List Bool) (p : List Move) (m : Move) (held : Rights) (exact : List Bool) (T : Sketch) (it : Moment o p m held exact T) (x : Castle) (castled : castling (board_after o p) m ≡ Some x) where
  known : Castles (board_after o p) (turn_after p) x
  known =
      let p7 = and_parts _ _ (two-castles (board_after o p) (turn_after p) (unmoved o p) (last_move p) m x castled (legal o p m held exact T it).manner) in
      let p6 = and_parts _ _ p7.0 in
      let p5 = and_parts _ _ p6.0 in
      let p4 = and_parts _ _ p5.0 in
      let p3 = and_parts _ _ p4.0 in
      let p2 = and_parts _ _ p3.0 in
      record { king = p2.1; rook = p3.1; clear = p4.1; crossed_safe = not-true _ p6.1 }

  ends : Ends m x (board_after o p)
  ends = castle-ends (board_after o p) m x castled

  same-castle : (y : Castle) → castling (board_after o p) m ≡ Some y → x ≡ y
  same-castle y e = same_Some _ _ (sym castled ∙ e)

  home-free : is_in (fixed_squares T) (king_home x) ≡ false
  home-free = subst (λ (s : ℕ). is_in (fixed_squares T) s ≡ false) (sym ends.from) (from-free o p m held exact T it)

  loose-crossed : (e : ℕ) → e < 64 → is_in (fixed_squares T) e ≡ false → is_loose held T e (crossed x) ≡ true
  loose-crossed e small free = and_from _ _ (and_from _ _ (lt-ltb _ _ small) (not_from_false _ free)) (not_from_false _ (crossed-away held x))

  rook-own : (man : Man) → at (board_after o p) (rook_home x) ≡ Some man → turn_after p ≡ man.colour
  rook-own man there = colour_is (turn_after p) man.colour (ap (is_of (turn_after p)) (sym there) ∙ (and_parts (is_of (turn_after p) (at (board_after o p) (rook_home x))) _ known.rook).0)

  -- the rook may have stood on the king's home
  rook-on-home : (i : ℕ) (f : Figure) (l : ℕ) (man : Man) → figure_at T i ≡ Some f → IsManOf o (p ++ m ∷ []) f l (crossed x) man → at (board_after o p) (rook_home x) ≡ Some man → is_in f.squares (king_home x) ≡ true
  rook-on-home i f l man found now there =
      let rook : same_kind Rook man.kind ≡ true = ap (is_a Rook) (sym there) ∙ (and_parts (is_of (turn_after p) (at (board_after o p) (rook_home x))) _ known.rook).1 in
      it.closed i f Rook (king_home x) (crossed x) found (subst (λ (k : Kind). may_be f k ≡ true) (sym (kind_is Rook man.kind rook)) now.kind) now.square
      (and_from _ _ (and_from _ _ (loose-crossed (king_home x) (king_home-within x) home-free) (rook-near (walls (fixed_squares T)) f.colour x))
      (subst (λ (d : Colour). is_unguarded T d Rook (king_home x) ≡ true) (rook-own man there ∙ now.colour) (king-apart o p m held exact T it (king_home x) Rook (king_home-within x) known.king refl))) refl

  fixed-crossed : (i : ℕ) (f : Figure) (l u q : ℕ) (man : Man) → q ≡ crossed x → figure_at T i ≡ Some f → is_fixed_on q f ≡ true → IsManOf o (p ++ m ∷ []) f l q man → Came (board_after o p) (labels_after o p) m u q l man → ⊥
  fixed-crossed i f l u q man e found fixed now (stayed same a b label there) =
      both_ways _ (ap is_empty (ap (at (board_after o p)) (sym e) ∙ there)) (crossed-empty (board_after o p) x known.clear)
  fixed-crossed i f l u q man e found fixed now (moved_here was from to label there is) = crossed-not-target x (sym e ∙ to ∙ sym ends.to)
  fixed-crossed i f l u q man e found fixed now (with_the_king y castles from to label there) =
      let member = rook-on-home i f l man found (subst (λ (s : ℕ). IsManOf o (p ++ m ∷ []) f l s man) e now) (ap (λ (z : Castle). at (board_after o p) (rook_home z)) (same-castle y castles) ∙ there) in
      crossed-not-home x (sym e ∙ sym (fixed-there q (king_home x) f fixed (king_home-within x) member))

  crossed-free : is_in (fixed_squares T) (crossed x) ≡ false
  crossed-free = false_from_ne_true _ (λ member.
      let who = fixed-man o p m held exact T it (crossed x) member in
      fixed-crossed who.number who.figure _ who.last.back.square (crossed x) who.last.man refl who.found who.fixed who.last.now who.last.back.came)

  -- the squares that the king leaves and crosses
  crossed-untouched : is_in (touched_squares T (opponent (turn_after p))) (crossed x) ≡ false
  crossed-untouched = false_from_ne_true _ (λ member. both_ways _ known.crossed_safe (touched-attacked (board_after o p) T (opponent (turn_after p)) (crossed x) (there-before o p m held exact T it) member))

  crossed-apart : is_unguarded T (turn_after p) King (crossed x) ≡ true
  crossed-apart = not_from_false _ (false_from_ne_true _ (λ member.
      let by = king-by (board_after o p) T (turn_after p) King (crossed x) (there-before o p m held exact T it) member in
      let near = next-back (crossed x) by.square (touched-next (turn_after p) King (crossed x) by.square refl by.near) in
      both_ways _ known.crossed_safe (king-attacks (board_after o p) (opponent (turn_after p)) by.square (crossed x) by.within by.king near)))

  king-way : (c : Colour) (e s : ℕ) → turn_after p ≡ c → is_loose held T e s ≡ true → kind_attacks (walls (fixed_squares T)) c King e s ≡ true → is_in (touched_squares T (opponent (turn_after p))) s ≡ false → is_unguarded T (turn_after p) King e ≡ true → is_quiet_way held T c King e s ≡ true
  king-way c e s own loose hits safe apart =
      let safe' = subst (λ (d : Colour). is_in (touched_squares T (opponent d)) s ≡ false) own safe in
      and_from _ _ (and_from _ _ loose (and_from _ _ hits (not_from_false _ safe'))) (subst (λ (d : Colour). is_unguarded T d King e ≡ true) own apart)

  -- the king may have stood on the square that he crosses, and at home
  king-crossed : (i : ℕ) (f : Figure) (l : ℕ) (man : Man) → figure_at T i ≡ Some f → IsManOf o (p ++ m ∷ []) f l m.to man → turn_after p ≡ man.colour → same_kind King man.kind ≡ true → is_in f.squares (crossed x) ≡ true
  king-crossed i f l man found now own king =
      let may : may_be f King ≡ true = subst (λ (k : Kind). may_be f k ≡ true) (sym (kind_is King man.kind king)) now.kind in
      let his : same_colour (turn_after p) man.colour ≡ true = ap (λ (d : Colour). same_colour d man.colour) own ∙ same_colour-self man.colour in
      let after : is_the (turn_after p) King (at (board_after o (p ++ m ∷ [])) m.to) ≡ true = ap (is_the (turn_after p) King) now.there ∙ and_from _ _ his king in
      let lawful = legal o p m held exact T it in
      it.closed i f King (crossed x) m.to found may now.square
      (king-way f.colour (crossed x) m.to (own ∙ now.colour) (loose-target o p m held exact T it (crossed x) (crossed-within x) crossed-free)
      (subst (λ (s : ℕ). kind_attacks (walls (fixed_squares T)) f.colour King (crossed x) s ≡ true) ends.to (king-on (walls (fixed_squares T)) f.colour x)) (king-untouched o p m held exact T it m.to lawful.on_board after) crossed-apart) refl

  pub king-from : (i : ℕ) (f : Figure) (l : ℕ) (man : Man) → figure_at T i ≡ Some f → IsManOf o (p ++ m ∷ []) f l m.to man → turn_after p ≡ man.colour → same_kind King man.kind ≡ true → is_in f.squares m.from ≡ true
  king-from i f l man found now own king =
      let may : may_be f King ≡ true = subst (λ (k : Kind). may_be f k ≡ true) (sym (kind_is King man.kind king)) now.kind in
      let at_home = king-apart o p m held exact T it (king_home x) King (king_home-within x) known.king refl in
      subst (λ (s : ℕ). is_in f.squares s ≡ true) ends.from
      (it.closed i f King (king_home x) (crossed x) found may (king-crossed i f l man found now own king)
      (king-way f.colour (king_home x) (crossed x) (own ∙ now.colour) (loose-crossed (king_home x) (king_home-within x) home-free) (king-near (walls (fixed_squares T)) f.colour x) crossed-untouched at_home) refl)

  fixed-target : (i : ℕ) (f : Figure) (l u q : ℕ) (man : Man) → q ≡ m.to → figure_at T i ≡ Some f → is_fixed_on q f ≡ true → IsManOf o (p ++ m ∷ []) f l q man → Came (board_after o p) (labels_after o p) m u q l man → ⊥
  fixed-target i f l u q man e found fixed now (stayed same a b label there) = a e
  fixed-target i f l u q man e found fixed now (with_the_king y castles from to label there) = crossed-not-target x (ap crossed (same-castle y castles) ∙ sym to ∙ e ∙ sym ends.to)
  fixed-target i f l u q man e found fixed now (moved_here was from to label there is) =
      let none = king-no-promo (board_after o p) (turn_after p) m ends.king (legal o p m held exact T it).promotion in
      let same : man ≡ was = is ∙ ap (λ (k : Option Kind). promoted_man k was) none in
      let king : same_kind King man.kind ≡ true = ap (λ (w : Man). same_kind King w.kind) same ∙ ap (is_a King) (sym there) ∙ ends.king in
      let own : turn_after p ≡ man.colour = mover-colour o p m held exact T it was there ∙ ap (λ (w : Man). w.colour) (sym same) in
      let member = king-crossed i f l man found (subst (λ (s : ℕ). IsManOf o (p ++ m ∷ []) f l s man) e now) own king in
      crossed-not-target x (fixed-there q (crossed x) f fixed (crossed-within x) member ∙ e ∙ sym ends.to)

  target-free : is_in (fixed_squares T) m.to ≡ false
  target-free = false_from_ne_true _ (λ member.
      let who = fixed-man o p m held exact T it m.to member in
      fixed-target who.number who.figure _ who.last.back.square m.to who.last.man refl who.found who.fixed who.last.now who.last.back.came)

  -- nobody is fixed on a square that was empty, nor on the rook's home
  empty-free : (w : ℕ) → is_empty (at (board_after o p) w) ≡ true → is_in (fixed_squares T) w ≡ false
  empty-free w vacant = false_from_ne_true _ (λ member.
      let who = fixed-man o p m held exact T it w member in
      nobody who.last.back.square w _ who.last.man vacant member who.last.back.came)
    where
      nobody : (u q l : ℕ) (man : Man) → is_empty (at (board_after o p) q) ≡ true → is_in (fixed_squares T) q ≡ true → Came (board_after o p) (labels_after o p) m u q l man → ⊥
      nobody u q l man vacant member (stayed same a b label there) = both_ways _ (ap is_empty there) vacant
      nobody u q l man vacant member (moved_here was from to label there is) = both_ways _ target-free (subst (λ (s : ℕ). is_in (fixed_squares T) s ≡ true) to member)
      nobody u q l man vacant member (with_the_king y castles from to label there) = both_ways _ crossed-free (subst (λ (s : ℕ). is_in (fixed_squares T) s ≡ true) (to ∙ ap crossed (sym (same-castle y castles))) member)

  rook_home-free : is_in (fixed_squares T) (rook_home x) ≡ false
  rook_home-free = false_from_ne_true _ (λ member.
      let who = fixed-man o p m held exact T it (rook_home x) member in
      let led : moved_from m (Some x) (goes_en_passant (board_after o p) m) (rook_home x) ≡ Some who.last.back.square = ap (λ (y : Option Castle). moved_from m y (goes_en_passant (board_after o p) m) (rook_home x)) (sym castled) ∙ who.last.back.led in
      none-some who.last.back.square (sym (rook-leaves x) ∙ sym (castle-from (board_after o p) m x (rook_home x) ends) ∙ led))

  -- the rook stood at home
  pub rook-from : (i : ℕ) (f : Figure) (l : ℕ) (man : Man) → figure_at T i ≡ Some f → IsManOf o (p ++ m ∷ []) f l (crossed x) man → at (board_after o p) (rook_home x) ≡ Some man → is_in f.squares (rook_home x) ≡ true
  rook-from i f l man found now there =
      let board : Places = board_after o p in
      let rook : same_kind Rook man.kind ≡ true = ap (is_a Rook) (sym there) ∙ (and_parts (is_of (turn_after p) (at board (rook_home x))) _ known.rook).1 in
      let kind : Rook ≡ man.kind = kind_is Rook man.kind rook in
      let piece : IsPiece man = record { no_pawn = ap (same_kind Pawn) (sym kind); no_king = ap (same_kind King) (sym kind) } in
      let led : moved_from m (castling board m) (goes_en_passant board m) (crossed x) ≡ Some (rook_home x) = ap (λ (y : Option Castle). moved_from m y (goes_en_passant board m) (crossed x)) castled ∙ castle-from board m x (crossed x) ends ∙ rook-comes x in
      let small = rook_home-within x in
      elim (went board (turn_after p) (unmoved o p) (last_move p) m man (rook_home x) (crossed x) there piece (legal o p m held exact T it).manner led) [
        | inl same ↦ subst (λ (s : ℕ). is_in f.squares s ≡ true) (sym same) now.square
        | inr hits ↦
            let past : kind_attacks (walls (fixed_squares T)) man.colour man.kind (rook_home x) (crossed x) ≡ true = past-walls board (fixed_squares T) man.colour man.kind (rook_home x) (crossed x) (λ w other vacant. empty-free w vacant) hits in
            it.closed i f Rook (rook_home x) (crossed x) found (subst (λ (k : Kind). may_be f k ≡ true) (sym kind) now.kind) now.square
            (and_from _ _ (and_from _ _ (loose-crossed (rook_home x) small rook_home-free)
            (subst (λ (d : Colour). kind_attacks (walls (fixed_squares T)) d Rook (rook_home x) (crossed x) ≡ true) now.colour (subst (λ (k : Kind). kind_attacks (walls (fixed_squares T)) man.colour k (rook_home x) (crossed x) ≡ true) (sym kind) past)))
            (subst (λ (d : Colour). is_unguarded T d Rook (rook_home x) ≡ true) (rook-own man there ∙ now.colour) (subst (λ (k : Kind). is_unguarded T (turn_after p) k (rook_home x) ≡ true) (sym kind) (unguarded o p m held exact T it (rook_home x) man there (rook-own man there))))) refl
      ]
