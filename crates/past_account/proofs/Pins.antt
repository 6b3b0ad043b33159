-- The fixed figures of a frozen set have stood on their squares from the array on.
use Rattle.std.proofs.Common.{◌≡◌, ℕ, ◌<◌, ◌==◌, ◌⊎◌, inl, inr, Bool, true, false, ◌&&◌, ◌||◌, not, List, [], ◌∷◌, ◌++◌, length, refl, ap, sym, ◌∙◌, subst}
use Rattle.std.proofs.lemmas.Bool.{and_parts, both_ways, eqb-true, ne_eqb, not-true, or_cases}
use Rattle.std.proofs.lemmas.List.{append-nil, append_assoc}
use Rattle.std.specs.Prelude.{Option, Some, None}
use Rattle.std.specs.List.{list_all, range_with_len}
use Rattle.board_base.specs.Board.{Places, at, is_a, is_empty, is_in, is_of}
use Rattle.board_base.specs.Play.{castling, crossed, goes_en_passant, en_passant_victim, king_home, king_target, play, rook_home}
use Rattle.board_base.specs.Parts.{played_as}
use Rattle.board_base.specs.Game.{IsGame, board_after, turn_after, last_move, unmoved}
use Rattle.board_base.specs.Rights.{Rights}
use Rattle.board_base.specs.declared.men.Colour.{Colour}
use Rattle.board_base.specs.declared.men.Kind.{Kind}
use Rattle.board_base.specs.declared.men.Kind.TheVariants.{King, Pawn, Rook}
use Rattle.board_base.specs.declared.men.Man.{Man}
use Rattle.board_base.specs.declared.moves.Move.{Move}
use Rattle.board_base.specs.declared.castles.Castle.{Castle}
use Rattle.board_base.specs.declared.castles.Castle.TheVariants.{WhiteShort, WhiteLong, BlackShort, BlackLong}
use Rattle.board_base.specs.Attacks.{distance, king_distance}
use Rattle.board_base.proofs.CastleSquares.{crossed-within, king_home-within}
use Rattle.board_base.proofs.KindsOfMen.{another_kind, kind_is}
use Rattle.play_rules.proofs.Legality.{Legality, legality}
use Rattle.play_rules.proofs.Games.{board_after-more, game_before, legal_last, unmoved-before}
use Rattle.play_rules.proofs.Kings.{Ends, castle-ends, length-after, within}
use Rattle.men_account.specs.Labels.{label_at, labels_after}
use Rattle.men_account.proofs.Labelled.{first-is, labels_after-more, length-labels}
use Rattle.men_account.proofs.Origins.{Came, before, moved_here, promoted_man, rook-there, stayed, with_the_king}
use Rattle.men_account.proofs.Moved.{on_square}
use Rattle.cage_rules.specs.Frozen.{is_entry, is_held_home, is_plain_entry}
use Rattle.cage_rules.specs.Laws.{Walled}
use Rattle.cage_rules.proofs.Histories.{game-begins, unmoved-begins}
use Rattle.cage_rules.proofs.Stays.{Untouched, after-castle, after-plain, came, crossed-away, king-leaves, rook-comes, target-away, vacated}
use Rattle.cage_rules.proofs.Tested.{at_board}
use Rattle.cage_rules.proofs.WalledGames.{walled-stands}
use Rattle.balance_rule.proofs.OnBoard.{labelled-inside}
use Rattle.men_fates.proofs.Brought.{piece-keeps}
use Rattle.past_sketches.specs.Figures.{Figure, Sketch, is_fixed_on, may_be}
use Rattle.past_sketches.specs.Fits.{Fits, IsManOf, is_plain}
use Rattle.past_sketches.specs.Moments.{AreHeld}
use Rattle.past_account.specs.Frozen.{AreBegun, IsFrozenIn, enters_as, figure_enters}
use Rattle.past_account.proofs.Accesses.{Access, access, figure-enters, plain-begins}

-- the man of a fixed figure of the set, on his square at the end
record Pin (o : List Bool) (g : List Move) (held : Rights) (set : List Bool) (s : ℕ) : Type 0 where
  figure : Figure
  label : ℕ
  man : Man
  is : IsManOf o g figure label s man
  barred : (is_held_home held s ≡ true) ⊎ ((t : ℕ) → t < 64 → figure_enters figure s t ≡ true → is_in set t ≡ true)

-- a rook who castled may have come from the king's home, whether marked or not, and the king over the square beside it
rook-plain : (b : Bool) (c : Colour) (x : Castle) → enters_as b c Rook (crossed x) (king_home x) ≡ true
unfolding is_entry is_plain_entry king_distance distance
rook-plain true c WhiteShort = refl
rook-plain true c WhiteLong = refl
rook-plain true c BlackShort = refl
rook-plain true c BlackLong = refl
rook-plain false c WhiteShort = refl
rook-plain false c WhiteLong = refl
rook-plain false c BlackShort = refl
rook-plain false c BlackLong = refl

king-plain : (b : Bool) (c : Colour) (x : Castle) → enters_as b c King (king_target x) (crossed x) ≡ true
unfolding is_entry is_plain_entry king_distance distance
king-plain true c WhiteShort = refl
king-plain true c WhiteLong = refl
king-plain true c BlackShort = refl
king-plain true c BlackLong = refl
king-plain false c WhiteShort = refl
king-plain false c WhiteLong = refl
king-plain false c BlackShort = refl
king-plain false c BlackLong = refl

-- the entries of a figure of whom the kind is known
enters-of : (f : Figure) (k : Kind) (place : Option Man) (man : Man) (s t : ℕ) → place ≡ Some man → is_a k place ≡ true → may_be f man.kind ≡ true → ((b : Bool) (c : Colour) → enters_as b c k s t ≡ true) → figure_enters f s t ≡ true
enters-of f k place man s t there kind may enter =
    let same : k ≡ man.kind = kind_is k man.kind (ap (is_a k) (sym there) ∙ kind) in
    figure-enters f k s t (subst (λ (j : Kind). may_be f j ≡ true) (sym same) may) (enter f.marked f.colour)

module _ (o : List Bool) (g : List Move) (held : Rights) (set : List Bool) (whole : IsGame o g) (rights : AreHeld o g held) (pin : (s : ℕ) → is_in set s ≡ true → Pin o g held set s) where
  -- the pins stand on their squares after these moves
  record Pinned (k : List Move) : Type 0 where
    label : (s : ℕ) (member : is_in set s ≡ true) → label_at (labels_after o k) s ≡ Some (pin s member).label
    there : (s : ℕ) (member : is_in set s ≡ true) → at (board_after o k) s ≡ Some (pin s member).man

  -- an entry of a pin isn't empty
  no-access : (k : List Move) → Pinned k → (s e : ℕ) (member : is_in set s ≡ true) → e < 64 → figure_enters (pin s member).figure s e ≡ true → is_held_home held s ≡ false → is_empty (at (board_after o k) e) ≡ true → ⊥
  no-access k pinned s e member inside enters away vacant = elim (pin s member).barred [
    | inl home ↦ both_ways _ away home
    | inr closed ↦ both_ways (is_empty (at (board_after o k) e)) (ap is_empty (pinned.there e (closed e inside enters))) vacant
  ]

  module _ (k after : List Move) (m : Move) (split : g ≡ (k ++ m ∷ []) ++ after) (pinned : Pinned (k ++ m ∷ [])) where
    game : IsGame o (k ++ m ∷ [])
    game = game-begins o (k ++ m ∷ []) after (subst (IsGame o) split whole)

    begun : IsGame o k
    begun = game_before o k m game

    legal : Legality (board_after o k) (turn_after k) (unmoved o k) (last_move k) m
    legal = legality _ _ _ _ _ (legal_last o k m game)

    len : length (board_after o k) ≡ 64
    len = length-after o k begun

    inside : m.from < 64
    inside = rw (← len) (within (is_of (turn_after k)) (board_after o k) m.from refl legal.mover)

    untouched : Untouched held m
    untouched x has = (unmoved-before o k m x (unmoved-begins o (k ++ m ∷ []) after x (ap (λ (h : List Move). unmoved o h x) (sym split) ∙ rights x has))).1

    -- the board after the move
    played : (castle : Option Castle) → castling (board_after o k) m ≡ castle → (s : ℕ) → at (board_after o (k ++ m ∷ [])) s ≡ at (played_as (board_after o k) m castle) s
    unfolding play
    played castle is s = ap (λ (b : Places). at b s) (board_after-more o k m) ∙ ap (λ (x : Option Castle). at (played_as (board_after o k) m x) s) is

    -- nobody came to a pin by a plain move
    no-mover : (s : ℕ) (member : is_in set s ≡ true) (man : Man) → s ≡ m.to → castling (board_after o k) m ≡ None → label_at (labels_after o k) m.from ≡ Some (pin s member).label → at (board_after o k) m.from ≡ Some man → (pin s member).man ≡ promoted_man m.promo man → ⊥
    no-mover s member man to none label there is =
        let x = pin s member in
        let arrived : at (board_after o (k ++ m ∷ [])) m.to ≡ Some (promoted_man m.promo man) = ap (at (board_after o (k ++ m ∷ []))) (sym to) ∙ pinned.there s member ∙ ap Some is in
        let colour : (promoted_man m.promo man).colour ≡ x.figure.colour = ap (λ (y : Man). y.colour) (sym is) ∙ x.is.colour in
        let kind : may_be x.figure (promoted_man m.promo man).kind ≡ true = ap (λ (y : Man). may_be x.figure y.kind) (sym is) ∙ x.is.kind in
        let way : Access (board_after o k) x.figure m.from m.to =
        access o k m x.figure x.label man game begun legal inside none there label arrived colour kind (λ marked.
        plain-begins o x.label (promoted_man m.promo man) after (k ++ m ∷ []) (ap (λ (h : List Move). is_plain o h x.label (promoted_man m.promo man)) (sym split) ∙ ap (is_plain o g x.label) (sym is) ∙ x.is.mark marked)) in
        let vacant : is_empty (at (board_after o (k ++ m ∷ [])) way.entry) ≡ true =
        ap is_empty (played None none way.entry ∙ after-plain (board_after o k) m way.entry len inside legal.on_board
        ∙ ap (λ (b : Bool). came (board_after o k) m.promo m.from way.entry (goes_en_passant (board_after o k) m && (way.entry == en_passant_victim m)) b (way.entry == m.from)) (ne_eqb _ _ way.apart))
        ∙ vacated (board_after o k) m.promo m.from way.entry _ _ refl way.vacant in
        let away : is_held_home held s ≡ false = ap (is_held_home held) to ∙ target-away held m untouched in
        no-access (k ++ m ∷ []) pinned s way.entry member way.inside (ap (λ (t : ℕ). figure_enters x.figure t way.entry) to ∙ way.enters) away vacant

    -- nor did a rook who castled
    no-rook : (x : Castle) → castling (board_after o k) m ≡ Some x → is_in set (crossed x) ≡ true → ⊥
    no-rook x is member =
        let ends : Ends m x (board_after o k) = castle-ends (board_after o k) m x is in
        let p = pin (crossed x) member in
        let stands : at (board_after o (k ++ m ∷ [])) (crossed x) ≡ at (board_after o k) (rook_home x) =
        played (Some x) is (crossed x) ∙ after-castle (board_after o k) m x (crossed x) ends len inside legal.on_board ∙ ap (on_square (board_after o k)) (rook-comes x) in
        let rook : is_a Rook (at (board_after o (k ++ m ∷ [])) (crossed x)) ≡ true = ap (is_a Rook) stands ∙ rook-there (board_after o k) (turn_after k) (unmoved o k) (last_move k) m x is legal in
        let enters : figure_enters p.figure (crossed x) (king_home x) ≡ true = enters-of p.figure Rook (at (board_after o (k ++ m ∷ [])) (crossed x)) p.man (crossed x) (king_home x) (pinned.there (crossed x) member) rook p.is.kind (λ b c. rook-plain b c x) in
        let vacant : is_empty (at (board_after o (k ++ m ∷ [])) (king_home x)) ≡ true =
        ap is_empty (played (Some x) is (king_home x) ∙ after-castle (board_after o k) m x (king_home x) ends len inside legal.on_board ∙ ap (on_square (board_after o k)) (king-leaves x)) in
        no-access (k ++ m ∷ []) pinned (crossed x) (king_home x) member (king_home-within x) enters (crossed-away held x) vacant

    -- nor his king
    no-king : (s : ℕ) (member : is_in set s ≡ true) (man : Man) (x : Castle) → s ≡ m.to → castling (board_after o k) m ≡ Some x → at (board_after o k) m.from ≡ Some man → (pin s member).man ≡ promoted_man m.promo man → ⊥
    no-king s member man x to is there same =
        let ends : Ends m x (board_after o k) = castle-ends (board_after o k) m x is in
        let p = pin s member in
        let still : Some p.man ≡ at (board_after o k) m.from = ap Some (same ∙ piece-keeps (board_after o k) (turn_after k) m man legal.promotion (another_kind Pawn King (at (board_after o k) m.from) ends.king)) ∙ sym there in
        let target : s ≡ king_target x = to ∙ sym ends.to in
        let enters : figure_enters p.figure (king_target x) (crossed x) ≡ true = enters-of p.figure King (at (board_after o k) m.from) p.man (king_target x) (crossed x) (sym still) ends.king p.is.kind (λ b c. king-plain b c x) in
        elim p.barred [
          | inl home ↦ both_ways _ (ap (is_held_home held) to ∙ target-away held m untouched) home
          | inr closed ↦ no-rook x is (closed (crossed x) (crossed-within x) (ap (λ (t : ℕ). figure_enters p.figure t (crossed x)) target ∙ enters))
        ]

    no-comer : (s : ℕ) (member : is_in set s ≡ true) (man : Man) (castle : Option Castle) → castling (board_after o k) m ≡ castle → s ≡ m.to → label_at (labels_after o k) m.from ≡ Some (pin s member).label → at (board_after o k) m.from ≡ Some man → (pin s member).man ≡ promoted_man m.promo man → ⊥
    no-comer s member man None e to label there is = no-mover s member man to e label there is
    no-comer s member man (Some x) e to label there is = no-king s member man x to e there is

    from-came : (s : ℕ) (member : is_in set s ≡ true) (u : ℕ) → Came (board_after o k) (labels_after o k) m u s (pin s member).label (pin s member).man → (label_at (labels_after o k) s ≡ Some (pin s member).label) × (at (board_after o k) s ≡ Some (pin s member).man)
    from-came s member u (stayed same not_to not_from label there) = (label, there)
    from-came s member u (moved_here man from to label there is) = absurd (no-comer s member man (castling (board_after o k) m) refl to label there is)
    from-came s member u (with_the_king x castles from to label there) = absurd (no-rook x castles (subst (λ (t : ℕ). is_in set t ≡ true) to member))

    stay : (s : ℕ) (member : is_in set s ≡ true) → (label_at (labels_after o k) s ≡ Some (pin s member).label) × (at (board_after o k) s ≡ Some (pin s member).man)
    stay s member =
        let x = pin s member in
        let was = before (board_after o k) (labels_after o k) (turn_after k) (unmoved o k) (last_move k) m len (length-labels o k begun) legal s x.label x.man (ap (λ (l : List (Option ℕ)). label_at l s) (sym (labels_after-more o k m)) ∙ pinned.label s member) (ap (λ (b : Places). at b s) (sym (board_after-more o k m)) ∙ pinned.there s member) in
        from-came s member was.square was.came

    pinned-before : Pinned k
    pinned-before = record { label = λ s member. (stay s member).0; there = λ s member. (stay s member).1 }

  pinned-end : Pinned g
  pinned-end = record { label = λ s member. (pin s member).is.label; there = λ s member. (pin s member).is.there }

  -- so after each beginning of the game
  pinned-begins : (after k : List Move) → g ≡ k ++ after → Pinned k
  pinned-begins [] k split = subst Pinned (split ∙ append-nil k) pinned-end
  pinned-begins (m ∷ after) k split =
      let split' : g ≡ (k ++ m ∷ []) ++ after = split ∙ sym (append_assoc k (m ∷ []) after) in
      pinned-before k after m split' (pinned-begins after (k ++ m ∷ []) split')

  pins-walled : Walled o g set
  pins-walled = record {
    game = whole;
    labels = λ k begins s member.
        let first : s ≡ (pin s member).label = first-is o s (pin s member).label ((pinned-begins g [] refl).label s member) in
        (pinned-begins begins.0 k begins.1).label s member ∙ ap Some (sym first);
  }

-- a fixed figure's man stands on the square
pub fixed-stands : (o : List Bool) (g : List Move) (f : Figure) (s l t : ℕ) (m : Man) → IsGame o g → is_fixed_on s f ≡ true → IsManOf o g f l t m → t ≡ s
fixed-stands o g f s l t m game fixed is =
    let parts = and_parts (is_in f.squares s) (list_all (λ u. not (is_in f.squares u) || (u == s)) (range_with_len 0 64)) fixed in
    let on : t < 64 = labelled-inside o g t l game is.label in
    elim (or_cases (not (is_in f.squares t)) (t == s) (at_board (λ u. not (is_in f.squares u) || (u == s)) t parts.1 on)) [
      | inl away ↦ absurd (both_ways (is_in f.squares t) (not-true (is_in f.squares t) away) is.square)
      | inr here ↦ eqb-true t s here
    ]

-- the fixed figures of a frozen set stay
pub figures-stay : (o : List Bool) (g : List Move) (S : Sketch) (held : Rights) (set : List Bool) → IsGame o g → Fits o g S → AreHeld o g held → IsFrozenIn held S set → Walled o g set
figures-stay o g S held set game fits rights frozen =
    pins-walled o g held set game rights (λ s member.
    let b = frozen s member in
    let stands = fits.stand b.number b.figure b.there in
    let here : stands.0 ≡ s = fixed-stands o g b.figure s (fits.label b.number) stands.0 stands.1 game b.fixed stands.2 in
    record { figure = b.figure; label = fits.label b.number; man = stands.1; is = subst (λ (t : ℕ). IsManOf o g b.figure (fits.label b.number) t stands.1) here stands.2; barred = b.barred })

-- and where fixed figures stay, they are of men who began there
pub figures-begun : (o : List Bool) (g : List Move) (S : Sketch) (set : List Bool) → Fits o g S → Walled o g set → AreBegun o S set
figures-begun o g S set fits walled s i f member there fixed =
    let stands = fits.stand i f there in
    let here : stands.0 ≡ s = fixed-stands o g f s (fits.label i) stands.0 stands.1 walled.game fixed stands.2 in
    (stands.1, sym (walled-stands o g set walled g ([], sym (append-nil g)) s member) ∙ ap (at (board_after o g)) (sym here) ∙ stands.2.there, stands.2.colour, stands.2.kind)
