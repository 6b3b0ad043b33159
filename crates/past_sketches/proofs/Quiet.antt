-- A quiet move that is no castling: who made it stood on a square of his figure before it.
use Rattle.std.proofs.Common.{◌≡◌, ◌≢◌, ℕ, ◌<◌, ◌==◌, ◌⊎◌, inl, inr, Bool, true, false, List, [], ◌∷◌, ◌++◌, refl, ap, sym, ◌∙◌, subst, arith}
use Rattle.std.specs.List.{list_all}
use Rattle.std.proofs.lemmas.Bool.{and_parts, and_from, both_ways, cases_eq, cases_lt, eq-eqb, false_from_ne_true, lt-ltb, not_from_false, or_left, ltb-true, or_right}
use Rattle.std.proofs.lemmas.Option.{none-some, same_Some}
use Rattle.std.specs.Prelude.{Option, Some, None, nat_lt}
use Rattle.board_base.specs.Board.{Places, at, file, is_a, is_empty, is_in, is_of, is_the, opponent, rank, same_colour, same_kind}
use Rattle.board_base.specs.Attacks.{attacks, attacks_from, distance, files_apart, kind_attacks, one_ahead, on_the_way}
use Rattle.board_base.specs.Play.{castling, rook_home}
use Rattle.board_base.specs.Legal.{in_check, king_castles, man_moves, pawn_captures, pawn_captures_en_passant, pawn_doubles, pawn_steps}
use Rattle.board_base.specs.Parts.{castles_as}
use Rattle.board_base.specs.Game.{board_after, last_move, turn_after, unmoved}
use Rattle.board_base.specs.Rights.{Rights}
use Rattle.board_base.specs.declared.men.Colour.{Colour}
use Rattle.board_base.specs.declared.men.Kind.{Kind}
use Rattle.board_base.specs.declared.men.Kind.TheVariants.{Pawn, Knight, Bishop, Rook, Queen, King}
use Rattle.board_base.specs.declared.men.Man.{Man}
use Rattle.board_base.specs.declared.moves.Move.{Move}
use Rattle.board_base.specs.declared.castles.Castle.{Castle}
use Rattle.board_base.proofs.CastleSquares.{crossed-not-home}
use Rattle.board_base.proofs.KindsOfMen.{colour_is, opponent-twice, same_colour-self}
use Rattle.board_base.proofs.Ways.{king_distance-sym}
use Rattle.play_rules.specs.Laws.{is_end}
use Rattle.play_rules.proofs.Attacked.{no_king_left_attacked}
use Rattle.play_rules.proofs.Ends.{no_pawn_on_ends}
use Rattle.play_rules.proofs.Games.{board_after-more, unmoved-before}
use Rattle.play_rules.proofs.Kings.{castle-ends, two-castles, within}
use Rattle.play_rules.proofs.Legality.{Manner, castles, doubles, moves, passes, steps, takes}
use Rattle.men_account.specs.Labels.{label_at, labels_after}
use Rattle.men_account.proofs.Captured.{opponent-differs}
use Rattle.men_account.proofs.Origins.{Came, moved_here, promoted_man, stayed, with_the_king}
use Rattle.cage_rules.specs.Frozen.{is_next, is_past_home}
use Rattle.cage_rules.specs.Regions.{walls}
use Rattle.cage_rules.proofs.Stays.{Untouched, target-away}
use Rattle.men_fates.proofs.Treads.{Tread, capture, crosses-ahead, double, single, tread}
use Rattle.past_sketches.specs.Closed.{goes_past, has_room, is_loose, is_quiet_way, is_unguarded, pawn_goes}
use Rattle.past_sketches.specs.Figures.{Figure, Sketch, figure_at, fixed_squares, may_be}
use Rattle.past_sketches.specs.FileOrder.{leaves_room}
use Rattle.past_sketches.specs.Touching.{touched_squares}
use Rattle.past_sketches.specs.Fits.{IsManOf, IsPawnOn}
use Rattle.past_sketches.proofs.Sketches.{each-figure, each-kind, fixed-there}
use Rattle.past_sketches.proofs.Between.{past-walls}
use Rattle.past_sketches.proofs.Touching.{AreThere, ManThere, king-attacks, king-by, king-in-check, near-hit, touched-attacked, touched-next}
use Rattle.past_sketches.proofs.Order.{Sides, other-rank, room-by, step-sides, then-sides}
use Rattle.past_sketches.proofs.Homes.{pawn-past, two-steps}
use Rattle.past_sketches.proofs.Moments.{LastMan, Moment, earlier, fixed-man, from-not-to, from-within, inside, legal, man-of, size}
use Rattle.past_sketches.proofs.Wider.{man-inside}
use Rattle.past_sketches.specs.Moments.{IsCalm}

pub next-back : (q s : ℕ) → is_next q s ≡ true → is_next s q ≡ true
next-back q s next = ap (λ (n : ℕ). n == 1) (king_distance-sym s q) ∙ next

pub files-differ : (s t : ℕ) → files_apart s t ≡ 1 → file s ≡ file t → ⊥
unfolding distance
files-differ s t one same = omega arith

attack-of : (board : Places) (place : Option Man) (man : Man) (s t : ℕ) → place ≡ Some man → elim place as (λ _. Bool) [ None ↦ false | Some n ↦ kind_attacks board n.colour n.kind s t ] ≡ true → kind_attacks board man.colour man.kind s t ≡ true
attack-of board place man s t e h = subst (λ (o : Option Man). elim o as (λ _. Bool) [ None ↦ false | Some n ↦ kind_attacks board n.colour n.kind s t ] ≡ true) e h

-- who is no pawn attacks his target, unless the king castles
officer-hits : (board : Places) (c : Colour) (rights : Castle → Bool) (last : Option Move) (m : Move) (man : Man) → at board m.from ≡ Some man → same_kind Pawn man.kind ≡ false → castling board m ≡ None → Manner board c rights last m → kind_attacks board man.colour man.kind m.from m.to ≡ true
unfolding man_moves attacks_from pawn_steps pawn_doubles pawn_captures pawn_captures_en_passant king_castles
officer-hits board c rights last m man there piece none (moves h) = attack-of board (at board m.from) man m.from m.to there (and_parts _ _ h).1
officer-hits board c rights last m man there piece none (steps h) = absurd (both_ways _ (ap (is_a Pawn) there ∙ piece) (and_parts _ _ (and_parts _ _ (and_parts _ _ h).0).0).0)
officer-hits board c rights last m man there piece none (doubles h) = absurd (both_ways _ (ap (is_a Pawn) there ∙ piece) (and_parts _ _ (and_parts _ _ (and_parts _ _ (and_parts _ _ (and_parts _ _ h).0).0).0).0).0)
officer-hits board c rights last m man there piece none (takes h) = absurd (both_ways _ (ap (is_a Pawn) there ∙ piece) (and_parts _ _ (and_parts _ _ (and_parts _ _ h).0).0).0)
officer-hits board c rights last m man there piece none (passes h) = absurd (both_ways _ (ap (is_a Pawn) there ∙ piece) (and_parts _ _ (and_parts _ _ h).0).0)
officer-hits board c rights last m man there piece none (castles h) = absurd (both_ways false refl (subst (λ (x : Option Castle). castles_as board c rights x ≡ true) none h))

pub promoted-colour : (promo : Option Kind) (man : Man) → (promoted_man promo man).colour ≡ man.colour
promoted-colour None man = refl
promoted-colour (Some k) man = refl

module _ (o : List Bool) (p : List Move) (m : Move) (held : Rights) (exact : List Bool) (T : Sketch) (it : Moment o p m held exact T) where
  came-not-from : (u q l : ℕ) (man : Man) → Came (board_after o p) (labels_after o p) m u q l man → q ≢ m.from
  came-not-from u q l man (stayed same a b label there) e = b e
  came-not-from u q l man (moved_here was from to label there is) e = from-not-to o p m held exact T it (sym e ∙ to)
  came-not-from u q l man (with_the_king x castled from to label there) e = crossed-not-home x (sym to ∙ e ∙ sym (castle-ends (board_after o p) m x castled).from)

  -- nobody is fixed on the square that the move left
  pub from-free : is_in (fixed_squares T) m.from ≡ false
  from-free = false_from_ne_true _ (λ member. let who = fixed-man o p m held exact T it m.from member in came-not-from who.last.back.square m.from _ who.last.man who.last.back.came refl)

  -- the fixed figures have their men on the board after the move
  pub there-after : (c : Colour) → AreThere (board_after o (p ++ m ∷ [])) T c
  there-after c i f q e fixed own =
      let his = man-of o p m held exact T it i f e in
      let here : his.0 ≡ q = fixed-there q his.0 f fixed (inside o p m held exact T it f _ his.0 his.1) his.1.now.square in
      record { man = his.1.man; there = subst (λ (s : ℕ). at (board_after o (p ++ m ∷ [])) s ≡ Some his.1.man) here his.1.now.there; colour = his.1.now.colour; kind = his.1.now.kind }

  pub mover-colour : (man : Man) → at (board_after o p) m.from ≡ Some man → turn_after p ≡ man.colour
  mover-colour man there = colour_is (turn_after p) man.colour (ap (is_of (turn_after p)) (sym there) ∙ (legal o p m held exact T it).mover)

  -- and those of the side that didn't move had them before it
  enemy-there : (f : Figure) (u q l : ℕ) (after : Man) → opponent (turn_after p) ≡ f.colour → after.colour ≡ f.colour → may_be f after.kind ≡ true → Came (board_after o p) (labels_after o p) m u q l after → ManThere (board_after o p) f q
  enemy-there f u q l after own colour kind (stayed same a b label there) = record { man = after; there = there; colour = colour; kind = kind }
  enemy-there f u q l after own colour kind (moved_here was from to label there is) =
      let other : opponent (turn_after p) ≡ was.colour = own ∙ sym colour ∙ ap (λ (x : Man). x.colour) is ∙ promoted-colour m.promo was in
      let his : same_colour (opponent (turn_after p)) was.colour ≡ true = ap (λ (d : Colour). same_colour d was.colour) other ∙ same_colour-self was.colour in
      absurd (opponent-differs (turn_after p) (at (board_after o p) m.from) (legal o p m held exact T it).mover (ap (is_of (opponent (turn_after p))) there ∙ his))
  enemy-there f u q l after own colour kind (with_the_king x castled from to label there) =
      let may = two-castles (board_after o p) (turn_after p) (unmoved o p) (last_move p) m x castled (legal o p m held exact T it).manner in
      let rook : is_the (turn_after p) Rook (at (board_after o p) (rook_home x)) ≡ true = (and_parts _ _ (and_parts _ _ (and_parts _ _ (and_parts _ _ (and_parts _ _ may).0).0).0).0).1 in
      let his : same_colour (opponent (turn_after p)) after.colour ≡ true = ap (λ (d : Colour). same_colour d after.colour) (own ∙ sym colour) ∙ same_colour-self after.colour in
      absurd (opponent-differs (turn_after p) (at (board_after o p) (rook_home x)) (and_parts (is_of (turn_after p) (at (board_after o p) (rook_home x))) _ rook).0 (ap (is_of (opponent (turn_after p))) there ∙ his))

  pub there-before : AreThere (board_after o p) T (opponent (turn_after p))
  there-before i f q e fixed own =
      let his = man-of o p m held exact T it i f e in
      let here : his.0 ≡ q = fixed-there q his.0 f fixed (inside o p m held exact T it f _ his.0 his.1) his.1.now.square in
      subst (ManThere (board_after o p) f) here (enemy-there f his.1.back.square his.0 _ his.1.man own his.1.now.colour his.1.now.kind his.1.back.came)

  -- no fixed enemy touches the square of the king after his move
  pub king-untouched : (s : ℕ) → s < 64 → is_the (turn_after p) King (at (board_after o (p ++ m ∷ [])) s) ≡ true → is_in (touched_squares T (opponent (turn_after p))) s ≡ false
  king-untouched s small king = false_from_ne_true _ (λ member.
      let hit = touched-attacked (board_after o (p ++ m ∷ [])) T (opponent (turn_after p)) s (there-after (opponent (turn_after p))) member in
      both_ways _ (ap (λ (b : Places). in_check b (turn_after p)) (board_after-more o p m) ∙ (legal o p m held exact T it).safe) (king-in-check (board_after o (p ++ m ∷ [])) (turn_after p) s small king hit))

  -- the side to move attacked no enemy king before it
  king-unhit : (q : ℕ) → q < 64 → is_the (opponent (turn_after p)) King (at (board_after o p) q) ≡ true → attacks (board_after o p) q (turn_after p) ≡ true → ⊥
  king-unhit q small king hit = both_ways _ (no_king_left_attacked o p (earlier o p m held exact T it)) (king-in-check (board_after o p) (opponent (turn_after p)) q small king (ap (attacks (board_after o p) q) (opponent-twice (turn_after p)) ∙ hit))

  -- so no man of it touched his square
  pub calm-now : IsCalm (board_after o p) (turn_after p)
  calm-now e q man there own king near =
      let small : q < 64 = rw (← size o p m held exact T it) (within (is_the (opponent (turn_after p)) King) (board_after o p) q refl king) in
      king-unhit q small king (near-hit (board_after o p) (turn_after p) man e q (man-inside (board_after o p) e man (size o p m held exact T it) there) there own near)

  pub unguarded : (e : ℕ) (man : Man) → at (board_after o p) e ≡ Some man → turn_after p ≡ man.colour → is_unguarded T (turn_after p) man.kind e ≡ true
  unguarded e man there own = not_from_false _ (false_from_ne_true _ (λ member.
      let by = king-by (board_after o p) T (turn_after p) man.kind e there-before member in
      calm-now e by.square man there own by.king by.near))

  -- nor did any man touch it, but a knight, from where its own king stood
  pub king-apart : (s : ℕ) (k : Kind) → s < 64 → is_the (turn_after p) King (at (board_after o p) s) ≡ true → same_kind Knight k ≡ false → is_unguarded T (turn_after p) k s ≡ true
  king-apart s k small king other = not_from_false _ (false_from_ne_true _ (λ member.
      let by = king-by (board_after o p) T (turn_after p) k s there-before member in
      king-unhit by.square by.within by.king (king-attacks (board_after o p) (turn_after p) s by.square small king (touched-next (turn_after p) k s by.square other by.near))))

  pub untouched : Untouched held m
  untouched x has = (unmoved-before o p m x (it.rights x has)).1

  -- a square that was empty before a move that is no castling, and isn't its target
  pub empty-free : castling (board_after o p) m ≡ None → (w : ℕ) → w ≢ m.to → is_empty (at (board_after o p) w) ≡ true → is_in (fixed_squares T) w ≡ false
  empty-free none w other vacant = false_from_ne_true _ (λ member.
      let who = fixed-man o p m held exact T it w member in
      nobody who.last.back.square w _ who.last.man other vacant who.last.back.came)
    where
      nobody : (u q l : ℕ) (man : Man) → q ≢ m.to → is_empty (at (board_after o p) q) ≡ true → Came (board_after o p) (labels_after o p) m u q l man → ⊥
      nobody u q l man other vacant (stayed same a b label there) = both_ways _ (ap is_empty there) vacant
      nobody u q l man other vacant (moved_here was from to label there is) = other to
      nobody u q l man other vacant (with_the_king x castled from to label there) = none-some x (sym none ∙ castled)

  pub loose-target : (e : ℕ) → e < 64 → is_in (fixed_squares T) e ≡ false → is_loose held T e m.to ≡ true
  loose-target e small free = and_from _ _ (and_from _ _ (lt-ltb _ _ small) (not_from_false _ free)) (not_from_false _ (target-away held m untouched))

  -- an officer's or a king's way
  officer-past : (c : Colour) (k : Kind) (e s : ℕ) → same_kind Pawn k ≡ false → kind_attacks (walls (fixed_squares T)) c k e s ≡ true → (same_kind King k ≡ true → is_in (touched_squares T (opponent c)) s ≡ false) → goes_past T c k e s ≡ true
  officer-past c Pawn e s piece hits king = absurd (both_ways _ piece refl)
  officer-past c Knight e s piece hits king = hits
  officer-past c Bishop e s piece hits king = hits
  officer-past c Rook e s piece hits king = hits
  officer-past c Queen e s piece hits king = hits
  officer-past c King e s piece hits king = and_from _ _ hits (not_from_false _ (king refl))

  -- a move by an officer or a king that is no castling
  pub officer-from : castling (board_after o p) m ≡ None → (i : ℕ) (f : Figure) (l : ℕ) (man : Man) → figure_at T i ≡ Some f → IsManOf o (p ++ m ∷ []) f l m.to man → at (board_after o p) m.from ≡ Some man → same_kind Pawn man.kind ≡ false → is_in f.squares m.from ≡ true
  officer-from none i f l man found now there piece =
      let board : Places = board_after o p in
      let lawful = legal o p m held exact T it in
      let own : turn_after p ≡ man.colour = mover-colour man there in
      let hits : kind_attacks board man.colour man.kind m.from m.to ≡ true = officer-hits board (turn_after p) (unmoved o p) (last_move p) m man there piece none lawful.manner in
      let past : kind_attacks (walls (fixed_squares T)) man.colour man.kind m.from m.to ≡ true = past-walls board (fixed_squares T) man.colour man.kind m.from m.to (empty-free none) hits in
      let small : m.from < 64 = from-within o p m held exact T it in
      let way : is_quiet_way held T man.colour man.kind m.from m.to ≡ true =
      and_from _ _ (and_from _ _ (loose-target m.from small from-free) (officer-past man.colour man.kind m.from m.to piece past (λ king.
      let his : same_colour (turn_after p) man.colour ≡ true = ap (λ (d : Colour). same_colour d man.colour) own ∙ same_colour-self man.colour in
      let after : is_the (turn_after p) King (at (board_after o (p ++ m ∷ [])) m.to) ≡ true = ap (is_the (turn_after p) King) now.there ∙ and_from _ _ his king in
      subst (λ (d : Colour). is_in (touched_squares T (opponent d)) m.to ≡ false) own (king-untouched m.to lawful.on_board after))))
      (subst (λ (d : Colour). is_unguarded T d man.kind m.from ≡ true) own (unguarded m.from man there own)) in
      it.closed i f man.kind m.from m.to found now.kind now.square (subst (λ (d : Colour). is_quiet_way held T d man.kind m.from m.to ≡ true) now.colour way) (or_left _ _ (not_from_false _ piece))

  -- a pawn's way
  quiet-pawn : (f : Figure) (man : Man) (e s : ℕ) → turn_after p ≡ man.colour → man.colour ≡ f.colour → is_loose held T e s ≡ true → is_past_home (turn_after p) s ≡ true → pawn_goes T (turn_after p) e s ≡ true → is_unguarded T (turn_after p) Pawn e ≡ true → is_quiet_way held T f.colour Pawn e s ≡ true
  quiet-pawn f man e s own colour loose past goes guard =
      subst (λ (d : Colour). is_quiet_way held T d Pawn e s ≡ true) (own ∙ colour) (and_from _ _ (and_from _ _ loose (and_from _ _ past goes)) guard)

  -- who didn't make a move that is no castling
  rests : castling (board_after o p) m ≡ None → (l s u : ℕ) (man : Man) → (label_at (labels_after o p) m.from ≡ Some l → ⊥) → Came (board_after o p) (labels_after o p) m u s l man → (s ≢ m.to) × (s ≢ m.from) × (at (board_after o p) s ≡ Some man)
  rests none l s u man other (stayed same a b label there) = (a, b, there)
  rests none l s u man other (moved_here was from to label there is) = absurd (other label)
  rests none l s u man other (with_the_king x castled from to label there) = absurd (none-some x (sym none ∙ castled))

  -- the men beside a pawn's way leave room for him
  pub pawns-leave : castling (board_after o p) m ≡ None → (i : ℕ) (f : Figure) (man : Man) → figure_at T i ≡ Some f → IsManOf o (p ++ m ∷ []) f (it.fits.label i) m.to man → man.kind ≡ Pawn → label_at (labels_after o p) m.from ≡ Some (it.fits.label i) → (e : ℕ) → file e ≡ file m.to → ((w : ℕ) → file w ≡ file e → w ≢ m.from → w ≢ m.to → is_empty (at (board_after o p) w) ≡ false → Sides e m.to w) → list_all (leaves_room f e) T ≡ true
  pawns-leave none i f man found now pawn his e level sides = each-figure T (leaves_room f e) (λ n g e2.
      let who = man-of o p m held exact T it n g e2 in
      room-by g e who.0 (nat_lt g.place f.place) (nat_lt f.place g.place) (inside o p m held exact T it g (it.fits.label n) who.0 who.1) who.1.now.square (λ here kinds.
      let both = by n g e2 who.0 who.1 here kinds (cases_eq n i) in
      (λ is. both.0 (ltb-true _ _ is), λ is. both.1 (ltb-true _ _ is))))
    where
      by : (n : ℕ) (g : Figure) → figure_at T n ≡ Some g → (w : ℕ) (last : LastMan o p m g (it.fits.label n) w) → file w ≡ file e → list_all (same_kind Pawn) g.kinds ≡ true → (n ≡ i) ⊎ (n ≢ i) → (g.place < f.place → rank w < rank e) × (f.place < g.place → rank e < rank w)
      by n g e2 w last here kinds (inl same) =
          let own : g ≡ f = same_Some _ _ (sym e2 ∙ ap (figure_at T) same ∙ found) in
          let level_place : g.place ≡ f.place = ap (λ (h : Figure). h.place) own in
          (λ lower. absurd (omega (arith, lower, level_place)), λ higher. absurd (omega (arith, higher, level_place)))
      by n g e2 w last here kinds (inr other) =
          let off = rests none (it.fits.label n) w last.back.square last.man (λ label. other (it.fits.apart n i g f e2 found (same_Some _ _ (sym label ∙ his)))) last.back.came in
          let side = sides w here off.1 off.0 (ap is_empty off.2) in
          let apart : rank w ≢ rank m.to = other-rank w m.to (here ∙ level) off.0 in
          let me : IsPawnOn o (p ++ m ∷ []) (it.fits.label i) m.to = record { label = now.label; pawn = ap (is_a Pawn) now.there ∙ ap (same_kind Pawn) pawn } in
          let it_is : IsPawnOn o (p ++ m ∷ []) (it.fits.label n) w = record { label = last.now.label; pawn = ap (is_a Pawn) last.now.there ∙ each-kind g.kinds (same_kind Pawn) last.man.kind kinds last.now.kind } in (
            λ lower. side.down_back (elim (cases_lt (rank m.to) (rank w)) [
              | inl above ↦ absurd (let higher = it.fits.order i n f g m.to w found e2 me it_is (sym (here ∙ level)) above in omega (arith, lower, higher))
              | inr not_above ↦ omega (arith, not_above, apart)
            ]),
            λ higher. side.up_back (elim (cases_lt (rank w) (rank m.to)) [
              | inl below ↦ absurd (let lower = it.fits.order n i g f w m.to e2 found it_is me (here ∙ level) below in omega (arith, lower, higher))
              | inr not_below ↦ omega (arith, not_below, apart)
            ]),
          )

  pawn-room : castling (board_after o p) m ≡ None → (i : ℕ) (f : Figure) (man : Man) → figure_at T i ≡ Some f → IsManOf o (p ++ m ∷ []) f (it.fits.label i) m.to man → man.kind ≡ Pawn → label_at (labels_after o p) m.from ≡ Some (it.fits.label i) → (e : ℕ) → file e ≡ file m.to → ((w : ℕ) → file w ≡ file e → w ≢ m.from → w ≢ m.to → is_empty (at (board_after o p) w) ≡ false → Sides e m.to w) → is_in exact (file e) ≡ false → has_room exact T f Pawn e ≡ true
  pawn-room none i f man found now pawn his e level sides open_file = and_from _ _ (not_from_false _ open_file) (pawns-leave none i f man found now pawn his e level sides)

  -- on which side of a pawn's way, straight on, other men stand
  pub pawn-sides : is_a Pawn (at (board_after o p) m.from) ≡ true → file m.from ≡ file m.to → (w : ℕ) → file w ≡ file m.from → w ≢ m.from → w ≢ m.to → is_empty (at (board_after o p) w) ≡ false → Sides m.from m.to w
  pawn-sides was same w level not_from not_to full =
      let lawful = legal o p m held exact T it in
      goes (tread (board_after o p) (turn_after p) (unmoved o p) (last_move p) m was lawful.on_board lawful.manner)
    where
      goes : Tread (board_after o p) (turn_after p) m → Sides m.from m.to w
      goes (single one ahead_is file_is free) = step-sides (turn_after p) m.from m.to w ahead_is (other-rank w m.from level not_from) (other-rank w m.to (level ∙ same) not_to)
      goes (capture one ahead_is aside enemy) = absurd (files-differ m.from m.to aside same)
      goes (double two home file_is crossed_free free) =
          let x : ℕ = on_the_way m.from m.to 1 in
          let on = (legal o p m held exact T it).on_board in
          let t = two-steps (turn_after p) m.from x m.to on home file_is two (crosses-ahead (turn_after p) m.from m.to on home file_is two) in
          let apart : rank w ≢ rank x = other-rank w x (level ∙ t.file_first) (λ e. both_ways _ full (ap (λ (s : ℕ). is_empty (at (board_after o p) s)) e ∙ crossed_free)) in
          then-sides m.from x m.to w (step-sides (turn_after p) m.from x w t.first (other-rank w m.from level not_from) apart) (step-sides (turn_after p) x m.to w t.second apart (other-rank w m.to (level ∙ same) not_to))

  pub pawn-from : castling (board_after o p) m ≡ None → (i : ℕ) (f : Figure) (man : Man) → figure_at T i ≡ Some f → IsManOf o (p ++ m ∷ []) f (it.fits.label i) m.to man → at (board_after o p) m.from ≡ Some man → man.kind ≡ Pawn → file m.from ≡ file m.to → is_in exact (file m.from) ≡ false → label_at (labels_after o p) m.from ≡ Some (it.fits.label i) → is_in f.squares m.from ≡ true
  pawn-from none i f man found now there pawn same loose_file his =
      let lawful = legal o p m held exact T it in
      let was : is_a Pawn (at (board_after o p) m.from) ≡ true = ap (is_a Pawn) there ∙ ap (same_kind Pawn) pawn in
      goes (tread (board_after o p) (turn_after p) (unmoved o p) (last_move p) m was lawful.on_board lawful.manner)
    where
      small : m.from < 64
      small = from-within o p m held exact T it

      own : turn_after p ≡ man.colour
      own = mover-colour man there

      is_pawn : may_be f Pawn ≡ true
      is_pawn = subst (λ (k : Kind). may_be f k ≡ true) pawn now.kind

      starts : is_end m.from ≡ false
      starts = false_from_ne_true _ (λ end. both_ways _ (no_pawn_on_ends o p (earlier o p m held exact T it) m.from end) (ap (is_a Pawn) there ∙ ap (same_kind Pawn) pawn))

      ends : is_end m.to ≡ false
      ends = false_from_ne_true _ (λ end. both_ways _ (no_pawn_on_ends o (p ++ m ∷ []) it.game m.to end) (ap (is_a Pawn) now.there ∙ ap (same_kind Pawn) pawn))

      room : has_room exact T f Pawn m.from ≡ true
      room = pawn-room none i f man found now pawn his m.from same (λ w level. pawn-sides (ap (is_a Pawn) there ∙ ap (same_kind Pawn) pawn) same w level) loose_file

      guard : is_unguarded T (turn_after p) Pawn m.from ≡ true
      guard = subst (λ (k : Kind). is_unguarded T (turn_after p) k m.from ≡ true) pawn (unguarded m.from man there own)

      goes : Tread (board_after o p) (turn_after p) m → is_in f.squares m.from ≡ true
      goes (single one ahead_is file_is free) =
          it.closed i f Pawn m.from m.to found is_pawn now.square
          (quiet-pawn f man m.from m.to own now.colour (loose-target m.from small from-free) (pawn-past (turn_after p) m.from m.to small (legal o p m held exact T it).on_board ahead_is starts ends) (and_from _ _ (and_from _ _ (eq-eqb _ _ file_is) (or_left _ _ ahead_is)) (or_left _ _ ahead_is)) guard) room
      goes (capture one ahead_is aside enemy) = absurd (files-differ m.from m.to aside same)
      goes (double two home file_is crossed_free free) =
          let x : ℕ = on_the_way m.from m.to 1 in
          let on = (legal o p m held exact T it).on_board in
          let t = two-steps (turn_after p) m.from x m.to on home file_is two (crosses-ahead (turn_after p) m.from m.to on home file_is two) in
          it.closed i f Pawn m.from m.to found is_pawn now.square
          (quiet-pawn f man m.from m.to own now.colour (loose-target m.from small from-free) (pawn-past (turn_after p) x m.to t.within on t.second t.inner_crossed ends)
          (and_from _ _ (and_from _ _ (eq-eqb _ _ file_is) (or_right (one_ahead (turn_after p) m.from m.to) _ (and_from _ _ (eq-eqb _ _ home) (eq-eqb _ _ two)))) (or_right (one_ahead (turn_after p) m.from m.to) _ (not_from_false _ (empty-free none x t.apart crossed_free)))) guard) room
