-- In a game whose zones are known, each officer stands where he can have come past them from where he began or was promoted.
use Rattle.std.proofs.Common.{◌≡◌, ◌≢◌, ℕ, zero, suc, ◌+◌, ◌-◌, ◌<◌, ◌≤◌, ◌==◌, inl, inr, Bool, true, false, ◌&&◌, ◌||◌, not, List, [], ◌∷◌, ◌++◌, refl, ap, sym, ◌∙◌, subst, arith}
use Rattle.std.proofs.lemmas.Bool.{and_parts, and_from, both_ways, cases_Bool, cases_eq, eqb-true, false_from_ne_true, not-true, not_from_false, or_cases}
use Rattle.std.proofs.lemmas.List.{append_assoc}
use Rattle.std.proofs.lemmas.Option.{same_Some}
use Rattle.std.specs.Prelude.{Option, Some}
use Rattle.std.specs.List.{Contains, list_any, range_with_len}
use Rattle.general_lemmas.proofs.Lists.{contains-first, contains-later}
use Rattle.general_lemmas.proofs.Ranges.{all_in_range}
use Rattle.board_base.specs.Board.{Places, array_of, at, is_a, is_empty, is_in, same_kind}
use Rattle.board_base.specs.Attacks.{is_open, kind_attacks, king_distance, on_the_way}
use Rattle.board_base.specs.Play.{castling, goes_en_passant, rook_home}
use Rattle.board_base.specs.Legal.{is_officer}
use Rattle.board_base.specs.Game.{IsGame, board_after, turn_after, last_move, unmoved}
use Rattle.board_base.specs.declared.men.Colour.{Colour}
use Rattle.board_base.specs.declared.men.Kind.{Kind}
use Rattle.board_base.specs.declared.men.Kind.TheVariants.{Pawn, Knight, Bishop, Rook, Queen, King}
use Rattle.board_base.specs.declared.men.Man.{Man}
use Rattle.board_base.specs.declared.moves.Move.{Move}
use Rattle.board_base.proofs.KindsOfMen.{another_kind, no_officer}
use Rattle.play_rules.proofs.Legality.{Legality, legality}
use Rattle.play_rules.proofs.Games.{board_after-more, in_every_game}
use Rattle.play_rules.proofs.Kings.{castle-ends, length-after}
use Rattle.men_account.specs.Labels.{label_at, labels_after}
use Rattle.men_account.proofs.Labelled.{first-is, labels_after-more, length-labels}
use Rattle.men_account.proofs.Moved.{moved_from}
use Rattle.men_account.proofs.Origins.{Came, Origin, before, goes, moved_here, origin, rook-there, stayed, stays, with_king, with_the_king}
use Rattle.cage_rules.specs.Laws.{Walled}
use Rattle.cage_rules.specs.Regions.{may_roam, walls}
use Rattle.cage_rules.proofs.Goings.{IsPiece, went}
use Rattle.cage_rules.proofs.Histories.{game-begins}
use Rattle.cage_rules.proofs.Walls.{goes-between}
use Rattle.cage_rules.proofs.WalledGames.{walled-full, walled-stays}
use Rattle.men_fates.specs.Deeds.{way_of}
use Rattle.men_fates.specs.Ways.{way_end}
use Rattle.men_fates.proofs.Brought.{piece-keeps, stands-inside}
use Rattle.men_fates.proofs.Goings.{apart-rests, end-goes, pawn-before, pawn-ends, way-rests}
use Rattle.men_fates.proofs.MoreDeeds.{piece-rests}
use Rattle.past_sketches.specs.Figures.{Sketch}
use Rattle.past_sketches.specs.Fits.{Fits}
use Rattle.past_account.specs.Zones.{AreZones, Room, is_trodden, roams_past, room_past, treads_all}
use Rattle.past_account.proofs.InZones.{in-zone}
use Rattle.past_account.proofs.Reached.{reached-goes, reached-home}

-- each officer of the game has this room, from where his way as a pawn ended, or from his home where he began as an officer
abbrev pub HasRoom : List Bool → List Move → Room → Type 0
HasRoom o g R = (k after : List Move) → g ≡ k ++ after → (s l : ℕ) (who : Man) → label_at (labels_after o k) s ≡ Some l → at (board_after o k) s ≡ Some who → is_officer who.kind ≡ true → R (Some who) (way_end l (way_of o k l)) s ≡ true

any-range : (p : ℕ → Bool) (a n : ℕ) → list_any p (range_with_len a n) ≡ true → (j : ℕ) × (a ≤ j) × (j < a + n) × (p j ≡ true)
any-range p a zero h = absurd (both_ways false refl h)
any-range p a (suc n) h = elim (or_cases (p a) (list_any p (range_with_len (a + 1) n)) h) [
  | inl here ↦ (a, omega arith, omega arith, here)
  | inr later ↦ let x = any-range p (a + 1) n later in let low = x.1 in let high = x.2 in (x.0, omega arith, omega arith, x.3)
]

pub any-zone : (p : List Bool → Bool) (zones : List (List Bool)) → list_any p zones ≡ true → (zone : List Bool) × Contains zones zone × (p zone ≡ true)
any-zone p [] h = absurd (both_ways false refl h)
any-zone p (zone ∷ zones) h = elim (or_cases (p zone) (list_any p zones) h) [
  | inl here ↦ (zone, contains-first zone zones, here)
  | inr later ↦ let x = any-zone p zones later in (x.0, contains-later zone zones x.0 x.1, x.2)
]

-- who goes over squares goes over empty ones
open-of : (board : Places) (c : Colour) (k : Kind) (t u : ℕ) → is_officer k ≡ true → same_kind Knight k ≡ false → kind_attacks board c k t u ≡ true → is_open board t u ≡ true
unfolding kind_attacks
open-of board c Pawn t u officer other h = absurd (both_ways false refl officer)
open-of board c Knight t u officer other h = absurd (both_ways true other refl)
open-of board c Bishop t u officer other h = (and_parts _ _ h).1
open-of board c Rook t u officer other h = (and_parts _ _ h).1
open-of board c Queen t u officer other h = (and_parts _ _ h).1
open-of board c King t u officer other h = absurd (both_ways false refl officer)

-- an officer is no pawn
officer-pawn : (place : Option Man) (a b : Man) → place ≡ Some a → place ≡ Some b → is_officer a.kind ≡ true → same_kind Pawn b.kind ≡ true → ⊥
officer-pawn place a b here there officer pawn =
    both_ways (same_kind Pawn a.kind) (no_officer Pawn a.kind refl officer) (ap (λ (m : Man). same_kind Pawn m.kind) (same_Some a b (sym here ∙ there)) ∙ pawn)

-- a man treads no square on which a pawn stands before and after his move
not-trodden : (before_ after_ : Places) (k : Kind) (c : Colour) (t u z : ℕ) (who pawn : Man) → is_officer k ≡ true → who.kind ≡ k → at before_ t ≡ Some who → at after_ u ≡ Some who → at before_ z ≡ Some pawn → at after_ z ≡ Some pawn → same_kind Pawn pawn.kind ≡ true → kind_attacks before_ c k t u ≡ true → is_trodden k t u z ≡ true → ⊥
not-trodden before_ after_ k c t u z who pawn officer is from to here there pawn_is hits trodden =
    let his : is_officer who.kind ≡ true = ap is_officer is ∙ officer in
    elim (or_cases ((z == t) || (z == u)) (not (same_kind Knight k) && list_any (λ j. on_the_way t u j == z) (range_with_len 1 (king_distance t u - 1))) trodden) [
      | inl ends ↦ elim (or_cases (z == t) (z == u) ends) [
        | inl first ↦ officer-pawn (at before_ z) who pawn (ap (at before_) (eqb-true z t first) ∙ from) here his pawn_is
        | inr last ↦ officer-pawn (at after_ z) who pawn (ap (at after_) (eqb-true z u last) ∙ to) there his pawn_is
      ]
      | inr crossing ↦
          let parts = and_parts (not (same_kind Knight k)) (list_any (λ j. on_the_way t u j == z) (range_with_len 1 (king_distance t u - 1))) crossing in
          let step = any-range (λ j. on_the_way t u j == z) 1 (king_distance t u - 1) parts.1 in
          let clear : is_open before_ t u ≡ true = open-of before_ c k t u officer (not-true (same_kind Knight k) parts.0) hits in
          let none : is_empty (at before_ (on_the_way t u step.0)) ≡ true = all_in_range (λ j. is_empty (at before_ (on_the_way t u j))) 1 (king_distance t u - 1) step.0 clear step.1 step.2 in
          both_ways false refl (ap is_empty (sym here) ∙ ap (λ (x : ℕ). is_empty (at before_ x)) (sym (eqb-true (on_the_way t u step.0) z step.3)) ∙ none)
    ]

module _ (o : List Bool) (g : List Move) (S : Sketch) (set : List Bool) (fits : Fits o g S) (walled : Walled o g set) (zones : List (List Bool)) (are : AreZones set S zones) where
  module _ (k after : List Move) (m : Move) (split : g ≡ (k ++ m ∷ []) ++ after) (begun : IsGame o k) (legal : Legality (board_after o k) (turn_after k) (unmoved o k) (last_move k) m) where
    abbrev board : Places
    board = board_after o k

    abbrev next : Places
    next = board_after o (k ++ m ∷ [])

    -- a pawn who didn't move while an officer did
    pawn-rests : (who : Man) (u s l : ℕ) (pawn : Man) (z : ℕ) (v : ℕ) → is_officer who.kind ≡ true → at board u ≡ Some who → u ≢ s → Origin m (castling board m) u s → same_kind Pawn pawn.kind ≡ true → Came board (labels_after o k) m v z l pawn → at board z ≡ Some pawn
    pawn-rests who u s l pawn z v officer here apart origin is (stayed same not_to not_from label there) = there
    pawn-rests who u s l pawn z v officer here apart (stays same not_to not_from) is (moved_here man from to label there became) = absurd (apart same)
    pawn-rests who u s l pawn z v officer here apart (goes from' to') is (moved_here man from to label there became) =
        absurd (officer-pawn (at board m.from) who man (ap (at board) (sym from') ∙ here) there officer (pawn-before board (turn_after k) (unmoved o k) (last_move k) m man legal (ap (λ (x : Man). same_kind Pawn x.kind) (sym became) ∙ is)))
    pawn-rests who u s l pawn z v officer here apart (with_king x castles from' to') is (moved_here man from to label there became) =
        absurd (both_ways (is_a Pawn (at board m.from)) (another_kind Pawn King (at board m.from) (castle-ends board m x castles).king) (ap (is_a Pawn) there ∙ pawn-before board (turn_after k) (unmoved o k) (last_move k) m man legal (ap (λ (x : Man). same_kind Pawn x.kind) (sym became) ∙ is)))
    pawn-rests who u s l pawn z v officer here apart origin is (with_the_king x castles from to label there) =
        absurd (both_ways (is_a Pawn (at board (rook_home x))) (another_kind Pawn Rook (at board (rook_home x)) (rook-there board (turn_after k) (unmoved o k) (last_move k) m x castles legal)) (ap (is_a Pawn) there ∙ is))

    -- an officer who moves leaves each zone a square
    leaves-zones : (who : Man) (u s : ℕ) → is_officer who.kind ≡ true → at board u ≡ Some who → at next s ≡ Some who → u ≢ s → Origin m (castling board m) u s → kind_attacks board who.colour who.kind u s ≡ true → list_any (treads_all who.kind u s) zones ≡ false
    leaves-zones who u s officer here there apart origin hits = false_from_ne_true (list_any (treads_all who.kind u s) zones) (λ treads.
        let found = any-zone (treads_all who.kind u s) zones treads in
        let x = are found.0 found.1 in
        let p = in-zone o g S set fits walled x.0 x.1 x.2 found.0 x.3 after (k ++ m ∷ []) split in
        let was = before board (labels_after o k) (turn_after k) (unmoved o k) (last_move k) m (length-after o k begun) (length-labels o k begun) legal p.square (fits.label x.0) p.man (ap (λ (y : List (Option ℕ)). label_at y p.square) (sym (labels_after-more o k m)) ∙ p.label) (ap (λ (b : Places). at b p.square) (sym (board_after-more o k m)) ∙ p.there) in
        let rests : at board p.square ≡ Some p.man = pawn-rests who u s (fits.label x.0) p.man p.square was.square officer here apart origin p.pawn was.came in
        let inside : p.square < 64 = stands-inside board p.square p.man (length-after o k begun) rests in
        let all = all_in_range (λ z. not (is_in found.0 z) || is_trodden who.kind u s z) 0 64 p.square found.2 (omega arith) (omega arith) in
        elim (or_cases (not (is_in found.0 p.square)) (is_trodden who.kind u s p.square) all) [
          | inl out ↦ both_ways (is_in found.0 p.square) (not-true (is_in found.0 p.square) out) p.member
          | inr trodden ↦ not-trodden board next who.kind who.colour u s p.square who p.man officer refl here there rests p.there p.pawn hits trodden
        ])

    -- so he goes on in his room
    room-more : (who : Man) (u s h : ℕ) → is_officer who.kind ≡ true → at board u ≡ Some who → at next s ≡ Some who → moved_from m (castling board m) (goes_en_passant board m) s ≡ Some u → room_past set zones (Some who) h u ≡ true → room_past set zones (Some who) h s ≡ true
    room-more who u s h officer here there led room = elim (cases_eq u s) [
      | inl same ↦ ap (room_past set zones (Some who) h) (sym same) ∙ room
      | inr apart ↦
          let split' : g ≡ k ++ m ∷ after = split ∙ append_assoc k (m ∷ []) after in
          let out : is_in set s ≡ false = false_from_ne_true (is_in set s) (λ member. apart (same_Some u s (sym led ∙ (walled-stays o g k after m set walled split' s member).from))) in
          let piece : IsPiece who = record { no_pawn = no_officer Pawn who.kind refl officer; no_king = no_officer King who.kind refl officer } in
          elim (went board (turn_after k) (unmoved o k) (last_move k) m who u s here piece legal.manner led) [
            | inl same ↦ absurd (apart same)
            | inr hits ↦
                let more : IsGame o (k ++ m ∷ []) = game-begins o (k ++ m ∷ []) after (subst (IsGame o) split walled.game) in
                let inside : s < 64 = stands-inside next s who (length-after o (k ++ m ∷ []) more) there in
                let between : kind_attacks (walls set) who.colour who.kind u s ≡ true = goes-between board set who.colour who.kind u s (walled-full o g k (m ∷ after) set walled split') hits in
                let roams : may_roam set (Some who) u s ≡ true = and_from _ _ between (not_from_false _ out) in
                let from : Origin m (castling board m) u s = origin board m (castling board m) (goes_en_passant board m) s u refl led in
                reached-goes (roams_past set zones (Some who)) h u s inside room (and_from _ _ roams (not_from_false _ (leaves-zones who u s officer here there apart from hits)))
          ]
    ]

    -- each officer after the move
    room-came : ((s l : ℕ) (who : Man) → label_at (labels_after o k) s ≡ Some l → at board s ≡ Some who → is_officer who.kind ≡ true → room_past set zones (Some who) (way_end l (way_of o k l)) s ≡ true) → (s l u : ℕ) (who : Man) → at next s ≡ Some who → is_officer who.kind ≡ true → moved_from m (castling board m) (goes_en_passant board m) s ≡ Some u → Came board (labels_after o k) m u s l who → room_past set zones (Some who) (way_end l (way_of o (k ++ m ∷ []) l)) s ≡ true
    room-came had s l u who now officer led (stayed same not_to not_from label there) =
        ap (λ (w : List ℕ). room_past set zones (Some who) (way_end l w) s) (way-rests o k m l (apart-rests o k m s l begun label not_from)) ∙ had s l who label there officer
    room-came had s l u who now officer led (moved_here man from to label there became) = elim (cases_Bool (same_kind Pawn man.kind)) [
      | inl pawn ↦
          let is_pawn : is_a Pawn (at board m.from) ≡ true = ap (is_a Pawn) there ∙ pawn in
          let ends : way_end l (way_of o (k ++ m ∷ []) l) ≡ s = end-goes o k m l is_pawn label (pawn-ends o k begun m.from l label is_pawn) ∙ sym to in
          let more : IsGame o (k ++ m ∷ []) = game-begins o (k ++ m ∷ []) after (subst (IsGame o) split walled.game) in
          let inside : s < 64 = stands-inside next s who (length-after o (k ++ m ∷ []) more) now in
          ap (λ (h : ℕ). room_past set zones (Some who) h s) ends ∙ reached-home (roams_past set zones (Some who)) s inside
      | inr piece ↦
          let no_pawn : is_a Pawn (at board m.from) ≡ false = ap (is_a Pawn) there ∙ piece in
          let same : who ≡ man = became ∙ piece-keeps board (turn_after k) m man legal.promotion no_pawn in
          let here : at board u ≡ Some who = ap (at board) from ∙ there ∙ ap Some (sym same) in
          let label' : label_at (labels_after o k) u ≡ Some l = ap (label_at (labels_after o k)) from ∙ label in
          ap (λ (w : List ℕ). room_past set zones (Some who) (way_end l w) s) (way-rests o k m l (piece-rests l board (labels_after o k) m no_pawn))
          ∙ room-more who u s (way_end l (way_of o k l)) officer here now led (had u l who label' here officer)
    ]
    room-came had s l u who now officer led (with_the_king x castles from to label there) =
        let king : is_a Pawn (at board m.from) ≡ false = another_kind Pawn King (at board m.from) (castle-ends board m x castles).king in
        let here : at board u ≡ Some who = ap (at board) from ∙ there in
        let label' : label_at (labels_after o k) u ≡ Some l = ap (label_at (labels_after o k)) from ∙ label in
        ap (λ (w : List ℕ). room_past set zones (Some who) (way_end l w) s) (way-rests o k m l (piece-rests l board (labels_after o k) m king))
        ∙ room-more who u s (way_end l (way_of o k l)) officer here now led (had u l who label' here officer)

  pub has-room : HasRoom o g (room_past set zones)
  has-room k after split =
      in_every_game o (λ k. (after : List Move) → g ≡ k ++ after → (s l : ℕ) (who : Man) → label_at (labels_after o k) s ≡ Some l → at (board_after o k) s ≡ Some who → is_officer who.kind ≡ true → room_past set zones (Some who) (way_end l (way_of o k l)) s ≡ true)
      (λ after e s l who label there officer.
      let same : s ≡ l = first-is o s l label in
      let inside : s < 64 = stands-inside (array_of o) s who (length-after o [] (game-begins o [] after (subst (IsGame o) e walled.game))) there in
      ap (λ (h : ℕ). room_past set zones (Some who) h s) (sym same) ∙ reached-home (roams_past set zones (Some who)) s inside)
      (λ k m game allowed had after whole s l who label there officer.
      let legal = legality _ _ _ _ _ allowed in
      let was = before (board_after o k) (labels_after o k) (turn_after k) (unmoved o k) (last_move k) m (length-after o k game) (length-labels o k game) legal s l who (ap (λ (y : List (Option ℕ)). label_at y s) (sym (labels_after-more o k m)) ∙ label) (ap (λ (b : Places). at b s) (sym (board_after-more o k m)) ∙ there) in
      room-came k after m whole game legal (had (m ∷ after) (whole ∙ append_assoc k (m ∷ []) after)) s l was.square who there officer was.led was.came)
      k (game-begins o k after (subst (IsGame o) split walled.game)) after split
