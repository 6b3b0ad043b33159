-- In a game that leads to a query, each man who began as a pawn stands where his way brings him.
use Rattle.std.proofs.Common.{◌≡◌, ℕ, ◌<◌, ◌==◌, inl, inr, Bool, true, false, ◌&&◌, not, List, [], ◌∷◌, ◌++◌, length, refl, ap, sym, ◌∙◌, subst, arith}
use Rattle.std.proofs.lemmas.Bool.{and_parts, and_from, both_ways, cases_Bool, cond-false, cond-true, eq-eqb, eqb-true, false_from_ne_true, ne_eqb, not-true, not_from_false}
use Rattle.std.proofs.lemmas.List.{append_assoc}
use Rattle.std.proofs.lemmas.Option.{same_Some}
use Rattle.std.specs.Prelude.{Option, Some, None}
use Rattle.board_base.specs.Board.{Places, array_of, at, is_a, is_empty, is_in, is_of, is_the, man, rank, same_kind}
use Rattle.board_base.specs.Attacks.{kind_attacks}
use Rattle.board_base.specs.Play.{castling, goes_en_passant, rook_home}
use Rattle.board_base.specs.Legal.{is_officer, last_rank, pawn_rank, promotion_fits}
use Rattle.board_base.specs.Game.{IsGame, board_after, turn_after, unmoved, last_move}
use Rattle.board_base.specs.declared.men.Colour.{Colour}
use Rattle.board_base.specs.declared.men.Colour.TheVariants.{White, Black}
use Rattle.board_base.specs.declared.men.Kind.{Kind}
use Rattle.board_base.specs.declared.men.Kind.TheVariants.{Pawn, Rook, King}
use Rattle.board_base.specs.declared.men.Man.{Man}
use Rattle.board_base.specs.declared.moves.Move.{Move}
use Rattle.board_base.proofs.KindsOfMen.{another_kind, colour_is, no_officer, no-promo}
use Rattle.play_rules.proofs.Legality.{Legality, legality}
use Rattle.play_rules.proofs.Games.{in_every_game, board_after-more}
use Rattle.play_rules.proofs.Kings.{castle-ends, length-after, within}
use Rattle.men_account.specs.Labels.{label_at, labels_after}
use Rattle.men_account.proofs.Moved.{moved_from}
use Rattle.men_account.proofs.Labelled.{first-is, labels_after-more, length-labels}
use Rattle.men_account.proofs.Origins.{Came, stayed, moved_here, with_the_king, before, promoted_man, rook-there}
use Rattle.men_account.proofs.Captured.{same-side}
use Rattle.men_account.proofs.FilesLeft.{array-pawn}
use Rattle.cage_rules.specs.Laws.{Walled}
use Rattle.cage_rules.specs.Regions.{may_roam, region_from, walls}
use Rattle.cage_rules.proofs.Goings.{IsPiece, went}
use Rattle.cage_rules.proofs.Histories.{game-begins}
use Rattle.cage_rules.proofs.WalledGames.{walled-full, walled-stays}
use Rattle.cage_rules.proofs.Regions.{region-goes, region-home}
use Rattle.cage_rules.proofs.Walls.{goes-between}
use Rattle.men_fates.specs.Deeds.{way_of}
use Rattle.men_fates.specs.Fates.{brings}
use Rattle.men_fates.specs.Ways.{way_end}
use Rattle.men_fates.proofs.MoreDeeds.{piece-rests}
use Rattle.men_fates.proofs.Goings.{apart-rests, end-goes, pawn-ends, way-rests}
use Rattle.men_fates.proofs.Strikes.{side-of}

pub brings-pawn : (set : List Bool) (c : Colour) (h : ℕ) (way : List ℕ) (k : Kind) (s : ℕ) → same_kind Pawn k ≡ true → way_end h way ≡ s → (rank s == last_rank c) ≡ false → brings set c h way k s ≡ true
brings-pawn set c h way k s pawn ends short = cond-true _ _ _ pawn ∙ and_from _ _ (eq-eqb _ _ ends) (not_from_false _ short)

pub brought-pawn : (set : List Bool) (c : Colour) (h : ℕ) (way : List ℕ) (k : Kind) (s : ℕ) → same_kind Pawn k ≡ true → brings set c h way k s ≡ true → (way_end h way ≡ s) × ((rank s == last_rank c) ≡ false)
brought-pawn set c h way k s pawn there =
    let parts = and_parts (way_end h way == s) (not (rank s == last_rank c)) (sym (cond-true (same_kind Pawn k) _ ((rank (way_end h way) == last_rank c) && is_officer k && is_in (region_from set (man c k) (way_end h way)) s) pawn) ∙ there) in
    (eqb-true _ _ parts.0, not-true _ parts.1)

-- a way that ends on the last rank, an officer, and a square of his region from there
pub record Promoted (set : List Bool) (c : Colour) (h : ℕ) (way : List ℕ) (k : Kind) (s : ℕ) : Type 0 where
  pub last : (rank (way_end h way) == last_rank c) ≡ true
  pub officer : is_officer k ≡ true
  pub member : is_in (region_from set (man c k) (way_end h way)) s ≡ true

pub brings-officer : (set : List Bool) (c : Colour) (h : ℕ) (way : List ℕ) (k : Kind) (s : ℕ) → same_kind Pawn k ≡ false → Promoted set c h way k s → brings set c h way k s ≡ true
brings-officer set c h way k s piece became = cond-false _ _ _ piece ∙ and_from _ _ (and_from _ _ became.last became.officer) became.member

pub brought-officer : (set : List Bool) (c : Colour) (h : ℕ) (way : List ℕ) (k : Kind) (s : ℕ) → same_kind Pawn k ≡ false → brings set c h way k s ≡ true → Promoted set c h way k s
brought-officer set c h way k s piece there =
    let parts = and_parts ((rank (way_end h way) == last_rank c) && is_officer k) (is_in (region_from set (man c k) (way_end h way)) s) (sym (cond-false (same_kind Pawn k) ((way_end h way == s) && not (rank s == last_rank c)) _ piece) ∙ there) in
    let two = and_parts (rank (way_end h way) == last_rank c) (is_officer k) parts.0 in
    record { last = two.0; officer = two.1; member = parts.1 }

-- a man of a known colour
pub as-man : (who : Man) (c : Colour) → c ≡ who.colour → Some who ≡ man c who.kind
as-man who c side = ap (λ (x : Colour). man x who.kind) (sym side)

-- an officer goes on in a region
pub region-more : (o : List Bool) (g k after : List Move) (m : Move) (set : List Bool) (c : Colour) (kind : Kind) (p u s : ℕ) → Walled o g set → g ≡ k ++ m ∷ after → Legality (board_after o k) (turn_after k) (unmoved o k) (last_move k) m → is_officer kind ≡ true → at (board_after o k) u ≡ man c kind → s < 64 → moved_from m (castling (board_after o k) m) (goes_en_passant (board_after o k) m) s ≡ Some u → is_in (region_from set (man c kind) p) u ≡ true → is_in (region_from set (man c kind) p) s ≡ true
region-more o g k after m set c kind p u s walled e legal officer there inside led before = elim (cases_Bool (is_in set s)) [
  | inl member ↦
      let same : u ≡ s = same_Some u s (sym led ∙ (walled-stays o g k after m set walled e s member).from) in
      ap (is_in (region_from set (man c kind) p)) (sym same) ∙ before
  | inr out ↦
      let piece : IsPiece (record { colour = c; kind = kind }) = record { no_pawn = no_officer Pawn kind refl officer; no_king = no_officer King kind refl officer } in
      elim (went (board_after o k) (turn_after k) (unmoved o k) (last_move k) m (record { colour = c; kind = kind }) u s there piece legal.manner led) [
        | inl same ↦ ap (is_in (region_from set (man c kind) p)) (sym same) ∙ before
        | inr hits ↦
            let between : kind_attacks (walls set) c kind u s ≡ true = goes-between (board_after o k) set c kind u s (walled-full o g k (m ∷ after) set walled e) hits in
            let roams : may_roam set (man c kind) u s ≡ true = and_from _ _ between (not_from_false _ out) in
            region-goes set (man c kind) p u s inside before roams
      ]
]

officer-more : (o : List Bool) (g k after : List Move) (m : Move) (set : List Bool) (c : Colour) (h : ℕ) (way : List ℕ) (kind : Kind) (u s : ℕ) → Walled o g set → g ≡ k ++ m ∷ after → Legality (board_after o k) (turn_after k) (unmoved o k) (last_move k) m → same_kind Pawn kind ≡ false → at (board_after o k) u ≡ man c kind → s < 64 → moved_from m (castling (board_after o k) m) (goes_en_passant (board_after o k) m) s ≡ Some u → brings set c h way kind u ≡ true → brings set c h way kind s ≡ true
officer-more o g k after m set c h way kind u s walled e legal piece there inside led here =
    let was = brought-officer set c h way kind u piece here in
    brings-officer set c h way kind s piece (record {
      last = was.last;
      officer = was.officer;
      member = region-more o g k after m set c kind (way_end h way) u s walled e legal was.officer there inside led was.member;
    })

-- a pawn arrives on the target of his move, and is promoted there if it is on the last rank
arrives : (set : List Bool) (c : Colour) (h : ℕ) (way : List ℕ) (t : ℕ) (promo : Option Kind) (who : Man) (pawn : Bool) → pawn ≡ true → same_kind Pawn who.kind ≡ true → elim promo as (λ _. Bool) [ None ↦ not (pawn && (rank t == last_rank c)) | Some k ↦ pawn && (rank t == last_rank c) && is_officer k ] ≡ true → t < 64 → way_end h way ≡ t → brings set c h way (promoted_man promo who).kind t ≡ true
arrives set c h way t None who pawn is kind fits inside ends =
    brings-pawn set c h way who.kind t kind ends (false_from_ne_true _ (λ last. both_ways _ (not-true _ fits) (and_from _ _ is last)))
arrives set c h way t (Some k) who pawn is kind fits inside ends =
    let parts = and_parts (pawn && (rank t == last_rank c)) (is_officer k) fits in
    let last : (rank t == last_rank c) ≡ true = (and_parts pawn (rank t == last_rank c) parts.0).1 in
    brings-officer set c h way k t (no_officer Pawn k refl parts.1) (record {
      last = ap (λ (x : ℕ). rank x == last_rank c) ends ∙ last;
      officer = parts.1;
      member = ap (λ (x : ℕ). is_in (region_from set (man c k) x) t) ends ∙ region-home set (man c k) t inside;
    })

pawn-arrives : (board : Places) (set : List Bool) (c : Colour) (h : ℕ) (way : List ℕ) (m : Move) (who : Man) → promotion_fits board c m ≡ true → is_a Pawn (at board m.from) ≡ true → same_kind Pawn who.kind ≡ true → m.to < 64 → way_end h way ≡ m.to → brings set c h way (promoted_man m.promo who).kind m.to ≡ true
unfolding promotion_fits
pawn-arrives board set c h way m who fits pawn kind inside ends = arrives set c h way m.to m.promo who (is_a Pawn (at board m.from)) pawn kind fits inside ends

-- who is no pawn is not promoted
pub piece-keeps : (board : Places) (c : Colour) (m : Move) (who : Man) → promotion_fits board c m ≡ true → is_a Pawn (at board m.from) ≡ false → promoted_man m.promo who ≡ who
unfolding promotion_fits
piece-keeps board c m who fits piece = ap (λ (p : Option Kind). promoted_man p who) (no-promo m.promo (is_a Pawn (at board m.from)) _ piece fits)

same-way : (set : List Bool) (c : Colour) (h : ℕ) (kind : Kind) (s : ℕ) (old new : List ℕ) → new ≡ old → brings set c h old kind s ≡ true → brings set c h new kind s ≡ true
same-way set c h kind s old new e here = ap (λ (w : List ℕ). brings set c h w kind s) e ∙ here

-- the men who began on a home, each with where his way brings him
abbrev IsBrought : List Bool → List Move → List Bool → Colour → ℕ → Type 0
IsBrought o k set c h = (s : ℕ) (who : Man) → label_at (labels_after o k) s ≡ Some h → at (board_after o k) s ≡ Some who → brings set c h (way_of o k h) who.kind s ≡ true

pub stands-inside : (board : Places) (s : ℕ) (who : Man) → length board ≡ 64 → at board s ≡ Some who → s < 64
stands-inside board s who len there =
    let inside : s < length board = within (λ p. not (is_empty p)) board s refl (ap (λ (p : Option Man). not (is_empty p)) there) in
    omega arith

pub his-colour : (o : List Bool) (k : List Move) (c : Colour) (s h : ℕ) (who : Man) → IsGame o k → is_of c (at (array_of o) h) ≡ true → label_at (labels_after o k) s ≡ Some h → at (board_after o k) s ≡ Some who → c ≡ who.colour
his-colour o k c s h who game first label there = colour_is c who.colour (sym (ap (is_of c) there) ∙ side-of o k c s h game first label)

brought-goes : (o : List Bool) (k : List Move) (m : Move) (set : List Bool) (c : Colour) (h : ℕ) (who : Man) → IsGame o k → Legality (board_after o k) (turn_after k) (unmoved o k) (last_move k) m → is_of c (at (board_after o k) m.from) ≡ true → label_at (labels_after o k) m.from ≡ Some h → at (board_after o k) m.from ≡ Some who → same_kind Pawn who.kind ≡ true → brings set c h (way_of o (k ++ m ∷ []) h) (promoted_man m.promo who).kind m.to ≡ true
brought-goes o k m set c h who game legal side label there pawn =
    let board : Places = board_after o k in
    let is_pawn : is_a Pawn (at board m.from) ≡ true = ap (is_a Pawn) there ∙ pawn in
    let fits : promotion_fits board c m ≡ true = subst (λ (x : Colour). promotion_fits board x m ≡ true) (same-side (turn_after k) c (at board m.from) legal.mover side) legal.promotion in
    pawn-arrives board set c h (way_of o (k ++ m ∷ []) h) m who fits is_pawn pawn legal.on_board
    (end-goes o k m h is_pawn label (pawn-ends o k game m.from h label is_pawn))

brought-more : (o : List Bool) (g k after : List Move) (m : Move) (set : List Bool) (c : Colour) (h u s : ℕ) (who : Man) → Walled o g set → g ≡ k ++ m ∷ after → IsGame o k → Legality (board_after o k) (turn_after k) (unmoved o k) (last_move k) m → is_of c (at (array_of o) h) ≡ true → IsBrought o k set c h → s < 64 → moved_from m (castling (board_after o k) m) (goes_en_passant (board_after o k) m) s ≡ Some u → Came (board_after o k) (labels_after o k) m u s h who → brings set c h (way_of o (k ++ m ∷ []) h) who.kind s ≡ true
brought-more o g k after m set c h u s who walled e game legal first here inside led (stayed same not_to not_from label there) =
    same-way set c h who.kind s (way_of o k h) (way_of o (k ++ m ∷ []) h) (way-rests o k m h (apart-rests o k m s h game label not_from)) (here s who label there)
brought-more o g k after m set c h u s who walled e game legal first here inside led (moved_here was from to label there is) =
    let board : Places = board_after o k in
    let side : is_of c (at board m.from) ≡ true = side-of o k c m.from h game first label in
    elim (cases_Bool (same_kind Pawn was.kind)) [
      | inl pawn ↦
          subst (λ (x : ℕ). brings set c h (way_of o (k ++ m ∷ []) h) who.kind x ≡ true) (sym to)
          (subst (λ (x : Man). brings set c h (way_of o (k ++ m ∷ []) h) x.kind m.to ≡ true) (sym is) (brought-goes o k m set c h was game legal side label there pawn))
      | inr piece ↦
          let no_pawn : is_a Pawn (at board m.from) ≡ false = ap (is_a Pawn) there ∙ piece in
          let same : who ≡ was = is ∙ piece-keeps board (turn_after k) m was legal.promotion no_pawn in
          let stood : at board m.from ≡ man c was.kind = there ∙ as-man was c (his-colour o k c m.from h was game first label there) in
          subst (λ (x : Man). brings set c h (way_of o (k ++ m ∷ []) h) x.kind s ≡ true) (sym same)
          (officer-more o g k after m set c h (way_of o (k ++ m ∷ []) h) was.kind m.from s walled e legal piece stood inside (led ∙ ap Some from)
          (same-way set c h was.kind m.from (way_of o k h) (way_of o (k ++ m ∷ []) h) (way-rests o k m h (piece-rests h board (labels_after o k) m no_pawn)) (here m.from was label there)))
    ]
brought-more o g k after m set c h u s who walled e game legal first here inside led (with_the_king x castles from to label there) =
    let board : Places = board_after o k in
    let rook : is_a Rook (at board (rook_home x)) ≡ true = rook-there board (turn_after k) (unmoved o k) (last_move k) m x castles legal in
    let piece : same_kind Pawn who.kind ≡ false = ap (is_a Pawn) (sym there) ∙ another_kind Pawn Rook (at board (rook_home x)) rook in
    let king : is_a Pawn (at board m.from) ≡ false = another_kind Pawn King (at board m.from) (castle-ends board m x castles).king in
    let stood : at board (rook_home x) ≡ man c who.kind = there ∙ as-man who c (his-colour o k c (rook_home x) h who game first label there) in
    officer-more o g k after m set c h (way_of o (k ++ m ∷ []) h) who.kind (rook_home x) s walled e legal piece stood inside (led ∙ ap Some from)
    (same-way set c h who.kind (rook_home x) (way_of o k h) (way_of o (k ++ m ∷ []) h) (way-rests o k m h (piece-rests h board (labels_after o k) m king)) (here (rook_home x) who label there))

short-home : (c : Colour) (h : ℕ) → rank h ≡ pawn_rank c → (rank h == last_rank c) ≡ false
short-home White h home = ne_eqb (rank h) 7 (λ last. omega arith)
short-home Black h home = ne_eqb (rank h) 0 (λ last. omega arith)

brought-first : (o : List Bool) (set : List Bool) (c : Colour) (h : ℕ) → is_the c Pawn (at (array_of o) h) ≡ true → IsBrought o [] set c h
brought-first o set c h first s who label there =
    let same : s ≡ h = first-is o s h label in
    let pawn : same_kind Pawn who.kind ≡ true = ap (is_a Pawn) (sym there ∙ ap (at (array_of o)) same) ∙ (and_parts (is_of c (at (array_of o) h)) (is_a Pawn (at (array_of o) h)) first).1 in
    brings-pawn set c h [] who.kind s pawn (sym same) (ap (λ (x : ℕ). rank x == last_rank c) same ∙ short-home c h (array-pawn o c h first))

brought-all : (o : List Bool) (g : List Move) (set : List Bool) (c : Colour) (h : ℕ) → Walled o g set → is_the c Pawn (at (array_of o) h) ≡ true → (k : List Move) → IsGame o k → (after : List Move) → g ≡ k ++ after → IsBrought o k set c h
brought-all o g set c h walled first =
    in_every_game o (λ k. (after : List Move) → g ≡ k ++ after → IsBrought o k set c h) (λ after e. brought-first o set c h first)
    (λ k m game allowed here after whole s who label there.
    let legal = legality _ _ _ _ _ allowed in
    let e : g ≡ k ++ m ∷ after = whole ∙ append_assoc k (m ∷ []) after in
    let more : IsGame o (k ++ m ∷ []) = game-begins o (k ++ m ∷ []) after (subst (IsGame o) whole walled.game) in
    let was = before (board_after o k) (labels_after o k) (turn_after k) (unmoved o k) (last_move k) m (length-after o k game) (length-labels o k game) legal s h who (rw labels_after-more at label) (rw board_after-more at there) in
    brought-more o g k after m set c h was.square s who walled e game legal (and_parts (is_of c (at (array_of o) h)) (is_a Pawn (at (array_of o) h)) first).0 (here (m ∷ after) e) (stands-inside (board_after o (k ++ m ∷ [])) s who (length-after o (k ++ m ∷ []) more) there) was.led was.came)

-- at each moment of the game
pub brought : (o : List Bool) (g k after : List Move) (set : List Bool) (c : Colour) (h s : ℕ) (who : Man) → Walled o g set → g ≡ k ++ after → is_the c Pawn (at (array_of o) h) ≡ true → label_at (labels_after o k) s ≡ Some h → at (board_after o k) s ≡ Some who → brings set c h (way_of o k h) who.kind s ≡ true
brought o g k after set c h s who walled e first label there = brought-all o g set c h walled first k (game-begins o k after (subst (IsGame o) e walled.game)) after e s who label there
