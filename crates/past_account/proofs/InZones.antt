-- At each moment of the game the pawn of a figure stands in his zone.
use Rattle.std.proofs.Common.{◌≡◌, ℕ, ◌+◌, ◌<◌, ◌==◌, inl, inr, Bool, true, false, ◌||◌, not, List, [], ◌∷◌, ◌++◌, refl, ap, sym, ◌∙◌, subst, arith}
use Rattle.std.proofs.lemmas.Bool.{and_parts, and_from, both_ways, cases_Bool, cond-true, eqb-true, false_from_ne_true, lt-ltb, ltb-true, not-true, not_from_false, or_cases, or_from, or_left, or_right}
use Rattle.std.proofs.lemmas.List.{append-nil, append_assoc}
use Rattle.std.specs.Prelude.{Option, Some, nat_lt}
use Rattle.std.specs.List.{list_all, list_any}
use Rattle.board_base.specs.Board.{Places, array_of, at, file, is_a, is_in, is_of, rank, same_kind}
use Rattle.board_base.specs.Play.{castling}
use Rattle.board_base.specs.Game.{IsGame, board_after, turn_after, last_move, unmoved}
use Rattle.board_base.specs.declared.men.Colour.{Colour}
use Rattle.board_base.specs.declared.men.Colour.TheVariants.{White, Black}
use Rattle.board_base.specs.declared.men.Kind.{Kind}
use Rattle.board_base.specs.declared.men.Kind.TheVariants.{Pawn, Rook}
use Rattle.board_base.specs.declared.men.Man.{Man}
use Rattle.board_base.specs.declared.moves.Move.{Move}
use Rattle.board_base.proofs.KindsOfMen.{another_kind, kind_is}
use Rattle.play_rules.specs.Laws.{is_end}
use Rattle.play_rules.proofs.Ends.{no_pawn_on_ends}
use Rattle.play_rules.proofs.Legality.{Legality, legality}
use Rattle.play_rules.proofs.Games.{board_after-more, game_before, legal_last}
use Rattle.play_rules.proofs.Kings.{length-after, within}
use Rattle.men_account.specs.Labels.{label_at, labels_after}
use Rattle.men_account.proofs.Labelled.{labels-colours, labels_after-more, length-labels}
use Rattle.men_account.proofs.Origins.{Came, before, moved_here, rook-there, stayed, with_the_king}
use Rattle.cage_rules.specs.Laws.{Walled}
use Rattle.cage_rules.proofs.Histories.{game-begins}
use Rattle.cage_rules.proofs.Gone.{left-out}
use Rattle.cage_rules.proofs.WalledGames.{walled-full, walled-stays}
use Rattle.men_fates.specs.Deeds.{squares_trodden, way_by, way_of}
use Rattle.men_fates.specs.Ways.{is_pawn_step, is_straight, is_way, way_end}
use Rattle.men_fates.proofs.Goings.{pawn-before, pawn-ends}
use Rattle.men_fates.proofs.MoreDeeds.{mover-goes}
use Rattle.men_fates.proofs.Roads.{mover-tread, target-free}
use Rattle.men_fates.proofs.Strikes.{side-of}
use Rattle.men_fates.proofs.Treads.{Tread, trodden-end, trodden-way}
use Rattle.balance_rule.proofs.Facing.{straight-both}
use Rattle.balance_rule.proofs.Listed.{step-inside}
use Rattle.past_sketches.specs.Figures.{Figure, Sketch, figure_at}
use Rattle.past_sketches.specs.Fits.{Fits}
use Rattle.past_account.specs.Zones.{IsZone, may_hold}
use Rattle.past_account.proofs.Accesses.{straight-begins}

-- the pawn with this label, in the zone
pub record InZone (o : List Bool) (k : List Move) (zone : List Bool) (l : ℕ) : Type 0 where
  pub square : ℕ
  pub man : Man
  pub label : label_at (labels_after o k) square ≡ Some l
  pub there : at (board_after o k) square ≡ Some man
  pub pawn : same_kind Pawn man.kind ≡ true
  pub member : is_in zone square ≡ true

only-kind : (kinds : List Kind) (k : Kind) → list_all (λ j. same_kind Pawn j) kinds ≡ true → list_any (λ j. same_kind j k) kinds ≡ true → same_kind Pawn k ≡ true
only-kind [] k all some = absurd (both_ways false refl some)
only-kind (j ∷ kinds) k all some =
    let parts = and_parts (same_kind Pawn j) (list_all (λ i. same_kind Pawn i) kinds) all in
    elim (or_cases (same_kind j k) (list_any (λ i. same_kind i k) kinds) some) [
      | inl here ↦ ap (same_kind Pawn) (sym (kind_is j k here)) ∙ parts.0
      | inr later ↦ only-kind kinds k parts.1 later
    ]

-- from a square that a step leads to and another leaves no pawn is shut out
inner-white : (set : List Bool) (z t u : ℕ) → (rank t == rank z + 1) ≡ true → (rank u == rank t + 1) ≡ true → u < 64 → is_end t ≡ true → ⊥
inner-white set z t u first second inside end =
    let a : rank t ≡ rank z + 1 = eqb-true _ _ first in
    let b : rank u ≡ rank t + 1 = eqb-true _ _ second in
    elim (or_cases (rank t == 0) (rank t == 7) end) [
      | inl low ↦ let e : rank t ≡ 0 = eqb-true _ _ low in omega arith
      | inr high ↦ let e : rank t ≡ 7 = eqb-true _ _ high in omega arith
    ]

inner-black : (set : List Bool) (z t u : ℕ) → (rank z == rank t + 1) ≡ true → (rank t == rank u + 1) ≡ true → z < 64 → is_end t ≡ true → ⊥
inner-black set z t u first second inside end =
    let a : rank z ≡ rank t + 1 = eqb-true _ _ first in
    let b : rank t ≡ rank u + 1 = eqb-true _ _ second in
    elim (or_cases (rank t == 0) (rank t == 7) end) [
      | inl low ↦ let e : rank t ≡ 0 = eqb-true _ _ low in omega arith
      | inr high ↦ let e : rank t ≡ 7 = eqb-true _ _ high in omega arith
    ]

inner-step : (c : Colour) (set : List Bool) (z t u : ℕ) → z < 64 → is_pawn_step c set z t ≡ true → is_pawn_step c set t u ≡ true → is_end t ≡ true → ⊥
inner-step White set z t u inside first second end =
    inner-white set z t u (and_parts _ _ (and_parts _ _ (and_parts _ _ first).0).0).0 (and_parts _ _ (and_parts _ _ (and_parts _ _ second).0).0).0 (step-inside White set t u second) end
inner-step Black set z t u inside first second end =
    inner-black set z t u (and_parts _ _ (and_parts _ _ (and_parts _ _ first).0).0).0 (and_parts _ _ (and_parts _ _ (and_parts _ _ second).0).0).0 inside end

holds-there : (set : List Bool) (z : ℕ) → z < 64 → is_end z ≡ false → is_in set z ≡ false → may_hold set z ≡ true
holds-there set z inside inner out = and_from _ _ (lt-ltb z 64 inside) (not_from_false _ (or_from _ _ inner out))

pub held-inside : (set : List Bool) (z : ℕ) → may_hold set z ≡ true → z < 64
held-inside set z holds = ltb-true z 64 (and_parts (nat_lt z 64) (not (is_end z || is_in set z)) holds).0

straight-on : (f : Figure) (z t : ℕ) (way : List ℕ) → (f.marked ≡ true → is_straight z (t ∷ way) ≡ true) → (not f.marked || (file z == file t)) ≡ true
straight-on f z t way straight = elim (cases_Bool f.marked) [
  | inl marked ↦ or_right (not f.marked) (file z == file t) (and_parts (file z == file t) (is_straight t way) (straight marked)).0
  | inr unmarked ↦ or_left (not f.marked) (file z == file t) (not_from_false f.marked unmarked)
]

-- a zone has the beginning of each way that ends in it
zone-back : (set : List Bool) (f : Figure) (zone : List Bool) → IsZone set f zone → (way : List ℕ) (z : ℕ) → may_hold set z ≡ true → is_way f.colour set z way ≡ true → (f.marked ≡ true → is_straight z way ≡ true) → is_in zone (way_end z way) ≡ true → is_in zone z ≡ true
zone-back set f zone is [] z holds goes straight member = member
zone-back set f zone is (t ∷ []) z holds goes straight member =
    let parts = and_parts (is_pawn_step f.colour set z t) true goes in
    is.closed z t member (and_from _ _ (and_from _ _ holds parts.0) (straight-on f z t [] straight))
zone-back set f zone is (t ∷ u ∷ way) z holds goes straight member =
    let parts = and_parts (is_pawn_step f.colour set z t) (is_way f.colour set t (u ∷ way)) goes in
    let second = and_parts (is_pawn_step f.colour set t u) (is_way f.colour set u way) parts.1 in
    let here : may_hold set t ≡ true = holds-there set t (step-inside f.colour set z t parts.0) (false_from_ne_true (is_end t) (inner-step f.colour set z t u (held-inside set z holds) parts.0 second.0)) (not-true (is_in set t) (and_parts _ _ parts.0).1) in
    let next : is_in zone t ≡ true = zone-back set f zone is (u ∷ way) t here parts.1 (λ marked. (and_parts (file z == file t) (is_straight t (u ∷ way)) (straight marked)).1) member in
    is.closed z t next (and_from _ _ (and_from _ _ holds parts.0) (straight-on f z t (u ∷ way) straight))

module _ (o : List Bool) (g : List Move) (S : Sketch) (set : List Bool) (fits : Fits o g S) (walled : Walled o g set) (i : ℕ) (f : Figure) (there : figure_at S i ≡ Some f) (zone : List Bool) (is : IsZone set f zone) where
  abbrev l : ℕ
  l = fits.label i

  first : is_of f.colour (at (array_of o) l) ≡ true
  first =
      let stands = fits.stand i f there in
      ap (λ (c : Colour). is_of c (at (array_of o) l)) (sym stands.2.colour) ∙ labels-colours o g walled.game stands.0 l stands.1 stands.2.label stands.2.there

  zone-end : InZone o g zone l
  zone-end =
      let stands = fits.stand i f there in
      record { square = stands.0; man = stands.1; label = stands.2.label; there = stands.2.there; pawn = only-kind f.kinds stands.1.kind is.pawn stands.2.kind; member = is.squares stands.0 stands.2.square }

  -- where he is marked, his way is straight
  straight-end : f.marked ≡ true → is_straight l (way_of o g l) ≡ true
  straight-end marked =
      let stands = fits.stand i f there in
      let pawn : same_kind Pawn stands.1.kind ≡ true = only-kind f.kinds stands.1.kind is.pawn stands.2.kind in
      sym (cond-true (same_kind Pawn stands.1.kind) (is_straight l (way_of o g l)) (not (is_a Pawn (at (array_of o) l))) pawn) ∙ stands.2.mark marked

  zone-came : (k after : List Move) (m : Move) → g ≡ k ++ m ∷ after → IsGame o k → Legality (board_after o k) (turn_after k) (unmoved o k) (last_move k) m → (u s : ℕ) (n : Man) → same_kind Pawn n.kind ≡ true → is_in zone s ≡ true → Came (board_after o k) (labels_after o k) m u s l n → InZone o k zone l
  zone-came k after m split game legal u s n pawn member (stayed same not_to not_from label stands) = record { square = s; man = n; label = label; there = stands; pawn = pawn; member = member }
  zone-came k after m split game legal u s n pawn member (moved_here man from to label stands became) =
      let board : Places = board_after o k in
      let was : same_kind Pawn man.kind ≡ true = pawn-before board (turn_after k) (unmoved o k) (last_move k) m man legal (ap (λ (x : Man). same_kind Pawn x.kind) (sym became) ∙ pawn) in
      let is_pawn : is_a Pawn (at board m.from) ≡ true = ap (is_a Pawn) stands ∙ was in
      let goes : Tread board f.colour m = mover-tread o k m f.colour legal (side-of o k f.colour m.from l game first label) is_pawn in
      let way : is_way f.colour set m.from (squares_trodden m) ≡ true = trodden-way board f.colour m set (walled-full o g k (m ∷ after) set walled split) (target-free o g k after m set walled split) legal.on_board goes in
      let small : m.from < 64 = rw (← length-after o k game) (within (is_of (turn_after k)) board m.from refl legal.mover) in
      let inner : is_end m.from ≡ false = false_from_ne_true (is_end m.from) (λ end. both_ways (is_a Pawn (at board m.from)) (no_pawn_on_ends o k game m.from end) is_pawn) in
      let free : is_in set m.from ≡ false = false_from_ne_true (is_in set m.from) (λ covered. left-out m (castling board m) board refl is_pawn (walled-stays o g k after m set walled split m.from covered)) in
      let straight : f.marked ≡ true → is_straight m.from (squares_trodden m) ≡ true = λ marked.
      (let whole : is_straight l (way_of o (k ++ m ∷ []) l) ≡ true = straight-begins o l after (k ++ m ∷ []) (ap (λ (h : List Move). is_straight l (way_of o h l)) (append_assoc k (m ∷ []) after ∙ sym split) ∙ straight-end marked) in
      ap (is_straight m.from) (sym (mover-goes l board (labels_after o k) m is_pawn label)) ∙ ap (λ (e : ℕ). is_straight e (way_by l board (labels_after o k) m)) (sym (pawn-ends o k game m.from l label is_pawn)) ∙ (straight-both o l k m whole).1) in
      let ends : is_in zone (way_end m.from (squares_trodden m)) ≡ true = ap (is_in zone) (trodden-end m ∙ sym to) ∙ member in
      record { square = m.from; man = man; label = label; there = stands; pawn = was; member = zone-back set f zone is (squares_trodden m) m.from (holds-there set m.from small inner free) way straight ends }
  zone-came k after m split game legal u s n pawn member (with_the_king x castles from to label stands) =
      absurd (both_ways _ (another_kind Pawn Rook _ (rook-there (board_after o k) (turn_after k) (unmoved o k) (last_move k) m x castles legal)) (ap (is_a Pawn) stands ∙ pawn))

  -- at each beginning of the game
  pub in-zone : (after k : List Move) → g ≡ k ++ after → InZone o k zone l
  in-zone [] k split = subst (λ (h : List Move). InZone o h zone l) (split ∙ append-nil k) zone-end
  in-zone (m ∷ after) k split =
      let split' : g ≡ (k ++ m ∷ []) ++ after = split ∙ sym (append_assoc k (m ∷ []) after) in
      let next = in-zone after (k ++ m ∷ []) split' in
      let game : IsGame o (k ++ m ∷ []) = game-begins o (k ++ m ∷ []) after (subst (IsGame o) split' walled.game) in
      let begun : IsGame o k = game_before o k m game in
      let legal : Legality (board_after o k) (turn_after k) (unmoved o k) (last_move k) m = legality _ _ _ _ _ (legal_last o k m game) in
      let was = before (board_after o k) (labels_after o k) (turn_after k) (unmoved o k) (last_move k) m (length-after o k begun) (length-labels o k begun) legal next.square l next.man (ap (λ (x : List (Option ℕ)). label_at x next.square) (sym (labels_after-more o k m)) ∙ next.label) (ap (λ (b : Places). at b next.square) (sym (board_after-more o k m)) ∙ next.there) in
      zone-came k after m split begun legal was.square next.square next.man next.pawn next.member was.came
