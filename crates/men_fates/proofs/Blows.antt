-- The captures by pawns, one by one: the move that makes one, and that the man whom it takes goes no further.
use Rattle.std.proofs.Common.{◌≡◌, ℕ, ◌<◌, ◌⊎◌, inl, inr, Bool, true, false, List, [], ◌∷◌, ◌++◌, refl, ap, sym, ◌∙◌, subst, arith}
use Rattle.std.proofs.lemmas.Bool.{and_parts, and_from, or_from, both_ways, cases_Bool, eq-eqb, false_from_ne_true, not_from_false}
use Rattle.std.proofs.lemmas.List.{append_assoc, append-nil}
use Rattle.std.proofs.lemmas.List.Elements.{Contains-append_cases}
use Rattle.std.specs.Prelude.{Option, Some, None, is_none}
use Rattle.std.specs.List.{Contains}
use Rattle.board_base.specs.Board.{Places, array_of, at, is_a, is_empty, is_in, is_of, is_the, man, opponent}
use Rattle.board_base.specs.Attacks.{files_apart, one_ahead}
use Rattle.board_base.specs.Play.{castling}
use Rattle.board_base.specs.Game.{IsGame, board_after, turn_after, unmoved, last_move}
use Rattle.board_base.specs.declared.men.Colour.{Colour}
use Rattle.board_base.specs.declared.men.Kind.TheVariants.{Pawn}
use Rattle.board_base.specs.declared.moves.Move.{Move}
use Rattle.play_rules.specs.Laws.{is_end}
use Rattle.play_rules.proofs.Legality.{Legality, legality}
use Rattle.play_rules.proofs.Games.{in_every_game}
use Rattle.play_rules.proofs.Ends.{no_pawn_on_ends}
use Rattle.play_rules.proofs.Kings.{length-after}
use Rattle.general_lemmas.proofs.Differing.{contains-has}
use Rattle.general_lemmas.proofs.Lists.{contains-cases, contains-map, contains-none}
use Rattle.general_lemmas.proofs.Ranges.{any-found}
use Rattle.men_account.specs.Labels.{Labels, label_at, labels_after}
use Rattle.men_account.specs.Captures.{captured_by_pawns, taken_on}
use Rattle.men_account.proofs.Captured.{captured-enemies, captured-gone, man-there, opponent-differs}
use Rattle.men_account.proofs.FilesLeft.{pawn-home}
use Rattle.men_account.proofs.Labelled.{labels-each_man}
use Rattle.cage_rules.specs.Laws.{Walled}
use Rattle.cage_rules.specs.Regions.{is_exposed, may_strike}
use Rattle.cage_rules.proofs.Gone.{from-inside, left-out}
use Rattle.cage_rules.proofs.WalledGames.{walled-stays}
use Rattle.men_fates.specs.Deeds.{Strike, strike, strike_by, strikes, way_of}
use Rattle.men_fates.specs.Fates.{may_fall}
use Rattle.men_fates.proofs.MoreDeeds.{other-rests, strike-none, strike-plain, strikes-more}
use Rattle.men_fates.proofs.Goings.{way-rests}
use Rattle.men_fates.proofs.Roads.{mover-tread, target-free}
use Rattle.men_fates.proofs.Strikes.{side-of, strikes-take}
use Rattle.men_fates.proofs.Treads.{Tread, single, double, capture, straight-free}

-- the move makes this capture by a pawn of this side
pub record Blow (board : Places) (labels : Labels) (c : Colour) (m : Move) (x : Strike) : Type 0 where
  pub pawn : is_the c Pawn (at board m.from) ≡ true
  pub by : label_at labels m.from ≡ Some x.by
  pub of : label_at labels (taken_on board m) ≡ Some x.of
  pub on : m.to ≡ x.on

strike-is : (by of : Option ℕ) (s : ℕ) (x : Strike) → Contains (strike by of s) x → (by ≡ Some x.by) × (of ≡ Some x.of) × (s ≡ x.on)
strike-is None of s x h = absurd (contains-none x h)
strike-is (Some k) None s x h = absurd (contains-none x h)
strike-is (Some k) (Some l) s x h = elim (contains-cases (record { by = k; of = l; on = s }) [] x h) [
  | inl same ↦ (ap (λ (y : Strike). Some y.by) same, ap (λ (y : Strike). Some y.of) same, ap (λ (y : Strike). y.on) same)
  | inr none ↦ absurd (contains-none x none)
]

pub blow : (board : Places) (labels : Labels) (c : Colour) (m : Move) (x : Strike) → Contains (strike_by c board labels m) x → Blow board labels c m x
blow board labels c m x h = elim (cases_Bool (is_the c Pawn (at board m.from))) [
  | inl pawn ↦
      let told = strike-is (label_at labels m.from) (label_at labels (taken_on board m)) m.to x (subst (λ (l : List Strike). Contains l x) (strike-plain c board labels m pawn) h) in
      record { pawn = pawn; by = told.0; of = told.1; on = told.2 }
  | inr other ↦ absurd (contains-none x (subst (λ (l : List Strike). Contains l x) (strike-none c board labels m other) h))
]

-- each capture was made before the last move, or by it
pub old-or-new : (o : List Bool) (g : List Move) (m : Move) (c : Colour) (x : Strike) → Contains (strikes o (g ++ m ∷ []) c) x → Contains (strikes o g c) x ⊎ Blow (board_after o g) (labels_after o g) c m x
old-or-new o g m c x h = elim (Contains-append_cases (strikes o g c) (strike_by c (board_after o g) (labels_after o g) m) x (subst (λ (l : List Strike). Contains l x) (strikes-more o g m c) h)) [
  | inl old ↦ inl old
  | inr new ↦ inr (blow (board_after o g) (labels_after o g) c m x new)
]

-- nobody on the board has the label of a man whom a pawn took
pub fallen-gone : (o : List Bool) (g : List Move) (c : Colour) (x : Strike) → IsGame o g → Contains (strikes o g c) x → (s : ℕ) → label_at (labels_after o g) s ≡ Some x.of → ⊥
fallen-gone o g c x game h s label =
    let taken : Contains (captured_by_pawns o g c) x.of = subst (λ (l : List ℕ). Contains l x.of) (strikes-take o g c game) (contains-map (λ y. y.of) (strikes o g c) x h) in
    captured-gone o g c game x.of s (contains-has (captured_by_pawns o g c) x.of taken) label

-- who is taken goes no further, neither by the move that takes him nor later
pub fallen-rests : (o : List Bool) (g : List Move) (m : Move) (c : Colour) (x : Strike) → IsGame o g → Contains (strikes o g c) x → way_of o (g ++ m ∷ []) x.of ≡ way_of o g x.of
fallen-rests o g m c x game h = way-rests o g m x.of (other-rests x.of (board_after o g) (labels_after o g) m (λ label. fallen-gone o g c x game h m.from label))

pub falling-rests : (o : List Bool) (g : List Move) (m : Move) (c : Colour) (x : Strike) → IsGame o g → is_of c (at (array_of o) x.of) ≡ true → Blow (board_after o g) (labels_after o g) (opponent c) m x → way_of o (g ++ m ∷ []) x.of ≡ way_of o g x.of
falling-rests o g m c x game his b =
    way-rests o g m x.of (other-rests x.of (board_after o g) (labels_after o g) m (λ label.
    opponent-differs c (at (board_after o g) m.from) (side-of o g c m.from x.of game his label) (and_parts (is_of (opponent c) (at (board_after o g) m.from)) (is_a Pawn (at (board_after o g) m.from)) b.pawn).0))

-- a pawn who takes a man goes aslant
full-place : (labels : Labels) (board : Places) (s l : ℕ) → is_none (label_at labels s) ≡ is_empty (at board s) → label_at labels s ≡ Some l → is_empty (at board s) ≡ true → ⊥
full-place labels board s l each label free = both_ways _ (ap is_none label) (each ∙ free)

takes-aslant : (board : Places) (labels : Labels) (c : Colour) (m : Move) (l : ℕ) → is_none (label_at labels (taken_on board m)) ≡ is_empty (at board (taken_on board m)) → label_at labels (taken_on board m) ≡ Some l → Tread board c m → (one_ahead c m.from m.to ≡ true) × (files_apart m.from m.to ≡ 1)
takes-aslant board labels c m l each label (single one ahead same free) = absurd (full-place labels board (taken_on board m) l each label (straight-free board m same free))
takes-aslant board labels c m l each label (double two home same crossed free) = absurd (full-place labels board (taken_on board m) l each label (straight-free board m same free))
takes-aslant board labels c m l each label (capture one ahead aside enemy) = (ahead, aside)

-- where a pawn takes a man, he may fall
pub falls : (o : List Bool) (g k after : List Move) (m : Move) (set : List Bool) (c : Colour) (x : Strike) → Walled o g set → g ≡ k ++ m ∷ after → IsGame o k → Legality (board_after o k) (turn_after k) (unmoved o k) (last_move k) m → Blow (board_after o k) (labels_after o k) (opponent c) m x → may_fall set c x.on ≡ true
unfolding is_exposed
falls o g k after m set c x walled e game legal b =
    let board : Places = board_after o k in
    let his = and_parts (is_of (opponent c) (at board m.from)) (is_a Pawn (at board m.from)) b.pawn in
    let way : Tread board (opponent c) m = mover-tread o k m (opponent c) legal his.0 his.1 in
    let goes = takes-aslant board (labels_after o k) (opponent c) m x.of (labels-each_man o k game (taken_on board m)) b.of way in
    let inside : m.from < 64 = from-inside board m.from (length-after o k game) his.1 in
    let inner : is_end m.from ≡ false = false_from_ne_true _ (λ end. both_ways _ (no_pawn_on_ends o k game m.from end) his.1) in
    let free : is_in set m.from ≡ false = false_from_ne_true _ (λ covered. left-out m (castling board m) board refl his.1 (walled-stays o g k after m set walled e m.from covered)) in
    let strikes : may_strike set (man c Pawn) m.to m.from ≡ true = and_from _ _ (and_from _ _ goes.0 (eq-eqb _ 1 goes.1)) (not_from_false _ (or_from _ _ inner free)) in
    let exposed : is_exposed set (man c Pawn) m.to ≡ true = any-found (may_strike set (man c Pawn) m.to) 0 64 m.from (omega arith) (omega arith) strikes in
    ap (may_fall set c) (sym b.on) ∙ and_from _ _ (not_from_false _ (target-free o g k after m set walled e)) exposed

-- what is kept of the captures that were made, and holds of each that is made, holds of each capture of the game
pub in-each-blow : (o : List Bool) (g : List Move) (c : Colour) (P : List Move → Strike → Type 0) → ((k after : List Move) (m : Move) (x : Strike) → g ≡ k ++ m ∷ after → IsGame o k → Contains (strikes o k c) x → P k x → P (k ++ m ∷ []) x) → ((k after : List Move) (m : Move) (x : Strike) → g ≡ k ++ m ∷ after → IsGame o k → Legality (board_after o k) (turn_after k) (unmoved o k) (last_move k) m → Blow (board_after o k) (labels_after o k) c m x → P (k ++ m ∷ []) x) → IsGame o g → (x : Strike) → Contains (strikes o g c) x → P g x
in-each-blow o g c P kept made whole x h =
    in_every_game o (λ k. (after : List Move) → g ≡ k ++ after → (x : Strike) → Contains (strikes o k c) x → P k x)
    (λ after e x h. absurd (contains-none x h))
    (λ k m game allowed here after e x h.
    let e' : g ≡ k ++ m ∷ after = e ∙ append_assoc k (m ∷ []) after in
    elim (old-or-new o k m c x h) [
      | inl old ↦ kept k after m x e' game old (here (m ∷ after) e' x old)
      | inr new ↦ made k after m x e' game (legality _ _ _ _ _ allowed) new
    ])
    g whole [] (sym (append-nil g)) x h

-- each is made by a man who began as a pawn of the side, and takes one of the other side
pub each-by-pawn : (o : List Bool) (g : List Move) (c : Colour) → IsGame o g → (x : Strike) → Contains (strikes o g c) x → is_the c Pawn (at (array_of o) x.by) ≡ true
each-by-pawn o g c =
    in-each-blow o g c (λ k x. is_the c Pawn (at (array_of o) x.by) ≡ true) (λ k after m x e game old here. here)
    (λ k after m x e game legal b.
    let who = man-there (board_after o k) (labels_after o k) m.from x.by (labels-each_man o k game) b.by in
    pawn-home o c k game m.from x.by who.0 b.by who.1 (sym (ap (is_the c Pawn) who.1) ∙ b.pawn))

pub each-of-enemy : (o : List Bool) (g : List Move) (c : Colour) → IsGame o g → (x : Strike) → Contains (strikes o g c) x → is_of (opponent c) (at (array_of o) x.of) ≡ true
each-of-enemy o g c game x h =
    captured-enemies o g c game x.of (contains-has (captured_by_pawns o g c) x.of (subst (λ (l : List ℕ). Contains l x.of) (strikes-take o g c game) (contains-map (λ y. y.of) (strikes o g c) x h)))
