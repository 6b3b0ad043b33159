-- The man who began on the home of an officer stands in his region.
use Rattle.std.proofs.Common.{◌≡◌, ℕ, ◌<◌, inl, inr, Bool, true, false, ◌||◌, List, [], ◌∷◌, ◌++◌, length, refl, ap, sym, ◌∙◌, subst, arith}
use Rattle.std.proofs.lemmas.Bool.{and_from, or_cases, not_from_false, cases_Bool, cases_lt, both_ways}
use Rattle.std.proofs.lemmas.List.{append_assoc, get_or_past}
use Rattle.std.proofs.lemmas.Option.{none-some, same_Some}
use Rattle.std.specs.Prelude.{Option, Some, None, is_none}
use Rattle.board_base.specs.Board.{array_of, at, is_a, is_empty, is_in, is_of, same_kind}
use Rattle.board_base.specs.Attacks.{kind_attacks}
use Rattle.board_base.specs.Play.{castling, goes_en_passant}
use Rattle.board_base.specs.Game.{IsGame, board_after, turn_after, last_move, unmoved}
use Rattle.board_base.specs.declared.men.Man.{Man}
use Rattle.board_base.specs.declared.men.Colour.{Colour}
use Rattle.board_base.specs.declared.men.Kind.{Kind}
use Rattle.board_base.specs.declared.men.Kind.TheVariants.{Pawn, Knight, Bishop, Rook, Queen, King}
use Rattle.board_base.specs.declared.moves.Move.{Move}
use Rattle.board_base.proofs.KindsOfMen.{another_kind, colour_is, kind_is}
use Rattle.play_rules.proofs.Legality.{Legality, legality}
use Rattle.play_rules.proofs.Games.{in_every_game}
use Rattle.men_account.specs.Labels.{Labels, label_at, labels_after}
use Rattle.men_account.proofs.Moved.{moved_from}
use Rattle.men_account.proofs.Labelled.{labels-each_man, labels-colours, labels-promotions, length-labels, first-is, on-label}
use Rattle.cage_rules.specs.Laws.{StaysInRegion, Walled}
use Rattle.cage_rules.specs.Regions.{beginner, is_officer_home, may_roam, region, walls}
use Rattle.cage_rules.proofs.Beginners.{array-there, officer-inside}
use Rattle.cage_rules.proofs.FrozenLabels.{label-more}
use Rattle.cage_rules.proofs.Goings.{IsPiece, went}
use Rattle.cage_rules.proofs.Histories.{game-begins}
use Rattle.cage_rules.proofs.Regions.{region-goes, region-home}
use Rattle.cage_rules.proofs.WalledGames.{walled-full, walled-stays}
use Rattle.cage_rules.proofs.Walls.{goes-between}

-- a place with a man
pub full-man : (place : Option Man) → is_empty place ≡ false → (man : Man) × (place ≡ Some man)
full-man None h = absurd (both_ways true h refl)
full-man (Some man) h = (man, refl)

piece-of : (place : Option Man) → (is_a Knight place || is_a Bishop place || is_a Rook place || is_a Queen place) ≡ true → (man : Man) × (place ≡ Some man) × IsPiece man
piece-of None h = absurd (both_ways false refl h)
piece-of (Some man) h = elim (or_cases _ _ h) [
  | inr queen ↦ (man, refl, record { no_pawn = another_kind Pawn Queen (Some man) queen; no_king = another_kind King Queen (Some man) queen })
  | inl h3 ↦ elim (or_cases _ _ h3) [
    | inr rook ↦ (man, refl, record { no_pawn = another_kind Pawn Rook (Some man) rook; no_king = another_kind King Rook (Some man) rook })
    | inl h2 ↦ elim (or_cases _ _ h2) [
      | inr bishop ↦ (man, refl, record { no_pawn = another_kind Pawn Bishop (Some man) bishop; no_king = another_kind King Bishop (Some man) bishop })
      | inl knight ↦ (man, refl, record { no_pawn = another_kind Pawn Knight (Some man) knight; no_king = another_kind King Knight (Some man) knight })
    ]
  ]
]

-- an officer begins on the home
pub officer-of : (h : ℕ) → is_officer_home h ≡ true → (man : Man) × (beginner h ≡ Some man) × IsPiece man
officer-of h home = piece-of (beginner h) home

label-some : (label : Option ℕ) (h : ℕ) → label ≡ Some h → is_none label ≡ false
label-some label h e = ap is_none e

same-kind-from : (b m : Man) → same_kind Pawn b.kind ≡ false → (same_kind m.kind b.kind ≡ false → same_kind Pawn b.kind ≡ true) → m.kind ≡ b.kind
same-kind-from b m no_pawn was = elim (cases_Bool (same_kind m.kind b.kind)) [
  | inl same ↦ kind_is m.kind b.kind same
  | inr other ↦ absurd (both_ways _ no_pawn (was other))
]

same-man : (m b : Man) → m.colour ≡ b.colour → m.kind ≡ b.kind → Some m ≡ Some b
same-man m b colour kind =
    ap (λ (x : Colour). Some (record { colour = x; kind = m.kind })) colour ∙ ap (λ (x : Kind). Some (record { colour = b.colour; kind = x })) kind

-- he is what he was
pub began-so : (o : List Bool) (g : List Move) (h s : ℕ) → IsGame o g → is_officer_home h ≡ true → is_in o h ≡ false → label_at (labels_after o g) s ≡ Some h → at (board_after o g) s ≡ beginner h
unfolding beginner
began-so o g h s game home there label =
    let first = officer-of h home in
    let b : Man = first.0 in
    let start : at (array_of o) h ≡ Some b = array-there o h there ∙ first.1 in
    let full : is_empty (at (board_after o g) s) ≡ false = sym (labels-each_man o g game s) ∙ label-some (label_at (labels_after o g) s) h label in
    let now = full-man (at (board_after o g) s) full in
    let m : Man = now.0 in
    let colour : m.colour ≡ b.colour = colour_is m.colour b.colour (ap (is_of m.colour) (sym start) ∙ labels-colours o g game s h m label now.1) in
    let kind : m.kind ≡ b.kind = same-kind-from b m first.2.no_pawn (λ other. ap (is_a Pawn) (sym start) ∙ (labels-promotions o g game s h m label now.1 (ap (is_a m.kind) start ∙ other)).1) in
    now.1 ∙ same-man m b colour kind ∙ sym first.1

-- a label stands on the board
label-inside : (labels : Labels) (s h : ℕ) → length labels ≡ 64 → label_at labels s ≡ Some h → s < 64
label-inside labels s h size label = elim (cases_lt s 64) [
  | inl inside ↦ inside
  | inr past ↦ absurd (none-some h (sym (get_or_past labels s None (omega arith)) ∙ label))
]

roams : (set : List Bool) (place : Option Man) (man : Man) (u s : ℕ) → place ≡ Some man → kind_attacks (walls set) man.colour man.kind u s ≡ true → is_in set s ≡ false → may_roam set place u s ≡ true
roams set place man u s e hits out = subst (λ (p : Option Man). may_roam set p u s ≡ true) (sym e) (and_from _ _ hits (not_from_false _ out))

pub stays-in-region : (o : List Bool) (g : List Move) (set : List Bool) (h : ℕ) → Walled o g set → is_officer_home h ≡ true → is_in o h ≡ false → (before : List Move) → IsGame o before → (after : List Move) → g ≡ before ++ after → (s : ℕ) → label_at (labels_after o before) s ≡ Some h → is_in (region set h) s ≡ true
stays-in-region o g set h walled home there =
    let inside : h < 64 = officer-inside h home in
    let first = officer-of h home in
    in_every_game o (λ k. (after : List Move) → g ≡ k ++ after → (s : ℕ) → label_at (labels_after o k) s ≡ Some h → is_in (region set h) s ≡ true)
    (λ after whole s label. ap (is_in (region set h)) (first-is o s h label) ∙ region-home set (beginner h) h inside)
    (λ k m game legal here after whole s label.
    let e : g ≡ k ++ m ∷ after = whole ∙ append_assoc k (m ∷ []) after in
    let l : Legality (board_after o k) (turn_after k) (unmoved o k) (last_move k) m = legality _ _ _ _ _ legal in
    let from = on-label (labels_after o k) (moved_from m (castling (board_after o k) m) (goes_en_passant (board_after o k) m) s) h (sym (label-more o k m s game l) ∙ label) in
    let u : ℕ = from.0 in
    let before : is_in (region set h) u ≡ true = here (m ∷ after) e u from.2 in
    let man : at (board_after o k) u ≡ Some first.0 = began-so o k h u game home there from.2 ∙ first.1 in
    elim (cases_Bool (is_in set s)) [
      | inl member ↦
          let same : u ≡ s = same_Some u s (sym from.1 ∙ (walled-stays o g k after m set walled e s member).from) in
          ap (is_in (region set h)) (sym same) ∙ before
      | inr out ↦ elim (went (board_after o k) (turn_after k) (unmoved o k) (last_move k) m first.0 u s man first.2 l.manner from.1) [
        | inl same ↦ ap (is_in (region set h)) (sym same) ∙ before
        | inr hits ↦
            let more : IsGame o (k ++ m ∷ []) = game-begins o (k ++ m ∷ []) after (subst (IsGame o) whole walled.game) in
            region-goes set (beginner h) h u s (label-inside (labels_after o (k ++ m ∷ [])) s h (length-labels o (k ++ m ∷ []) more) label) before
            (roams set (beginner h) first.0 u s first.1 (goes-between (board_after o k) set first.0.colour first.0.kind u s (walled-full o g k (m ∷ after) set walled e) hits) out)
      ]
    ])

pub in-region : (o : List Bool) (g : List Move) (set : List Bool) (h : ℕ) → Walled o g set → is_officer_home h ≡ true → is_in o h ≡ false → StaysInRegion o g set h
in-region o g set h walled home there before (after, e) s label =
    let game : IsGame o before = game-begins o before after (subst (IsGame o) e walled.game) in
    (stays-in-region o g set h walled home there before game after e s label, began-so o before h s game home there label)
