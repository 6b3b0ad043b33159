-- A legal move that is no castling comes to its target by an entry that is empty afterwards.
use Rattle.std.proofs.Common.{◌≡◌, ◌≢◌, ℕ, ◌<◌, ◌==◌, ◌⊎◌, Bool, true, false, ◌&&◌, not, refl, ap, sym, ◌∙◌, subst}
use Rattle.std.proofs.lemmas.Bool.{and_parts, and_from, not-true, eqb-true, both_ways, false_from_ne_true}
use Rattle.std.proofs.lemmas.Option.{cond_some}
use Rattle.std.specs.Prelude.{Option, Some, None}
use Rattle.board_base.specs.Board.{Places, at, is_a, is_empty, is_the, opponent, same_colour, same_kind, rank}
use Rattle.board_base.specs.Attacks.{attacks_from, files_apart, kind_attacks}
use Rattle.board_base.specs.Play.{castling, double_of, promoted}
use Rattle.board_base.specs.Legal.{promotion_fits, is_officer, last_rank, man_moves, pawn_steps, pawn_doubles, pawn_captures, pawn_captures_en_passant, king_castles, is_move}
use Rattle.board_base.specs.Parts.{double_step, castles_as}
use Rattle.board_base.specs.declared.men.Man.{Man}
use Rattle.board_base.specs.declared.men.Colour.{Colour}
use Rattle.board_base.specs.declared.men.Kind.{Kind}
use Rattle.board_base.specs.declared.men.Kind.TheVariants.{Pawn}
use Rattle.board_base.specs.declared.moves.Move.{Move}
use Rattle.board_base.specs.declared.castles.Castle.{Castle}
use Rattle.board_base.proofs.KindsOfMen.{colour_is, kind_is}
use Rattle.play_rules.specs.Laws.{is_end}
use Rattle.play_rules.proofs.Legality.{Manner, moves, steps, doubles, takes, passes, castles}
use Rattle.play_rules.proofs.Doubles.{double-parts, double-promo}
use Rattle.play_rules.proofs.Skipped.{same-file, one-apart}
use Rattle.play_rules.proofs.Ends.{en_passant-ahead}
use Rattle.cage_rules.specs.Frozen.{may_enter}
use Rattle.cage_rules.proofs.Entries.{WayIn, man-enters}
use Rattle.cage_rules.proofs.PawnEntries.{Steps, pawn-enters, promotion-enters, double-enters}

-- an entry of what comes to t from s: it is s, or it is empty
pub record Entry (board : Places) (arrived : Option Man) (s t : ℕ) : Type 0 where
  pub entry : ℕ
  pub inside : entry < 64
  pub apart : entry ≢ t
  pub vacant : (entry ≡ s) ⊎ (is_empty (at board entry) ≡ true)
  pub enters : may_enter arrived t entry ≡ true

entry-of : (board : Places) (m : Man) (s t : ℕ) → WayIn board m.colour m.kind s t → Entry board (Some m) s t
entry-of board m s t way = record { entry = way.entry; inside = way.inside; apart = way.apart; vacant = way.vacant; enters = way.enters }

-- what is no pawn is not promoted
plain : (promo : Option Kind) (man : Man) (reaches : Bool) → same_kind Pawn man.kind ≡ false → elim promo as (λ _. Bool) [ None ↦ not (same_kind Pawn man.kind && reaches) | Some k ↦ same_kind Pawn man.kind && reaches && is_officer k ] ≡ true → promo ≡ None
plain None man reaches other h = refl
plain (Some k) man reaches other h = absurd (both_ways _ other (and_parts _ _ (and_parts _ _ h).0).0)

-- a pawn that goes one rank on, and is promoted on the last one
stepped : (board : Places) (c : Colour) (promo : Option Kind) (man : Man) (s t : ℕ) (reaches : Bool) → s < 64 → t < 64 → same_colour c man.colour ≡ true → same_kind Pawn man.kind ≡ true → (rank t == last_rank c) ≡ reaches → elim promo as (λ _. Bool) [ None ↦ not (same_kind Pawn man.kind && reaches) | Some k ↦ same_kind Pawn man.kind && reaches && is_officer k ] ≡ true → Steps c s t → is_end s ≡ false → Entry board (promoted promo (Some man)) s t
stepped board c None man s t reaches small inside own pawn last fits step none =
    let other : reaches ≡ false = false_from_ne_true _ (λ r. both_ways _ (not-true _ fits) (and_from _ _ pawn r)) in
    let way : WayIn board c Pawn s t = pawn-enters board c s t small inside step none (last ∙ other) in
    entry-of board man s t (subst (λ (d : Colour). WayIn board d man.kind s t) (colour_is c man.colour own) (subst (λ (k : Kind). WayIn board c k s t) (kind_is Pawn man.kind pawn) way))
stepped board c (Some k) man s t reaches small inside own pawn last fits step none =
    let parts = and_parts _ _ fits in
    let way : WayIn board c k s t = promotion-enters board c k s t small inside step parts.1 (last ∙ (and_parts _ _ parts.0).1) in
    entry-of board (record man { kind = k }) s t (subst (λ (d : Colour). WayIn board d k s t) (colour_is c man.colour own) way)

en_passant-near : (board : Places) (c : Colour) (last : Option Move) (m : Move) (o : Option Move) → double_of m c ≡ o → elim o as (λ _. Bool) [ None ↦ false | Some d ↦ is_move last d && is_the (opponent c) Pawn (at board d.to) ] ≡ true → files_apart m.from m.to < 2
en_passant-near board c last m None e h = absurd (both_ways false refl h)
en_passant-near board c last m (Some d) e h = one-apart m.from m.to (eqb-true _ 1 (and_parts _ _ (and_parts _ _ (cond_some _ (double_step m c) d e).0).0).1)

stepped-as : (board : Places) (c : Colour) (m : Move) (man : Man) → at board m.from ≡ Some man → m.from < 64 → m.to < 64 → same_colour c man.colour ≡ true → promotion_fits board c m ≡ true → (is_a Pawn (at board m.from) ≡ true → is_end m.from ≡ false) → is_a Pawn (at board m.from) ≡ true → Steps c m.from m.to → Entry board (promoted m.promo (Some man)) m.from m.to
unfolding promotion_fits
stepped-as board c m man here f t own fits ends pawn step =
    let Fits : Option Man → Type 0 = λ p. elim m.promo as (λ _. Bool) [ None ↦ not (is_a Pawn p && (rank m.to == last_rank c)) | Some k ↦ is_a Pawn p && (rank m.to == last_rank c) && is_officer k ] ≡ true in
    stepped board c m.promo man m.from m.to (rank m.to == last_rank c) f t own (ap (is_a Pawn) (sym here) ∙ pawn) refl (subst Fits here fits) step (ends pawn)

doubled : (board : Places) (c : Colour) (m : Move) (man : Man) → at board m.from ≡ Some man → m.to < 64 → same_colour c man.colour ≡ true → promotion_fits board c m ≡ true → pawn_doubles board c m ≡ true → Entry board (promoted m.promo (Some man)) m.from m.to
unfolding pawn_doubles
doubled board c m man here t own fits h =
    let double = double-parts board c m h in
    let pawn : same_kind Pawn man.kind ≡ true = ap (is_a Pawn) (sym here) ∙ double.pawn in
    let way : WayIn board c Pawn m.from m.to = double-enters board c m.from m.to t double.home double.file_is double.apart (and_parts _ _ (and_parts _ _ h).0).1 in
    subst (λ (p : Option Kind). Entry board (promoted p (Some man)) m.from m.to) (sym (double-promo board c m fits double))
    (entry-of board man m.from m.to (subst (λ (d : Colour). WayIn board d man.kind m.from m.to) (colour_is c man.colour own) (subst (λ (k : Kind). WayIn board c k m.from m.to) (kind_is Pawn man.kind pawn) way)))

-- what the man on the origin is after the move comes by an entry
pub enters : (board : Places) (c : Colour) (rights : Castle → Bool) (last : Option Move) (m : Move) (man : Man) → at board m.from ≡ Some man → m.from < 64 → m.to < 64 → same_colour c man.colour ≡ true → promotion_fits board c m ≡ true → (is_a Pawn (at board m.from) ≡ true → is_end m.from ≡ false) → castling board m ≡ None → Manner board c rights last m → Entry board (promoted m.promo (Some man)) m.from m.to
unfolding promotion_fits man_moves attacks_from pawn_steps pawn_captures pawn_captures_en_passant king_castles
enters board c rights last m man here f t own fits ends none (moves h) =
    let parts = and_parts _ _ h in
    let other : same_kind Pawn man.kind ≡ false = ap (is_a Pawn) (sym here) ∙ not-true _ parts.0 in
    let P : Option Man → Type 0 = λ o. elim o as (λ _. Bool) [ None ↦ false | Some n ↦ kind_attacks board n.colour n.kind m.from m.to ] ≡ true in
    let hits : kind_attacks board man.colour man.kind m.from m.to ≡ true = subst P here parts.1 in
    let Fits : Option Man → Type 0 = λ p. elim m.promo as (λ _. Bool) [ None ↦ not (is_a Pawn p && (rank m.to == last_rank c)) | Some k ↦ is_a Pawn p && (rank m.to == last_rank c) && is_officer k ] ≡ true in
    let same : m.promo ≡ None = plain m.promo man _ other (subst Fits here fits) in
    subst (λ (p : Option Kind). Entry board (promoted p (Some man)) m.from m.to) (sym same) (entry-of board man m.from m.to (man-enters board man.colour man.kind m.from m.to f t other hits))
enters board c rights last m man here f t own fits ends none (steps h) =
    let p2 = and_parts _ _ (and_parts _ _ h).0 in
    let p1 = and_parts _ _ p2.0 in
    stepped-as board c m man here f t own fits ends p1.0 (record { ahead = p1.1; near = same-file m.from m.to (eqb-true _ _ p2.1) })
enters board c rights last m man here f t own fits ends none (takes h) =
    let p2 = and_parts _ _ (and_parts _ _ h).0 in
    let p1 = and_parts _ _ p2.0 in
    stepped-as board c m man here f t own fits ends p1.0 (record { ahead = p1.1; near = one-apart m.from m.to (eqb-true _ 1 p2.1) })
enters board c rights last m man here f t own fits ends none (passes h) =
    let parts = and_parts _ _ h in
    stepped-as board c m man here f t own fits ends (and_parts _ _ parts.0).0 (record { ahead = en_passant-ahead board c last m (double_of m c) refl parts.1; near = en_passant-near board c last m (double_of m c) refl parts.1 })
enters board c rights last m man here f t own fits ends none (doubles h) = doubled board c m man here t own fits h
enters board c rights last m man here f t own fits ends none (castles h) =
    absurd (both_ways false refl (subst (λ (o : Option Castle). castles_as board c rights o ≡ true) none h))
