-- Moves that need not be tried.
use Rattle.std.proofs.Common.{◌≡◌, ℕ, zero, suc, ◌+◌, ◌<◌, ◌==◌, max, Bool, true, false, cond, ◌&&◌, not, List, [], ◌∷◌, ◌++◌, refl, ap, sym, ◌∙◌, subst, arith}
use Rattle.std.proofs.lemmas.Bool.{and_parts, and_from, or_left, or_right, not-true, eqb-true, lt-ltb, both_ways, false_from_ne_true, cond-false}
use Rattle.std.proofs.lemmas.Option.{cond_some}
use Rattle.std.proofs.lemmas.List.Elements.{filter-append}
use Rattle.std.specs.Prelude.{Option, Some, None}
use Rattle.std.specs.List.{filter, flat_map, range_with_len}
use Rattle.board_base.specs.Board.{Places, at, is_in, is_of, is_a, is_the, same_kind, same_colour, opponent, file, rank}
use Rattle.board_base.specs.Attacks.{distance, ranks_apart, files_apart, one_ahead, king_distance, kind_attacks, attacks_from}
use Rattle.board_base.specs.Play.{castling, double_of, king_home, king_target}
use Rattle.board_base.specs.Legal.{promotion_fits, is_officer, last_rank, man_moves, pawn_steps, pawn_doubles, pawn_captures, pawn_captures_en_passant, king_castles, is_move}
use Rattle.board_base.specs.Parts.{double_step, castles_as}
use Rattle.board_base.specs.declared.men.Man.{Man}
use Rattle.board_base.specs.declared.men.Colour.{Colour}
use Rattle.board_base.specs.declared.men.Kind.{Kind}
use Rattle.board_base.specs.declared.men.Kind.TheVariants.{Pawn, Knight, Bishop, Rook, Queen, King}
use Rattle.board_base.specs.declared.moves.Move.{Move}
use Rattle.board_base.specs.declared.castles.Castle.{Castle}
use Rattle.board_base.specs.declared.castles.Castle.TheVariants.{WhiteShort, WhiteLong, BlackShort, BlackLong}
use Rattle.board_base.proofs.KindsOfMen.{colour_is, kind_is}
use Rattle.play_rules.specs.States.{Position, legal_at}
use Rattle.play_rules.specs.Listed.{moves_between, moves_from, move_of}
use Rattle.play_rules.specs.Ways.{may_reach, may_step}
use Rattle.play_rules.proofs.Legality.{Manner, moves, steps, doubles, takes, passes, castles, legality}
use Rattle.play_rules.proofs.Kings.{castle-ends}

-- where no move between two squares passes, none is kept
pub none-between : (p : Move → Bool) (s t : ℕ) → ((promo : Option Kind) → p (move_of s t promo) ≡ false) → filter p (moves_between s t) ≡ []
unfolding moves_between
none-between p s t none = rw (none None, none (Some Knight), none (Some Bishop), none (Some Rook), none (Some Queen))

none-flat : {A : Type 0} (p : A → Bool) (f : ℕ → List A) → ((t : ℕ) → filter p (f t) ≡ []) → (k n : ℕ) → filter p (flat_map f (range_with_len k n)) ≡ []
none-flat {A} p f none k zero = refl
none-flat {A} p f none k (suc n) =
    filter-append p (f k) (flat_map f (range_with_len (k + 1) n)) ∙ ap (λ (l : List A). l ++ filter p (flat_map f (range_with_len (k + 1) n))) (none k) ∙ none-flat p f none (k + 1) n

pub none-from : (p : Move → Bool) (s : ℕ) → ((t : ℕ) (promo : Option Kind) → p (move_of s t promo) ≡ false) → filter p (moves_from s) ≡ []
unfolding moves_from
none-from p s none = none-flat p (moves_between s) (λ t. none-between p s t (none t)) 0 64

-- without a man of the mover's on its origin no move is legal
pub foreign : (p : Position) (s : ℕ) → is_of p.turn (at p.board s) ≡ false → (t : ℕ) (promo : Option Kind) → legal_at p (move_of s t promo) ≡ false
foreign p s other t promo = false_from_ne_true _ (λ legal. both_ways _ other (legality _ _ _ _ _ legal).mover)

-- a promotion that doesn't fit makes no legal move
unfit : (p : Position) (m : Move) → promotion_fits p.board p.turn m ≡ false → legal_at p m ≡ false
unfit p m h = false_from_ne_true _ (λ legal. both_ways _ h (legality _ _ _ _ _ legal).promotion)

-- a pawn comes to its last rank
abbrev pub is_promotion : Position → ℕ → ℕ → Bool
is_promotion p s t = is_a Pawn (at p.board s) && (rank t == last_rank p.turn)

first-dropped : (p : Move → Bool) (x : Move) (xs : List Move) → p x ≡ false → filter p (x ∷ xs) ≡ filter p xs
first-dropped p x xs h = cond-false (p x) (x ∷ filter p xs) (filter p xs) h

pub only-officers : (p : Position) (s t : ℕ) → is_promotion p s t ≡ true → filter (legal_at p) (moves_between s t) ≡ filter (legal_at p) (move_of s t (Some Knight) ∷ move_of s t (Some Bishop) ∷ move_of s t (Some Rook) ∷ move_of s t (Some Queen) ∷ [])
unfolding moves_between promotion_fits
only-officers p s t h = first-dropped (legal_at p) (move_of s t None) (move_of s t (Some Knight) ∷ move_of s t (Some Bishop) ∷ move_of s t (Some Rook) ∷ move_of s t (Some Queen) ∷ []) (unfit p (move_of s t None) (ap not h))

pub only-plain : (p : Position) (s t : ℕ) → is_promotion p s t ≡ false → filter (legal_at p) (moves_between s t) ≡ cond (legal_at p (move_of s t None)) (move_of s t None ∷ []) []
unfolding moves_between promotion_fits
only-plain p s t h =
    let no : (k : Kind) → legal_at p (move_of s t (Some k)) ≡ false = λ k. unfit p (move_of s t (Some k)) (ap (λ (b : Bool). b && is_officer k) h) in
    rw (no Knight, no Bishop, no Rook, no Queen)

reach-near : (board : Places) (c : Colour) (k : Kind) (s t : ℕ) → same_kind Pawn k ≡ false → kind_attacks board c k s t ≡ true → may_reach board c k s t ≡ true
unfolding may_reach may_step kind_attacks king_distance
reach-near board c Pawn s t other h = cc
reach-near board c Knight s t other h = h
reach-near board c Bishop s t other h = h
reach-near board c Rook s t other h = h
reach-near board c Queen s t other h = h
reach-near board c King s t other h =
    let one : max (files_apart s t) (ranks_apart s t) ≡ 1 = eqb-true _ 1 h in
    let f : files_apart s t < 3 = omega arith in
    let r : ranks_apart s t < 2 = omega arith in
    and_from _ _ (lt-ltb _ _ f) (lt-ltb _ _ r)

pawn-near : (board : Places) (c : Colour) (man : Man) (s t : ℕ) → same_colour c man.colour ≡ true → same_kind Pawn man.kind ≡ true → may_step c Pawn s t ≡ true → may_reach board man.colour man.kind s t ≡ true
unfolding may_reach
pawn-near board c man s t own pawn h =
    subst (λ (d : Colour). may_reach board d man.kind s t ≡ true) (colour_is c man.colour own) (subst (λ (k : Kind). may_reach board c k s t ≡ true) (kind_is Pawn man.kind pawn) h)

ahead-near : (c : Colour) (s t : ℕ) → one_ahead c s t ≡ true → files_apart s t < 2 → may_step c Pawn s t ≡ true
unfolding may_step
ahead-near c s t up close = or_left _ _ (and_from _ _ up (lt-ltb _ _ close))

pub same-file : (s t : ℕ) → file s ≡ file t → files_apart s t < 2
unfolding distance
same-file s t e = omega arith

pub one-apart : (s t : ℕ) → files_apart s t ≡ 1 → files_apart s t < 2
one-apart s t e = omega arith

en_passant-near : (board : Places) (c : Colour) (last : Option Move) (m : Move) (o : Option Move) → double_of m c ≡ o → elim o as (λ _. Bool) [ None ↦ false | Some d ↦ is_move last d && is_the (opponent c) Pawn (at board d.to) ] ≡ true → may_step c Pawn m.from m.to ≡ true
en_passant-near board c last m None e h = absurd (both_ways false refl h)
en_passant-near board c last m (Some d) e h =
    let p = and_parts _ _ (and_parts _ _ (cond_some _ (double_step m c) d e).0).0 in
    ahead-near c m.from m.to (and_parts _ _ p.0).1 (one-apart m.from m.to (eqb-true _ 1 p.1))

castle-near : (x : Castle) (board : Places) (c : Colour) → may_reach board c King (king_home x) (king_target x) ≡ true
unfolding may_reach may_step distance
castle-near WhiteShort board c = refl
castle-near WhiteLong board c = refl
castle-near BlackShort board c = refl
castle-near BlackLong board c = refl

castles-near : (board : Places) (c : Colour) (rights : Castle → Bool) (m : Move) (man : Man) (o : Option Castle) → castling board m ≡ o → at board m.from ≡ Some man → castles_as board c rights o ≡ true → may_reach board man.colour man.kind m.from m.to ≡ true
castles-near board c rights m man None e here h = absurd (both_ways false refl h)
castles-near board c rights m man (Some x) e here h =
    let ends = castle-ends board m x e in
    let king : same_kind King man.kind ≡ true = ap (is_a King) (sym here) ∙ ends.king in
    subst (λ (k : Kind). may_reach board man.colour k m.from m.to ≡ true) (kind_is King man.kind king)
    (subst (λ (t : ℕ). may_reach board man.colour King m.from t ≡ true) ends.to (subst (λ (s : ℕ). may_reach board man.colour King s (king_target x) ≡ true) ends.from (castle-near x board man.colour)))

near : (board : Places) (c : Colour) (rights : Castle → Bool) (last : Option Move) (m : Move) (man : Man) → at board m.from ≡ Some man → same_colour c man.colour ≡ true → Manner board c rights last m → may_reach board man.colour man.kind m.from m.to ≡ true
unfolding man_moves attacks_from pawn_steps pawn_doubles pawn_captures pawn_captures_en_passant king_castles may_step
near board c rights last m man here own (moves h) =
    let parts = and_parts _ _ h in
    let other : same_kind Pawn man.kind ≡ false = ap (is_a Pawn) (sym here) ∙ not-true _ parts.0 in
    let P : Option Man → Type 0 = λ o. elim o as (λ _. Bool) [ None ↦ false | Some n ↦ kind_attacks board n.colour n.kind m.from m.to ] ≡ true in
    let hits : kind_attacks board man.colour man.kind m.from m.to ≡ true = subst P here parts.1 in
    reach-near board man.colour man.kind m.from m.to other hits
near board c rights last m man here own (steps h) =
    let p2 = and_parts _ _ (and_parts _ _ h).0 in
    let p1 = and_parts _ _ p2.0 in
    pawn-near board c man m.from m.to own (ap (is_a Pawn) (sym here) ∙ p1.0) (ahead-near c m.from m.to p1.1 (same-file m.from m.to (eqb-true _ _ p2.1)))
near board c rights last m man here own (doubles h) =
    let p4 = and_parts _ _ (and_parts _ _ (and_parts _ _ h).0).0 in
    let p3 = and_parts _ _ p4.0 in
    pawn-near board c man m.from m.to own (ap (is_a Pawn) (sym here) ∙ (and_parts _ _ p3.0).0) (or_right _ _ (and_from _ _ p3.1 p4.1))
near board c rights last m man here own (takes h) =
    let p2 = and_parts _ _ (and_parts _ _ h).0 in
    let p1 = and_parts _ _ p2.0 in
    pawn-near board c man m.from m.to own (ap (is_a Pawn) (sym here) ∙ p1.0) (ahead-near c m.from m.to p1.1 (one-apart m.from m.to (eqb-true _ 1 p2.1)))
near board c rights last m man here own (passes h) =
    let parts = and_parts _ _ h in
    pawn-near board c man m.from m.to own (ap (is_a Pawn) (sym here) ∙ (and_parts _ _ parts.0).0) (en_passant-near board c last m (double_of m c) refl parts.1)
near board c rights last m man here own (castles h) = castles-near board c rights m man (castling board m) refl here h

-- what a man can't reach is no legal move
pub too-far : (p : Position) (man : Man) (s t : ℕ) → at p.board s ≡ Some man → may_reach p.board man.colour man.kind s t ≡ false → (promo : Option Kind) → legal_at p (move_of s t promo) ≡ false
too-far p man s t here far promo = false_from_ne_true _ (λ legal.
    let l = legality _ _ _ _ _ legal in
    both_ways _ far (near p.board p.turn _ _ (move_of s t promo) man here (ap (is_of p.turn) (sym here) ∙ l.mover) l.manner))

-- nothing is kept of the moves to a square that is not among those that the man may reach
pub unreached : (p : Position) (board : Places) (man : Man) (s : ℕ) (targets : List Bool) → board ≡ p.board → at p.board s ≡ Some man → ((t : ℕ) → t < 64 → may_reach board man.colour man.kind s t ≡ true → is_in targets t ≡ true) → (t : ℕ) → t < 64 → is_in targets t ≡ false → filter (legal_at p) (moves_between s t) ≡ []
unreached p board man s targets same here all t small out =
    let far : may_reach board man.colour man.kind s t ≡ false = false_from_ne_true _ (λ reach. both_ways _ out (all t small reach)) in
    none-between (legal_at p) s t (too-far p man s t here (ap (λ (b : Places). may_reach b man.colour man.kind s t) (sym same) ∙ far))
