-- What regions tell of men who began at home: that they are gone, that no pawn captured them, and on which colour bishops stand.
use Rattle.std.proofs.Common.{◌≡◌, ℕ, ◌<◌, ◌==◌, inl, inr, Bool, true, false, cond, ◌&&◌, not, List, [], ◌∷◌, ◌++◌, length, refl, ap, sym, ◌∙◌, subst, arith}
use Rattle.std.proofs.lemmas.Bool.{and_parts, and_from, or_from, not-true, not_from_false, cases_Bool, both_ways, eq-eqb, false_from_ne_true}
use Rattle.std.proofs.lemmas.List.{append-nil}
use Rattle.std.proofs.lemmas.Option.{none-some}
use Rattle.std.specs.Prelude.{Option, Some, None}
use Rattle.board_base.specs.Board.{Places, at, is_a, is_empty, is_in, is_of, opponent, same_colour, is_like}
use Rattle.board_base.specs.Attacks.{files_apart, one_ahead}
use Rattle.board_base.specs.Play.{castling, en_passant_victim, goes_en_passant}
use Rattle.board_base.specs.Legal.{king_castles, man_moves, pawn_captures, pawn_captures_en_passant, pawn_doubles, pawn_steps}
use Rattle.board_base.specs.Game.{IsGame, board_after, turn_after, last_move, unmoved}
use Rattle.board_base.specs.declared.men.Man.{Man}
use Rattle.board_base.specs.declared.men.Colour.{Colour}
use Rattle.board_base.specs.declared.men.Kind.TheVariants.{Pawn, King}
use Rattle.board_base.specs.declared.moves.Move.{Move}
use Rattle.board_base.specs.declared.castles.Castle.{Castle}
use Rattle.board_base.proofs.KindsOfMen.{another_kind, colour_other, opponent-twice, same_colour-self, same_kind-self}
use Rattle.play_rules.specs.Laws.{is_end}
use Rattle.play_rules.proofs.Legality.{Manner, moves, steps, doubles, takes, passes, castles, Legality, legality}
use Rattle.play_rules.proofs.Ends.{no_pawn_on_ends}
use Rattle.play_rules.proofs.Doubles.{castles-no-pawn}
use Rattle.play_rules.proofs.Kings.{castle-ends, length-after, within}
use Rattle.query_base.specs.Asked.{Asked}
use Rattle.cage_rules.specs.Laws.{Caged, IsGone, IsNotPawned, IsSafeFromPawns, Walled}
use Rattle.cage_rules.specs.Regions.{beginner, is_dead, is_exposed, is_officer_home, is_shielded, is_struck, may_strike, region}
use Rattle.cage_rules.proofs.Histories.{game-begins}
use Rattle.cage_rules.proofs.Regions.{length-region}
use Rattle.cage_rules.proofs.Roamers.{in-region, officer-of}
use Rattle.cage_rules.proofs.Stays.{Stays}
use Rattle.cage_rules.proofs.WalledGames.{caged-walled, walled-stays}
use Rattle.general_lemmas.proofs.Ranges.{any-found}
use Rattle.cage_rules.proofs.Tested.{at_board, member-inside}

-- a home that is dead
pub dead-gone : (o : List Bool) (g : List Move) (q : Asked) (set : List Bool) (h : ℕ) → Caged o g q set → is_officer_home h ≡ true → is_in o h ≡ false → is_dead q.board set h ≡ true → IsGone o g h
unfolding is_dead
dead-gone o g q set h caged home there dead s label =
    let here = in-region o g set h (caged-walled o g q set caged) home there g ([], sym (append-nil g)) s label in
    let first = officer-of h home in
    let alive : is_like (beginner h) (at q.board s) ≡ true =
    ap (λ (b : Places). is_like (beginner h) (at b s)) (sym caged.leads.board) ∙ ap (is_like (beginner h)) (here.1 ∙ first.1) ∙ ap (λ (p : Option Man). is_like p (Some first.0)) first.1
    ∙ and_from _ _ (same_colour-self first.0.colour) (same_kind-self first.0.kind) in
    let none = not-true _ (at_board (λ t. not (is_in (region set h) t && is_like (beginner h) (at q.board t))) s dead (member-inside (region set h) s (length-region set (beginner h) h) here.0)) in
    both_ways _ none (and_from _ _ here.0 alive)

came-none : (from to : ℕ) (taken at_to at_from : Bool) → at_to ≡ false → at_from ≡ true → cond taken None (cond at_to (Some from) (cond at_from None (Some from))) ≡ None
came-none from to true at_to at_from a b = refl
came-none from to false at_to at_from a b = rw (a, b) refl

pub from-inside : (board : Places) (s : ℕ) → length board ≡ 64 → is_a Pawn (at board s) ≡ true → s < 64
from-inside board s len pawn = rw (← len) (within (is_a Pawn) board s refl pawn)

-- a square that a legal move leaves is in no frozen set
pub left-out : (m : Move) (castle : Option Castle) (board : Places) → castling board m ≡ castle → is_a Pawn (at board m.from) ≡ true → Stays m castle (goes_en_passant board m) m.from → ⊥
left-out m None board e pawn stay =
    none-some m.from (sym (came-none m.from m.to (goes_en_passant board m && (m.from == en_passant_victim m)) (m.from == m.to) (m.from == m.from) stay.elsewhere (eq-eqb m.from m.from refl)) ∙ stay.from)
left-out m (Some c) board e pawn stay = both_ways _ (another_kind King Pawn (at board m.from) pawn) (castle-ends board m c e).king

-- no pawn stands where it would capture into a shielded region, when it is about to
pub shielded-safe : (o : List Bool) (g : List Move) (set : List Bool) (h : ℕ) → Walled o g set → is_shielded set h ≡ true → IsSafeFromPawns o g set h
unfolding is_shielded is_exposed
shielded-safe o g set h walled shielded before m (after, e) member struck = false_from_ne_true _ (λ pawn.
    let more : IsGame o (before ++ m ∷ after) = subst (IsGame o) e walled.game in
    let game : IsGame o before = game-begins o before (m ∷ after) more in
    let l : Legality (board_after o before) (turn_after before) (unmoved o before) (last_move before) m = legality _ _ _ _ _ (more before after m refl) in
    let f : m.from < 64 = from-inside (board_after o before) m.from (length-after o before game) pawn in
    let inner : is_end m.from ≡ false = false_from_ne_true _ (λ end. both_ways _ (no_pawn_on_ends o before game m.from end) pawn) in
    let covered : is_in set m.from ≡ true = elim (cases_Bool (is_in set m.from)) [
      | inl stays ↦ stays
      | inr free ↦
          let strikes : may_strike set (beginner h) m.to m.from ≡ true = and_from _ _ struck (not_from_false _ (or_from _ _ inner free)) in
          let exposed : is_exposed set (beginner h) m.to ≡ true = any-found (may_strike set (beginner h) m.to) 0 64 m.from (omega arith) (omega arith) strikes in
          absurd (both_ways _ (not-true _ (at_board (λ t. not (is_in (region set h) t && is_exposed set (beginner h) t)) m.to shielded l.on_board)) (and_from _ _ member exposed))
    ] in
    left-out m (castling (board_after o before) m) (board_after o before) refl pawn (walled-stays o g before after m set walled e m.from covered))

-- a pawn that comes to an occupied square captures there
captures : (board : Places) (c : Colour) (rights : Castle → Bool) (last : Option Move) (m : Move) → is_a Pawn (at board m.from) ≡ true → is_empty (at board m.to) ≡ false → Manner board c rights last m → (one_ahead c m.from m.to && (files_apart m.from m.to == 1)) ≡ true
unfolding man_moves pawn_steps pawn_doubles pawn_captures pawn_captures_en_passant king_castles
captures board c rights last m pawn full (moves h) = absurd (both_ways _ (not-true _ (and_parts _ _ h).0) pawn)
captures board c rights last m pawn full (steps h) = absurd (both_ways _ full (and_parts _ _ h).1)
captures board c rights last m pawn full (doubles h) = absurd (both_ways _ full (and_parts _ _ h).1)
captures board c rights last m pawn full (takes h) =
    let p2 = and_parts (is_a Pawn (at board m.from) && one_ahead c m.from m.to) (files_apart m.from m.to == 1) (and_parts _ (is_of (opponent c) (at board m.to)) h).0 in
    and_from (one_ahead c m.from m.to) (files_apart m.from m.to == 1) (and_parts (is_a Pawn (at board m.from)) (one_ahead c m.from m.to) p2.0).1 p2.1
captures board c rights last m pawn full (passes h) = absurd (both_ways _ full (and_parts _ _ (and_parts _ _ h).0).1)
captures board c rights last m pawn full (castles h) = absurd (castles-no-pawn board c rights m (castling board m) refl pawn h)

struck-from : (place : Option Man) (b : Man) (c : Colour) (t u : ℕ) → place ≡ Some b → same_colour c b.colour ≡ false → (one_ahead c u t && (files_apart u t == 1)) ≡ true → is_struck place t u ≡ true
struck-from place b c t u e other h =
    let same : c ≡ opponent b.colour = sym (opponent-twice c) ∙ ap opponent (colour_other c b.colour other) in
    subst (λ (p : Option Man). is_struck p t u ≡ true) (sym e) (subst (λ (d : Colour). (one_ahead d u t && (files_apart u t == 1)) ≡ true) same h)

-- no pawn captures the man who began on a shielded home
pub shielded-unpawned : (o : List Bool) (g : List Move) (set : List Bool) (h : ℕ) → Walled o g set → is_officer_home h ≡ true → is_in o h ≡ false → is_shielded set h ≡ true → IsNotPawned o g h
shielded-unpawned o g set h walled home there shielded before m (after, e) label = false_from_ne_true _ (λ pawn.
    let first = officer-of h home in
    let here = in-region o g set h walled home there before (m ∷ after, e) m.to label in
    let man : at (board_after o before) m.to ≡ Some first.0 = here.1 ∙ first.1 in
    let more : IsGame o (before ++ m ∷ after) = subst (IsGame o) e walled.game in
    let l : Legality (board_after o before) (turn_after before) (unmoved o before) (last_move before) m = legality _ _ _ _ _ (more before after m refl) in
    let takes_it = captures (board_after o before) (turn_after before) (unmoved o before) (last_move before) m pawn (ap is_empty man) l.manner in
    let struck : is_struck (beginner h) m.to m.from ≡ true = struck-from (beginner h) first.0 (turn_after before) m.to m.from first.1 (ap (is_of (turn_after before)) (sym man) ∙ l.not_own) takes_it in
    both_ways _ (shielded-safe o g set h walled shielded before m (after, e) here.0 struck) pawn)
