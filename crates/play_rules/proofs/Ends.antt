-- No pawn comes to rank 1 or rank 8.
use Rattle.std.proofs.Common.{◌≡◌, ℕ, ◌+◌, ◌<◌, inl, inr, ◌==◌, Bool, true, false, cond, ◌&&◌, not, List, length, set, refl, ap, sym, ◌∙◌, subst, arith}
use Rattle.std.proofs.lemmas.Bool.{and_parts, and_from, or_cases, not-true, eqb-true, eq-eqb, cases_eq, cases_lt, both_ways, false_from_ne_true}
use Rattle.std.proofs.lemmas.List.{get_or-set_same, get_or-set_other, set_past}
use Rattle.std.proofs.lemmas.Option.{cond_some}
use Rattle.std.specs.Prelude.{Option, Some, None}
use Rattle.std.specs.List.{list_all, range_with_len}
use Rattle.board_base.specs.Board.{Places, initial_array, array_of, is_in, at, is_of, is_a, is_the, opponent, rank}
use Rattle.board_base.specs.Attacks.{distance, ranks_apart, one_ahead}
use Rattle.board_base.specs.Play.{play, promoted, castling, goes_en_passant, en_passant_victim, double_of, king_home, rook_home, crossed}
use Rattle.board_base.specs.Parts.{played_as, double_step}
use Rattle.board_base.specs.Carry.{carry}
use Rattle.board_base.specs.Legal.{promotion_fits, is_officer, last_rank, pawn_rank, man_moves, pawn_steps, pawn_doubles, pawn_captures, pawn_captures_en_passant, king_castles, is_move}
use Rattle.board_base.specs.Game.{IsGame, board_after}
use Rattle.board_base.specs.declared.men.Man.{Man}
use Rattle.board_base.specs.declared.men.Colour.{Colour}
use Rattle.board_base.specs.declared.men.Colour.TheVariants.{White, Black}
use Rattle.board_base.specs.declared.men.Kind.{Kind}
use Rattle.board_base.specs.declared.men.Kind.TheVariants.{Pawn}
use Rattle.board_base.specs.declared.moves.Move.{Move}
use Rattle.board_base.specs.declared.castles.Castle.{Castle}
use Rattle.general_lemmas.proofs.Ranges.{all_in_range}
use Rattle.board_base.proofs.Without.{at-without}
use Rattle.board_base.proofs.KindsOfMen.{no_officer}
use Rattle.board_base.proofs.EachCastle.{each-castle}
use Rattle.play_rules.specs.Laws.{is_end, HasNoPawnOnEnds}
use Rattle.play_rules.proofs.Legality.{Manner, moves, steps, doubles, takes, passes, castles, Legality, legality}
use Rattle.play_rules.proofs.Games.{in_every_game, board_after-more}
use Rattle.play_rules.proofs.Kings.{castle-ends, within, length-after}
use Rattle.play_rules.proofs.Doubles.{castles-no-pawn}

ends-set : (board : Places) (i : ℕ) (v : Option Man) → (is_end i ≡ true → is_a Pawn v ≡ false) → HasNoPawnOnEnds board → HasNoPawnOnEnds (set board i v)
ends-set board i v new old s end = elim (cases_eq s i) [
  | inl same ↦ elim (cases_lt i (length board)) [
    | inl inside ↦ ap (λ (k : ℕ). is_a Pawn (at (set board i v) k)) same ∙ ap (is_a Pawn) (get_or-set_same board i v None inside) ∙ new (subst (λ (k : ℕ). is_end k ≡ true) same end)
    | inr past ↦ ap (λ (b : Places). is_a Pawn (at b s)) (set_past board i v past) ∙ old s end
  ]
  | inr other ↦ ap (is_a Pawn) (get_or-set_other board i s v None other) ∙ old s end
]

ends-carry : (board : Places) (from to : ℕ) (promo : Option Kind) → (is_end to ≡ true → is_a Pawn (promoted promo (at board from)) ≡ false) → HasNoPawnOnEnds board → HasNoPawnOnEnds (carry board from to promo)
ends-carry board from to promo new old = ends-set (set board from None) to (promoted promo (at board from)) new (ends-set board from None (λ _. refl) old)

pub is_end-king_home : (x : Castle) → is_end (king_home x) ≡ true
is_end-king_home = each-castle (λ x. is_end (king_home x)) refl

pub is_end-rook_home : (x : Castle) → is_end (rook_home x) ≡ true
is_end-rook_home = each-castle (λ x. is_end (rook_home x)) refl

-- a pawn that goes ahead comes to no end but its last rank
ahead-last : (c : Colour) (s t : ℕ) → s < 64 → t < 64 → one_ahead c s t ≡ true → is_end t ≡ true → rank t ≡ last_rank c
ahead-last White s t from small up end = elim (or_cases _ _ end) [
  | inl first ↦ let e : rank t ≡ 0 = eqb-true _ 0 first in let u : rank t ≡ rank s + 1 = eqb-true _ _ up in absurd (omega arith)
  | inr last ↦ eqb-true _ 7 last
]
ahead-last Black s t from small up end = elim (or_cases _ _ end) [
  | inl first ↦ eqb-true _ 0 first
  | inr last ↦ let e : rank t ≡ 7 = eqb-true _ 7 last in let u : rank s ≡ rank t + 1 = eqb-true _ _ up in absurd (omega arith)
]

-- a double step comes to no end
double-inner : {A : Type 0} (c : Colour) (s t : ℕ) → t < 64 → rank s ≡ pawn_rank c → ranks_apart s t ≡ 2 → is_end t ≡ true → A
unfolding distance
double-inner {A} White s t small home two end = elim (or_cases _ _ end) [
  | inl first ↦ let e : rank t ≡ 0 = eqb-true _ 0 first in absurd (omega arith)
  | inr last ↦ let e : rank t ≡ 7 = eqb-true _ 7 last in absurd (omega arith)
]
double-inner {A} Black s t small home two end = elim (or_cases _ _ end) [
  | inl first ↦ let e : rank t ≡ 0 = eqb-true _ 0 first in absurd (omega arith)
  | inr last ↦ let e : rank t ≡ 7 = eqb-true _ 7 last in absurd (omega arith)
]

pub en_passant-ahead : (board : Places) (c : Colour) (last : Option Move) (m : Move) (o : Option Move) → double_of m c ≡ o → elim o as (λ _. Bool) [ None ↦ false | Some d ↦ is_move last d && is_the (opponent c) Pawn (at board d.to) ] ≡ true → one_ahead c m.from m.to ≡ true
en_passant-ahead board c last m None e h = absurd (both_ways false refl h)
en_passant-ahead board c last m (Some d) e h = (and_parts _ _ (and_parts _ _ (and_parts _ _ (cond_some _ (double_step m c) d e).0).0).0).1

pawn-ends : (board : Places) (c : Colour) (rights : Castle → Bool) (last : Option Move) (m : Move) → m.from < 64 → m.to < 64 → is_a Pawn (at board m.from) ≡ true → is_end m.to ≡ true → Manner board c rights last m → rank m.to ≡ last_rank c
unfolding man_moves pawn_steps pawn_doubles pawn_captures pawn_captures_en_passant king_castles
pawn-ends board c rights last m from small pawn end (moves h) = absurd (both_ways _ (not-true _ (and_parts _ _ h).0) pawn)
pawn-ends board c rights last m from small pawn end (steps h) = ahead-last c m.from m.to from small (and_parts _ _ (and_parts _ _ (and_parts _ _ h).0).0).1 end
pawn-ends board c rights last m from small pawn end (doubles h) =
    let p4 = and_parts _ _ (and_parts _ _ (and_parts _ _ h).0).0 in
    let home : rank m.from ≡ pawn_rank c = eqb-true _ _ (and_parts _ _ (and_parts _ _ p4.0).0).1 in
    double-inner c m.from m.to small home (eqb-true _ 2 p4.1) end
pawn-ends board c rights last m from small pawn end (takes h) = ahead-last c m.from m.to from small (and_parts _ _ (and_parts _ _ (and_parts _ _ h).0).0).1 end
pawn-ends board c rights last m from small pawn end (passes h) =
    ahead-last c m.from m.to from small (en_passant-ahead board c last m (double_of m c) refl (and_parts _ _ h).1) end
pawn-ends board c rights last m from small pawn end (castles h) = absurd (castles-no-pawn board c rights m (castling board m) refl pawn h)

-- what comes to an end is no pawn
arrives : (promo : Option Kind) (place : Option Man) (reaches : Bool) → (is_a Pawn place ≡ true → reaches ≡ true) → elim promo as (λ _. Bool) [ None ↦ not (is_a Pawn place && reaches) | Some k ↦ is_a Pawn place && reaches && is_officer k ] ≡ true → is_a Pawn (promoted promo place) ≡ false
arrives None place reaches last h = false_from_ne_true _ (λ pawn. both_ways _ (not-true _ h) (and_from _ _ pawn (last pawn)))
arrives (Some k) None reaches last h = refl
arrives (Some k) (Some m) reaches last h = no_officer Pawn k refl (and_parts _ _ h).1

ends-played : (board : Places) (c : Colour) (rights : Castle → Bool) (last : Option Move) (m : Move) (o : Option Castle) → castling board m ≡ o → length board ≡ 64 → Legality board c rights last m → HasNoPawnOnEnds board → HasNoPawnOnEnds (played_as board m o)
unfolding promotion_fits
ends-played board c rights last m (Some x) e len l old =
    let ends = castle-ends board m x e in
    let king : is_a Pawn (at board m.from) ≡ false = ap (λ (s : ℕ). is_a Pawn (at board s)) (sym ends.from) ∙ old (king_home x) (is_end-king_home x) in
    let moved : HasNoPawnOnEnds (carry board m.from m.to None) = ends-carry board m.from m.to None (λ _. king) old in
    ends-carry (carry board m.from m.to None) (rook_home x) (crossed x) None (λ _. moved (rook_home x) (is_end-rook_home x)) moved
ends-played board c rights last m None e len l old =
    let from : m.from < 64 = rw (← len) (within (is_of c) board m.from refl l.mover) in
    let small : m.to < 64 = l.on_board in
    let moved : HasNoPawnOnEnds (carry board m.from m.to m.promo) =
    ends-carry board m.from m.to m.promo (λ end. arrives m.promo (at board m.from) (rank m.to == last_rank c) (λ pawn. eq-eqb _ _ (pawn-ends board c rights last m from small pawn end l.manner)) l.promotion) old in
    elim (goes_en_passant board m) as (λ b. HasNoPawnOnEnds (cond b (set (carry board m.from m.to m.promo) (en_passant_victim m) None) (carry board m.from m.to m.promo))) [
      | true ↦ ends-set (carry board m.from m.to m.promo) (en_passant_victim m) None (λ _. refl) moved
      | false ↦ moved
    ]

first-ends : list_all (λ s. not (is_end s && is_a Pawn (at initial_array s))) (range_with_len 0 64) ≡ true
unfolding initial_array
first-ends = refl

-- a square of rank 1 or 8 is on the board
pub end-inside : (s : ℕ) → is_end s ≡ true → s < 64
end-inside s end = elim (or_cases _ _ end) [
  | inl first ↦ let e : rank s ≡ 0 = eqb-true _ 0 first in omega arith
  | inr last ↦ let e : rank s ≡ 7 = eqb-true _ 7 last in omega arith
]

cleared-pawn : (b : Bool) (place : Option Man) → is_a Pawn place ≡ false → is_a Pawn (cond b None place) ≡ false
cleared-pawn true place h = refl
cleared-pawn false place h = h

array-ends : (o : List Bool) → HasNoPawnOnEnds (array_of o)
unfolding array_of
array-ends o s end =
    let inside : s < 64 = end-inside s end in
    let first : is_a Pawn (at initial_array s) ≡ false = false_from_ne_true _ (λ pawn. both_ways _ (not-true _ (all_in_range (λ k. not (is_end k && is_a Pawn (at initial_array k))) 0 64 s first-ends (omega arith) (omega arith))) (and_from _ _ end pawn)) in
    ap (is_a Pawn) (at-without o initial_array s) ∙ cleared-pawn (is_in o s) (at initial_array s) first

pub no_pawn_on_ends : (o : List Bool) (g : List Move) → IsGame o g → HasNoPawnOnEnds (board_after o g)
unfolding play
no_pawn_on_ends o = in_every_game o (λ g. HasNoPawnOnEnds (board_after o g)) (array-ends o) (λ g m game legal before.
    subst HasNoPawnOnEnds (sym (board_after-more o g m)) (ends-played (board_after o g) _ _ _ m _ refl (length-after o g game) (legality _ _ _ _ _ legal) before))
