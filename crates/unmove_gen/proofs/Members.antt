-- An unmove that passes the test is among the candidates.
use Rattle.std.proofs.Common.{◌≡◌, ℕ, ◌<◌, ◌≤◌, ◌==◌, Bool, true, false, length, set, refl, ap, sym, ◌∙◌, arith}
use Rattle.std.proofs.lemmas.Bool.{and_parts, both_ways, cond-false}
use Rattle.std.proofs.lemmas.List.{length-set, get_or-set_same}
use Rattle.std.proofs.lemmas.List.Sums.{length-filter, count_by-le-length}
use Rattle.std.proofs.lemmas.Option.{slice_get_within, get_or_from_slice_get}
use Rattle.std.specs.Prelude.{Option, Some, None, slice_get}
use Rattle.std.specs.List.{Contains}
use Rattle.board_base.specs.Board.{Places, at, is_a, is_of, rank, same_kind}
use Rattle.board_base.specs.Play.{crossed, en_passant_victim, rook_home}
use Rattle.board_base.specs.Legal.{promotion_fits, is_officer, last_rank}
use Rattle.board_base.specs.declared.men.Man.{Man}
use Rattle.board_base.specs.declared.men.Colour.{Colour}
use Rattle.board_base.specs.declared.men.Kind.{Kind}
use Rattle.board_base.specs.declared.men.Kind.TheVariants.{Pawn, Knight, Bishop, Rook, Queen, King}
use Rattle.board_base.specs.declared.moves.Move.{Move}
use Rattle.board_base.specs.declared.castles.Castle.{Castle}
use Rattle.board_base.specs.declared.unmoves.Unmove.{Unmove}
use Rattle.board_base.proofs.KindsOfMen.{kind_is}
use Rattle.general_lemmas.proofs.Lists.{contains-filter}
use Rattle.castle_history.specs.TakenBack.{castling_back}
use Rattle.query_base.specs.Asked.{Asked}
use Rattle.play_rules.specs.Listed.{promotions}
use Rattle.play_rules.proofs.Kings.{length-carry}
use Rattle.unmove_gen.specs.TakenBack.{capture_square, captured_by, rook_back, taken_back, unpromoted}
use Rattle.unmove_gen.specs.Listed.{before, candidates, is_listed, is_marked, mover, taking, unmoves, unmoves_of}
use Rattle.unmove_gen.specs.Numbers.{number_at}
use Rattle.unmove_gen.proofs.Back.{fits_as}
use Rattle.unmove_gen.proofs.Numbered.{candidate-at, candidates-long}
use Rattle.unmove_gen.proofs.Parts.{Parts, legality_of, parts}
use Rattle.general_lemmas.proofs.Filtered.{passes-filter}

officer-at : (k : Kind) → is_officer k ≡ true → (p : ℕ) × (p < 5) × (slice_get promotions p ≡ Some (Some k))
officer-at Pawn h = cc
officer-at Knight h = (1, omega arith, refl)
officer-at Bishop h = (2, omega arith, refl)
officer-at Rook h = (3, omega arith, refl)
officer-at Queen h = (4, omega arith, refl)
officer-at King h = cc

promotion-at : (promo : Option Kind) (place : Option Man) (reaches : Bool) → fits_as place reaches promo ≡ true → (p : ℕ) × (p < 5) × (slice_get promotions p ≡ Some promo)
promotion-at None place reaches h = (0, omega arith, refl)
promotion-at (Some k) place reaches h = officer-at k (and_parts _ _ h).1

capture-at : (m : Move) (k : Kind) → same_kind King k ≡ false → (r : ℕ) × (r < 7) × (slice_get (unmoves_of m) r ≡ Some (taking m (Some k)))
capture-at m Pawn h = (1, omega arith, refl)
capture-at m Knight h = (2, omega arith, refl)
capture-at m Bishop h = (3, omega arith, refl)
capture-at m Rook h = (4, omega arith, refl)
capture-at m Queen h = (5, omega arith, refl)
capture-at m King h = cc

-- no king is captured, and what is captured en passant is a pawn
unfoldable pub Fits : Option Kind → Bool → Type 0
Fits captured true = captured ≡ Some Pawn
Fits None false = Unit {0}
Fits (Some k) false = same_kind King k ≡ false

taken-at : (m : Move) (captured : Option Kind) (ep : Bool) → Fits captured ep → (r : ℕ) × (r < 7) × (slice_get (unmoves_of m) r ≡ Some (record { mv = m; captured = captured; ep = ep }))
unfolding Fits
taken-at m captured true h = (6, omega arith, ap (λ (k : Option Kind). Some (record { mv = m; captured = k; ep = true })) (sym h))
taken-at m None false h = (0, omega arith, refl)
taken-at m (Some k) false h = capture-at m k h

-- a move between two squares with a promotion and a capture that fit
pub candidate-of : (u : Unmove) (place : Option Man) (reaches : Bool) → u.mv.from < 64 → u.mv.to < 64 → fits_as place reaches u.mv.promo ≡ true → Fits u.captured u.ep → Contains candidates u
candidate-of u place reaches f t promo fits =
    let p = promotion-at u.mv.promo place reaches promo in
    let r = taken-at u.mv u.captured u.ep fits in
    let n : ℕ = number_at u.mv.to u.mv.from p.0 r.0 in
    let there : slice_get candidates n ≡ Some u = candidate-at u.mv.to u.mv.from p.0 r.0 u.mv.promo t f p.1 r.1 p.2 ∙ r.2 in
    (n, slice_get_within candidates n u there, get_or_from_slice_get candidates n u u there)

length-rook_back : (o : Option Castle) (board : Places) → length (rook_back o board) ≡ length board
length-rook_back None board = refl
length-rook_back (Some x) board = length-carry board (crossed x) (rook_home x) None

pub length-back : (board : Places) (u : Unmove) → length (taken_back board u) ≡ length board
unfolding taken_back
length-back board u =
    let home : Places = rook_back (castling_back board u.mv) board in
    let man : Option Man = unpromoted u.mv.promo (at home u.mv.to) in
    length-set (set (set home u.mv.to None) u.mv.from man) (capture_square u) (captured_by (at board u.mv.to) u.captured)
    ∙ length-set (set home u.mv.to None) u.mv.from man ∙ length-set home u.mv.to None ∙ length-rook_back (castling_back board u.mv) board

-- what was captured stands on its square again
pub at-capture : (board : Places) (u : Unmove) → capture_square u < length board → at (taken_back board u) (capture_square u) ≡ captured_by (at board u.mv.to) u.captured
unfolding taken_back
at-capture board u inside =
    let home : Places = rook_back (castling_back board u.mv) board in
    let man : Option Man = unpromoted u.mv.promo (at home u.mv.to) in
    let long : capture_square u < length (set (set home u.mv.to None) u.mv.from man) = omega (arith, length-set (set home u.mv.to None) u.mv.from man, length-set home u.mv.to None, length-rook_back (castling_back board u.mv) board) in
    get_or-set_same (set (set home u.mv.to None) u.mv.from man) (capture_square u) (captured_by (at board u.mv.to) u.captured) None long

pawn-taken : (captured : Option Kind) → elim captured as (λ _. Bool) [ None ↦ false | Some k ↦ same_kind Pawn k ] ≡ true → captured ≡ Some Pawn
pawn-taken None h = cc
pawn-taken (Some k) h = ap Some (sym (kind_is Pawn k h))

no-king : (c : Colour) (place : Option Man) (k : Kind) → is_of c place ≡ true → is_a King (captured_by place (Some k)) ≡ false → same_kind King k ≡ false
no-king c None k own h = absurd (both_ways false refl own)
no-king c (Some m) k own h = h

fits-from : (board after : Places) (c : Colour) (m : Move) (captured : Option Kind) (ep : Bool) → is_of c (at after m.to) ≡ true → (ep ≡ false → at board m.to ≡ captured_by (at after m.to) captured) → is_a King (at board m.to) ≡ false → is_marked board c (record { mv = m; captured = captured; ep = ep }) ≡ true → Fits captured ep
unfolding Fits
fits-from board after c m captured true own there king marked = pawn-taken captured (and_parts _ _ (and_parts _ _ marked).1).0
fits-from board after c m None false own there king marked = tt
fits-from board after c m (Some k) false own there king marked = no-king c (at after m.to) k own (ap (is_a King) (sym (there refl)) ∙ king)

candidate-from : (q : Asked) (u : Unmove) → u.mv.from < 64 → u.mv.to < length q.board → Parts q u → Contains candidates u
unfolding promotion_fits
candidate-from q u f t p =
    let l = legality_of q u p in
    let there : u.ep ≡ false → at (before q u) u.mv.to ≡ captured_by (at q.board u.mv.to) u.captured =
    λ plain.
    let e : capture_square u ≡ u.mv.to = cond-false u.ep (en_passant_victim u.mv) u.mv.to plain in
    ap (at (before q u)) (sym e) ∙ at-capture q.board u (omega arith) in
    candidate-of u (at (before q u) u.mv.from) (rank u.mv.to == last_rank (mover q)) f l.on_board l.promotion (fits-from (before q u) q.board (mover q) u.mv u.captured u.ep p.target there l.no_king p.marked)

-- what passes the test is in the list, and nothing else is
pub in-list : (q : Asked) (u : Unmove) → u.mv.from < 64 → u.mv.to < length q.board → is_listed q u ≡ true → Contains (unmoves q) u
unfolding unmoves
in-list q u f t h = contains-filter (is_listed q) candidates u (candidate-from q u f t (parts q u h)) h

pub list-passes : (q : Asked) (u : Unmove) → Contains (unmoves q) u → is_listed q u ≡ true
unfolding unmoves
list-passes q u h = passes-filter (is_listed q) candidates u h

pub few : (q : Asked) → length (unmoves q) ≤ 143360
unfolding unmoves
few q = omega (arith, length-filter (is_listed q) candidates, count_by-le-length (is_listed q) candidates, candidates-long)
