-- Two legal moves of pawns to one target, alike in what a text tells of them, are one.
use Rattle.std.proofs.Common.{◌≡◌, ◌<◌, ◌+◌, ◌-◌, ◌*◌, ℕ, Bool, true, false, cond, ◌&&◌, ◌||◌, not, refl, sym, ap, ◌∙◌, subst, arith}
use Rattle.std.proofs.lemmas.Bool.{and_parts, eqb-true, both_ways, not-true}
use Rattle.std.specs.Prelude.{Option, Some, None, is_some}
use Rattle.board_base.specs.Board.{Places, at, is_a, is_empty, is_of, is_the, opponent, file, rank}
use Rattle.board_base.specs.Attacks.{distance, ranks_apart, one_ahead, is_open, on_the_way, toward, king_distance}
use Rattle.board_base.specs.Play.{castling}
use Rattle.board_base.specs.Parts.{double_step}
use Rattle.board_base.specs.Legal.{man_moves, pawn_steps, pawn_doubles, pawn_captures, pawn_captures_en_passant, king_castles, pawn_rank, is_move}
use Rattle.board_base.specs.declared.men.Man.{Man}
use Rattle.board_base.specs.declared.men.Colour.{Colour}
use Rattle.board_base.specs.declared.men.Colour.TheVariants.{White, Black}
use Rattle.board_base.specs.declared.men.Kind.TheVariants.{Pawn}
use Rattle.board_base.specs.declared.moves.Move.{Move}
use Rattle.board_base.specs.declared.castles.Castle.{Castle}
use Rattle.general_lemmas.proofs.Ranges.{all_in_range}
use Rattle.play_rules.proofs.Legality.{Manner, moves, steps, doubles, takes, passes, castles}
use Rattle.board_base.proofs.Passing.{other-files}
use Rattle.board_base.proofs.Ways.{toward-up, toward-down, toward-same}
use Rattle.play_rules.proofs.Doubles.{castles-no-pawn}
use Rattle.play_rules.proofs.Kings.{empty-not}
use Rattle.san_text.specs.Fits.{captures}

-- the ways in which a pawn goes
pub data Way (board : Places) (c : Colour) (m : Move) : Type 0 where
  one : captures board m ≡ false → file m.from ≡ file m.to → one_ahead c m.from m.to ≡ true → Way board c m
  two : captures board m ≡ false → file m.from ≡ file m.to → rank m.from ≡ pawn_rank c → ranks_apart m.from m.to ≡ 2 → is_open board m.from m.to ≡ true → Way board c m
  taking : captures board m ≡ true → one_ahead c m.from m.to ≡ true → Way board c m

free : (place : Option Man) (pawn same : Bool) → is_empty place ≡ true → same ≡ true → (is_some place || (pawn && not same && is_empty place)) ≡ false
free None true true e s = refl
free None false true e s = refl
free None pawn false e s = cc
free (Some m) pawn same e s = cc

met : (c : Colour) (place : Option Man) (b : Bool) → is_of c place ≡ true → (is_some place || b) ≡ true
met c None b h = cc
met c (Some m) b h = refl

passed : (place : Option Man) (pawn same : Bool) → pawn ≡ true → same ≡ false → is_empty place ≡ true → (is_some place || (pawn && not same && is_empty place)) ≡ true
passed None true false p s e = refl
passed None true true p s e = cc
passed None false same p s e = cc
passed (Some m) pawn same p s e = cc

-- what an en passant capture says of its squares
answered : (board : Places) (c : Colour) (last : Option Move) (m : Move) (b : Bool) → elim (cond b (Some (double_step m c)) None) as (λ _. Bool) [ None ↦ false | Some d ↦ is_move last d && is_the (opponent c) Pawn (at board d.to) ] ≡ true → b ≡ true
answered board c last m true h = refl
answered board c last m false h = cc

pub way_of : (board : Places) (c : Colour) (rights : Castle → Bool) (last : Option Move) (m : Move) → is_a Pawn (at board m.from) ≡ true → Manner board c rights last m → Way board c m
unfolding man_moves pawn_steps pawn_doubles pawn_captures pawn_captures_en_passant king_castles
way_of board c rights last m pawn (moves h) = absurd (both_ways _ (not-true _ (and_parts _ _ h).0) pawn)
way_of board c rights last m pawn (steps h) =
    let p2 = and_parts _ _ h in
    let p1 = and_parts _ _ p2.0 in
    one (free (at board m.to) _ _ p2.1 p1.1) (eqb-true _ _ p1.1) (and_parts _ _ p1.0).1
way_of board c rights last m pawn (doubles h) =
    let p5 = and_parts _ _ h in
    let p4 = and_parts _ _ p5.0 in
    let p3 = and_parts _ _ p4.0 in
    let p2 = and_parts _ _ p3.0 in
    let p1 = and_parts _ _ p2.0 in
    two (free (at board m.to) _ _ p5.1 p2.1) (eqb-true _ _ p2.1) (eqb-true _ _ p1.1) (eqb-true _ _ p3.1) p4.1
way_of board c rights last m pawn (takes h) =
    let p2 = and_parts _ _ h in
    let p1 = and_parts _ _ p2.0 in
    taking (met (opponent c) (at board m.to) _ p2.1) (and_parts _ _ p1.0).1
way_of board c rights last m pawn (passes h) =
    let p = and_parts _ _ h in
    let q3 = and_parts _ _ (answered board c last m _ p.1) in
    let q2 = and_parts _ _ q3.0 in
    taking (passed (at board m.to) _ _ pawn (other-files m (eqb-true _ _ q2.1)) (and_parts _ _ p.0).1) (and_parts _ _ q2.0).1
way_of board c rights last m pawn (castles h) = absurd (castles-no-pawn board c rights m (castling board m) refl pawn h)

-- two squares from which one rank ahead is the same, on one file, are one
one_origin : (c : Colour) (s t to : ℕ) → file s ≡ file t → one_ahead c s to ≡ true → one_ahead c t to ≡ true → s ≡ t
one_origin White s t to same a b =
    let x : rank to ≡ rank s + 1 = eqb-true _ _ a in
    let y : rank to ≡ rank t + 1 = eqb-true _ _ b in
    omega arith
one_origin Black s t to same a b =
    let x : rank s ≡ rank to + 1 = eqb-true _ _ a in
    let y : rank t ≡ rank to + 1 = eqb-true _ _ b in
    omega arith

home_origin : (c : Colour) (s t : ℕ) → file s ≡ file t → rank s ≡ pawn_rank c → rank t ≡ pawn_rank c → s ≡ t
home_origin White s t same a b = omega arith
home_origin Black s t same a b = omega arith

down_one : (a : ℕ) → a + 2 - 1 ≡ a + 1
down_one a = omega arith

-- the square that a double step crosses
crossed_square : (c : Colour) (s t to : ℕ) → to < 64 → file s ≡ file to → file t ≡ file to → rank s ≡ pawn_rank c → ranks_apart s to ≡ 2 → one_ahead c t to ≡ true → on_the_way s to 1 ≡ t
unfolding on_the_way distance
crossed_square White s t to low fs ft home apart ahead =
    let y : rank to ≡ rank t + 1 = eqb-true _ _ ahead in
    let r : rank to ≡ rank s + 2 = omega arith in
    ap (λ (n : ℕ). 8 * toward (rank s) n 1 + toward (file s) (file to) 1) r
    ∙ ap (λ (n : ℕ). 8 * n + toward (file s) (file to) 1) (toward-up (rank s) (rank s + 2) 1 (omega arith))
    ∙ ap (λ (n : ℕ). 8 * (rank s + 1) + toward (file s) n 1) (sym fs)
    ∙ ap (λ (n : ℕ). 8 * (rank s + 1) + n) (toward-same (file s) (file s) 1 refl)
    ∙ omega arith
crossed_square Black s t to low fs ft home apart ahead =
    let y : rank t ≡ rank to + 1 = eqb-true _ _ ahead in
    let r : rank s ≡ rank to + 2 = omega arith in
    ap (λ (n : ℕ). 8 * toward n (rank to) 1 + toward (file s) (file to) 1) r
    ∙ ap (λ (n : ℕ). 8 * n + toward (file s) (file to) 1) (toward-down (rank to + 2) (rank to) 1 (omega arith) ∙ down_one (rank to))
    ∙ ap (λ (n : ℕ). 8 * (rank to + 1) + toward (file s) n 1) (sym fs)
    ∙ ap (λ (n : ℕ). 8 * (rank to + 1) + n) (toward-same (file s) (file s) 1 refl)
    ∙ omega arith

-- the square that a double step crosses is empty
crossed_empty : (board : Places) (s to : ℕ) → ranks_apart s to ≡ 2 → is_open board s to ≡ true → is_empty (at board (on_the_way s to 1)) ≡ true
unfolding king_distance
crossed_empty board s to apart clear = all_in_range (λ k. is_empty (at board (on_the_way s to k))) 1 (king_distance s to - 1) 1 clear (omega arith) (omega arith)

-- a pawn can't step to where another can make a double step
no_step : (board : Places) (c : Colour) (s t to : ℕ) → to < 64 → file s ≡ file to → file t ≡ file to → rank s ≡ pawn_rank c → ranks_apart s to ≡ 2 → is_open board s to ≡ true → one_ahead c t to ≡ true → is_a Pawn (at board t) ≡ true → ⊥
no_step board c s t to low fs ft home apart clear ahead pawn =
    let free_there = subst (λ (n : ℕ). is_empty (at board n) ≡ true) (crossed_square c s t to low fs ft home apart ahead) (crossed_empty board s to apart clear) in
    both_ways _ (empty-not (is_a Pawn) (at board t) refl free_there) pawn

-- two moves of pawns to one target begin on one square, if both capture from one file, or neither captures
pub one_pawn : (board : Places) (c : Colour) (m n : Move) → m.to < 64 → n.to ≡ m.to → is_a Pawn (at board m.from) ≡ true → is_a Pawn (at board n.from) ≡ true → captures board n ≡ captures board m → (captures board m ≡ true → file n.from ≡ file m.from) → Way board c m → Way board c n → n.from ≡ m.from
one_pawn board c m n low same pm pn truth files (one a b d) (one e f g) =
    one_origin c n.from m.from m.to (f ∙ ap file same ∙ sym b) (subst (λ (t : ℕ). one_ahead c n.from t ≡ true) same g) d
one_pawn board c m n low same pm pn truth files (one a b d) (two e f h r o) =
    absurd (no_step board c n.from m.from n.to (subst (λ (t : ℕ). t < 64) (sym same) low) f (b ∙ ap file (sym same)) h r o (subst (λ (t : ℕ). one_ahead c m.from t ≡ true) (sym same) d) pm)
one_pawn board c m n low same pm pn truth files (one a b d) (taking e g) = absurd (both_ways _ a (sym truth ∙ e))
one_pawn board c m n low same pm pn truth files (two a b h r o) (one e f g) =
    absurd (no_step board c m.from n.from m.to low b (f ∙ ap file same) h r o (subst (λ (t : ℕ). one_ahead c n.from t ≡ true) same g) pn)
one_pawn board c m n low same pm pn truth files (two a b h r o) (two e f i q u) = home_origin c n.from m.from (f ∙ ap file same ∙ sym b) i h
one_pawn board c m n low same pm pn truth files (two a b h r o) (taking e g) = absurd (both_ways _ a (sym truth ∙ e))
one_pawn board c m n low same pm pn truth files (taking a d) (one e f g) = absurd (both_ways _ e (truth ∙ a))
one_pawn board c m n low same pm pn truth files (taking a d) (two e f h r o) = absurd (both_ways _ e (truth ∙ a))
one_pawn board c m n low same pm pn truth files (taking a d) (taking e g) =
    one_origin c n.from m.from m.to (files a) (subst (λ (t : ℕ). one_ahead c n.from t ≡ true) same g) d
