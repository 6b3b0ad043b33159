-- A pawn's legal move: straight on, or one file aside to the square past which, or on which, he takes a man.
use Rattle.std.proofs.Common.{◌≡◌, ℕ, ◌+◌, ◌<◌, ◌==◌, Bool, true, false, ◌&&◌, refl, sym, subst, arith}
use Rattle.std.proofs.lemmas.Bool.{and_parts, and_from, both_ways, not-true, eqb-true, ne_eqb, not_from_false, and_right, cond-true, cond-false}
use Rattle.std.proofs.lemmas.Option.{cond_some}
use Rattle.std.specs.Prelude.{Option, Some, None}
use Rattle.board_base.specs.Board.{Places, at, is_of, is_a, is_the, is_empty, opponent, file, rank}
use Rattle.board_base.specs.Attacks.{distance, files_apart, ranks_apart, one_ahead}
use Rattle.board_base.specs.Play.{castling, goes_en_passant, en_passant_victim, double_of}
use Rattle.board_base.specs.Parts.{double_step}
use Rattle.board_base.specs.Legal.{pawn_rank, is_move, man_moves, pawn_steps, pawn_doubles, pawn_captures, pawn_captures_en_passant, king_castles}
use Rattle.board_base.specs.declared.men.Colour.{Colour}
use Rattle.board_base.specs.declared.men.Colour.TheVariants.{White, Black}
use Rattle.board_base.specs.declared.men.Kind.TheVariants.{Pawn}
use Rattle.board_base.specs.declared.moves.Move.{Move}
use Rattle.board_base.specs.declared.castles.Castle.{Castle}
use Rattle.board_base.proofs.KindsOfMen.{full-of}
use Rattle.play_rules.proofs.Legality.{Manner, moves, steps, doubles, takes, passes, castles}
use Rattle.play_rules.proofs.Kings.{double-en_passant_victim, empty-not}
use Rattle.play_rules.proofs.Doubles.{castles-no-pawn}
use Rattle.men_account.specs.Captures.{taken_on}

-- the rank changes as pawns of this colour go
abbrev pub Forward : Colour → ℕ → ℕ → Type 0
Forward White s t = rank s < rank t
Forward Black s t = rank t < rank s

pub data PawnWay (board : Places) (c : Colour) (m : Move) : Type 0 where
  straight : file m.from ≡ file m.to → Forward c m.from m.to → is_empty (at board m.to) ≡ true → PawnWay board c m
  aslant : files_apart m.from m.to ≡ 1 → one_ahead c m.from m.to ≡ true → is_of (opponent c) (at board (taken_on board m)) ≡ true → PawnWay board c m

pub ahead-forward : (c : Colour) (s t : ℕ) → one_ahead c s t ≡ true → Forward c s t
ahead-forward White s t h = let up : rank t ≡ rank s + 1 = eqb-true _ _ h in omega arith
ahead-forward Black s t h = let down : rank s ≡ rank t + 1 = eqb-true _ _ h in omega arith

double-forward : (c : Colour) (s t : ℕ) → t < 64 → rank s ≡ pawn_rank c → ranks_apart s t ≡ 2 → Forward c s t
unfolding distance
double-forward White s t small home two = omega arith
double-forward Black s t small home two = omega arith

-- what stands past the target of a capture en passant
victim-from : (board : Places) (c : Colour) (last : Option Move) (m : Move) (o : Option Move) → double_of m c ≡ o → elim o as (λ _. Bool) [ None ↦ false | Some d ↦ is_move last d && is_the (opponent c) Pawn (at board d.to) ] ≡ true → (is_the (opponent c) Pawn (at board (en_passant_victim m)) ≡ true) × (one_ahead c m.from m.to ≡ true) × (files_apart m.from m.to ≡ 1)
victim-from board c last m None e h = absurd (both_ways false refl h)
victim-from board c last m (Some d) e h =
    let pawn = (and_parts _ _ h).1 in
    let fits = and_parts _ _ (and_parts _ _ (cond_some _ (double_step m c) d e).0).0 in
    let at_victim : is_the (opponent c) Pawn (at board (en_passant_victim m)) ≡ true = subst (λ (s : ℕ). is_the (opponent c) Pawn (at board s) ≡ true) (double-en_passant_victim m d c e) pawn in
    (at_victim, (and_parts _ _ fits.0).1, eqb-true _ 1 fits.1)

files-differ : (s t : ℕ) → files_apart s t ≡ 1 → (file s == file t) ≡ false
unfolding distance
files-differ s t one = ne_eqb _ _ (λ same. omega arith)

-- a pawn who takes past his target
pub victim-pawn : (board : Places) (c : Colour) (rights : Castle → Bool) (last : Option Move) (m : Move) → goes_en_passant board m ≡ true → Manner board c rights last m → is_the (opponent c) Pawn (at board (en_passant_victim m)) ≡ true
unfolding man_moves pawn_steps pawn_doubles pawn_captures pawn_captures_en_passant king_castles
victim-pawn board c rights last m t (moves h) = absurd (both_ways (is_a Pawn (at board m.from)) (not-true _ (and_parts _ _ h).0) (and_parts _ _ (and_parts _ _ t).0).0)
victim-pawn board c rights last m t (steps h) = absurd (both_ways (file m.from == file m.to) (not-true _ (and_parts _ _ (and_parts _ _ t).0).1) (and_parts _ _ (and_parts _ _ h).0).1)
victim-pawn board c rights last m t (doubles h) = absurd (both_ways (file m.from == file m.to) (not-true _ (and_parts _ _ (and_parts _ _ t).0).1) (and_parts _ _ (and_parts _ _ (and_parts _ _ (and_parts _ _ h).0).0).0).1)
victim-pawn board c rights last m t (takes h) = absurd (both_ways (is_of (opponent c) (at board m.to)) (empty-not (is_of (opponent c)) _ refl (and_parts _ _ t).1) (and_parts _ _ h).1)
victim-pawn board c rights last m t (passes h) = (victim-from board c last m _ refl (and_parts _ _ h).1).0
victim-pawn board c rights last m t (castles h) = absurd (castles-no-pawn board c rights m (castling board m) refl (and_parts _ _ (and_parts _ _ t).0).0 h)

pub victim-enemy : (board : Places) (c : Colour) (rights : Castle → Bool) (last : Option Move) (m : Move) → goes_en_passant board m ≡ true → Manner board c rights last m → is_of (opponent c) (at board (en_passant_victim m)) ≡ true
victim-enemy board c rights last m t manner = (and_parts (is_of (opponent c) (at board (en_passant_victim m))) (is_a Pawn (at board (en_passant_victim m))) (victim-pawn board c rights last m t manner)).0

pub pawn-way : (board : Places) (c : Colour) (rights : Castle → Bool) (last : Option Move) (m : Move) → is_a Pawn (at board m.from) ≡ true → m.to < 64 → Manner board c rights last m → PawnWay board c m
unfolding man_moves pawn_steps pawn_doubles pawn_captures pawn_captures_en_passant king_castles
pawn-way board c rights last m pawn small (moves h) = absurd (both_ways _ (not-true _ (and_parts _ _ h).0) pawn)
pawn-way board c rights last m pawn small (steps h) =
    let p = and_parts _ _ (and_parts _ _ h).0 in
    straight (eqb-true _ _ p.1) (ahead-forward c m.from m.to (and_parts _ _ p.0).1) (and_parts _ _ h).1
pawn-way board c rights last m pawn small (doubles h) =
    let p4 = and_parts _ _ (and_parts _ _ (and_parts _ _ h).0).0 in
    let p2 = and_parts _ _ p4.0 in
    straight (eqb-true _ _ p2.1) (double-forward c m.from m.to small (eqb-true _ _ (and_parts _ _ p2.0).1) (eqb-true _ 2 p4.1)) (and_parts _ _ h).1
pawn-way board c rights last m pawn small (takes h) =
    let p = and_parts _ _ (and_parts _ _ h).0 in
    let plain : goes_en_passant board m ≡ false = and_right _ _ (full-of (opponent c) (at board m.to) (and_parts _ _ h).1) in
    aslant (eqb-true _ 1 p.1) (and_parts _ _ p.0).1 (subst (λ (s : ℕ). is_of (opponent c) (at board s) ≡ true) (sym (cond-false _ (en_passant_victim m) m.to plain)) (and_parts _ _ h).1)
pawn-way board c rights last m pawn small (passes h) =
    let from = victim-from board c last m _ refl (and_parts _ _ h).1 in
    let past : goes_en_passant board m ≡ true = and_from _ _ (and_from _ _ pawn (not_from_false _ (files-differ m.from m.to from.2))) (and_parts _ _ (and_parts _ _ h).0).1 in
    aslant from.2 from.1 (subst (λ (s : ℕ). is_of (opponent c) (at board s) ≡ true) (sym (cond-true _ (en_passant_victim m) m.to past)) (and_parts (is_of (opponent c) (at board (en_passant_victim m))) (is_a Pawn (at board (en_passant_victim m))) from.0).0)
pawn-way board c rights last m pawn small (castles h) = absurd (castles-no-pawn board c rights m (castling board m) refl pawn h)
