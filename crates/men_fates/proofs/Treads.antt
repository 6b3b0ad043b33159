-- Over which squares a pawn goes by a legal move: straight on over squares that are empty, or aslant to where he takes a man.
use Rattle.std.proofs.Common.{◌≡◌, ℕ, zero, suc, ◌+◌, ◌-◌, ◌<◌, ◌==◌, ◌⊎◌, inl, inr, Bool, true, false, cond, ◌&&◌, List, [], ◌∷◌, refl, ap, sym, ◌∙◌, subst, arith}
use Rattle.std.proofs.lemmas.Bool.{and_parts, and_from, cond-false, cond-true, eq-eqb, eqb-true, ne_eqb, lt-ltb, not_from_false, not_from_true, not-true, both_ways, false_from_ne_true, and_left, and_right}
use Rattle.std.specs.Prelude.{Option, Some, None, nat_lt}
use Rattle.std.specs.List.{list_all, range_with_len}
use Rattle.board_base.specs.Board.{Places, at, file, is_a, is_empty, is_in, is_of, is_the, opponent, rank}
use Rattle.board_base.specs.Attacks.{distance, files_apart, king_distance, on_the_way, one_ahead, ranks_apart, toward}
use Rattle.board_base.specs.Play.{ahead, castling, double_of, en_passant_victim, goes_en_passant}
use Rattle.board_base.specs.Legal.{is_move, king_castles, man_moves, pawn_captures, pawn_captures_en_passant, pawn_doubles, pawn_rank, pawn_steps}
use Rattle.board_base.specs.declared.men.Colour.{Colour}
use Rattle.board_base.specs.declared.men.Colour.TheVariants.{White, Black}
use Rattle.board_base.specs.declared.men.Kind.TheVariants.{Pawn}
use Rattle.board_base.specs.declared.moves.Move.{Move}
use Rattle.board_base.specs.declared.castles.Castle.{Castle}
use Rattle.board_base.proofs.KindsOfMen.{full-of}
use Rattle.board_base.proofs.Passing.{MayPass, may_pass}
use Rattle.board_base.proofs.Ways.{toward-up, toward-down, toward-same}
use Rattle.play_rules.proofs.Doubles.{castles-no-pawn}
use Rattle.play_rules.proofs.Legality.{Manner, moves, steps, doubles, takes, passes, castles}
use Rattle.men_account.specs.Captures.{taken_on}
use Rattle.men_account.proofs.PawnWays.{PawnWay, straight, aslant, pawn-way}
use Rattle.men_fates.specs.Deeds.{squares_trodden}
use Rattle.men_fates.specs.Ways.{captures_on, is_pawn_step, is_way, way_end}

-- a pawn's legal move
pub data Tread (board : Places) (c : Colour) (m : Move) : Type 0 where
  single : (ranks_apart m.from m.to == 2) ≡ false → one_ahead c m.from m.to ≡ true → file m.from ≡ file m.to → is_empty (at board m.to) ≡ true → Tread board c m
  double : ranks_apart m.from m.to ≡ 2 → rank m.from ≡ pawn_rank c → file m.from ≡ file m.to → is_empty (at board (on_the_way m.from m.to 1)) ≡ true → is_empty (at board m.to) ≡ true → Tread board c m
  capture : (ranks_apart m.from m.to == 2) ≡ false → one_ahead c m.from m.to ≡ true → files_apart m.from m.to ≡ 1 → is_of (opponent c) (at board (taken_on board m)) ≡ true → Tread board c m

-- one rank ahead is not two ranks apart
one-rank : (c : Colour) (s t : ℕ) → one_ahead c s t ≡ true → (ranks_apart s t == 2) ≡ false
unfolding distance
one-rank White s t h = let e : rank t ≡ rank s + 1 = eqb-true _ _ h in ne_eqb (ranks_apart s t) 2 (λ two. omega arith)
one-rank Black s t h = let e : rank s ≡ rank t + 1 = eqb-true _ _ h in ne_eqb (ranks_apart s t) 2 (λ two. omega arith)

-- a double step crosses an empty square
two-apart : (s t : ℕ) → file s ≡ file t → ranks_apart s t ≡ 2 → king_distance s t - 1 ≡ 1
unfolding distance king_distance
two-apart s t same two = omega arith

first-empty : (board : Places) (s t n : ℕ) → n ≡ 1 → list_all (λ k. is_empty (at board (on_the_way s t k))) (range_with_len 1 n) ≡ true → is_empty (at board (on_the_way s t 1)) ≡ true
first-empty board s t zero e h = absurd (omega arith)
first-empty board s t (suc n) e h = (and_parts (is_empty (at board (on_the_way s t 1))) (list_all (λ k. is_empty (at board (on_the_way s t k))) (range_with_len 2 n)) h).0

doubles-on : (board : Places) (c : Colour) (m : Move) → pawn_doubles board c m ≡ true → Tread board c m
unfolding pawn_doubles
doubles-on board c m h =
    let p5 = and_parts _ _ h in
    let p4 = and_parts _ _ p5.0 in
    let p3 = and_parts _ _ p4.0 in
    let p2 = and_parts _ _ p3.0 in
    let p1 = and_parts _ _ p2.0 in
    let same : file m.from ≡ file m.to = eqb-true _ _ p2.1 in
    let two : ranks_apart m.from m.to ≡ 2 = eqb-true _ 2 p3.1 in
    double two (eqb-true _ _ p1.1) same (first-empty board m.from m.to (king_distance m.from m.to - 1) (two-apart m.from m.to same two) p4.1) p5.1

steps-on : (board : Places) (c : Colour) (m : Move) → pawn_steps board c m ≡ true → Tread board c m
unfolding pawn_steps
steps-on board c m h =
    let p3 = and_parts _ _ h in
    let p2 = and_parts _ _ p3.0 in
    let ahead : one_ahead c m.from m.to ≡ true = (and_parts _ _ p2.0).1 in
    single (one-rank c m.from m.to ahead) ahead (eqb-true _ _ p2.1) p3.1

-- who takes goes aslant
takes-on : (board : Places) (c : Colour) (m : Move) → (is_empty (at board m.to) ≡ false) ⊎ (files_apart m.from m.to ≡ 1) → PawnWay board c m → Tread board c m
unfolding distance
takes-on board c m taken (straight same on free) = elim taken [
  | inl full ↦ absurd (both_ways _ full free)
  | inr one ↦ absurd (omega arith)
]
takes-on board c m taken (aslant one ahead enemy) = capture (one-rank c m.from m.to ahead) ahead one enemy

-- who goes straight on takes nobody
pub straight-free : (board : Places) (m : Move) → file m.from ≡ file m.to → is_empty (at board m.to) ≡ true → is_empty (at board (taken_on board m)) ≡ true
straight-free board m same free =
    let plain : goes_en_passant board m ≡ false = and_left _ (is_empty (at board m.to)) (and_right (is_a Pawn (at board m.from)) _ (not_from_true _ (eq-eqb _ _ same))) in
    subst (λ (s : ℕ). is_empty (at board s) ≡ true) (sym (cond-false _ (en_passant_victim m) m.to plain)) free

-- a capture en passant: what it answers was the last move, and the pawn who made that stands past the target, which is empty
pub record Passes (board : Places) (c : Colour) (last : Option Move) (m : Move) : Type 0 where
  pub step : Move
  pub answers : double_of m c ≡ Some step
  pub may : MayPass m c step
  pub was_last : is_move last step ≡ true
  pub pawn : is_the (opponent c) Pawn (at board step.to) ≡ true
  pub free : is_empty (at board m.to) ≡ true

passes-by : (board : Places) (c : Colour) (last : Option Move) (m : Move) (o : Option Move) → double_of m c ≡ o → is_empty (at board m.to) ≡ true → elim o as (λ _. Bool) [ None ↦ false | Some d ↦ is_move last d && is_the (opponent c) Pawn (at board d.to) ] ≡ true → Passes board c last m
passes-by board c last m None e free h = absurd (both_ways false refl h)
passes-by board c last m (Some d) e free h = let parts = and_parts _ _ h in record { step = d; answers = e; may = may_pass m c d e; was_last = parts.0; pawn = parts.1; free = free }

pub passes-told : (board : Places) (c : Colour) (last : Option Move) (m : Move) → pawn_captures_en_passant board c last m ≡ true → Passes board c last m
unfolding pawn_captures_en_passant
passes-told board c last m h =
    let parts = and_parts _ _ h in passes-by board c last m (double_of m c) refl (and_parts _ _ parts.0).1 parts.1

full-target : (board : Places) (c : Colour) (m : Move) → pawn_captures board c m ≡ true → is_empty (at board m.to) ≡ false
unfolding pawn_captures
full-target board c m h = full-of (opponent c) (at board m.to) (and_parts _ _ h).1

-- who goes past his target makes a capture en passant
pub passes-on : (board : Places) (c : Colour) (rights : Castle → Bool) (last : Option Move) (m : Move) → goes_en_passant board m ≡ true → Manner board c rights last m → Passes board c last m
unfolding man_moves pawn_steps pawn_doubles king_castles
passes-on board c rights last m past (moves h) = absurd (both_ways (is_a Pawn (at board m.from)) (not-true _ (and_parts _ _ h).0) (and_parts _ _ (and_parts _ _ past).0).0)
passes-on board c rights last m past (steps h) = absurd (both_ways (file m.from == file m.to) (not-true _ (and_parts _ _ (and_parts _ _ past).0).1) (and_parts _ _ (and_parts _ _ h).0).1)
passes-on board c rights last m past (doubles h) = absurd (both_ways (file m.from == file m.to) (not-true _ (and_parts _ _ (and_parts _ _ past).0).1) (and_parts _ _ (and_parts _ _ (and_parts _ _ (and_parts _ _ h).0).0).0).1)
passes-on board c rights last m past (takes h) = absurd (both_ways (is_empty (at board m.to)) (full-target board c m h) (and_parts _ _ past).1)
passes-on board c rights last m past (passes h) = passes-told board c last m h
passes-on board c rights last m past (castles h) = absurd (castles-no-pawn board c rights m (castling board m) refl (and_parts _ _ (and_parts _ _ past).0).0 h)

-- by the cases of a legal move
pub tread : (board : Places) (c : Colour) (rights : Castle → Bool) (last : Option Move) (m : Move) → is_a Pawn (at board m.from) ≡ true → m.to < 64 → Manner board c rights last m → Tread board c m
unfolding man_moves king_castles
tread board c rights last m pawn small (moves h) = absurd (both_ways _ (not-true _ (and_parts _ _ h).0) pawn)
tread board c rights last m pawn small (steps h) = steps-on board c m h
tread board c rights last m pawn small (doubles h) = doubles-on board c m h
tread board c rights last m pawn small (takes h) = takes-on board c m (inl (full-target board c m h)) (pawn-way board c rights last m pawn small (takes h))
tread board c rights last m pawn small (passes h) = takes-on board c m (inr (passes-told board c last m h).may.files) (pawn-way board c rights last m pawn small (passes h))
tread board c rights last m pawn small (castles h) = absurd (castles-no-pawn board c rights m (castling board m) refl pawn h)

-- the squares trodden, one or two
pub one-trodden : (m : Move) → (ranks_apart m.from m.to == 2) ≡ false → squares_trodden m ≡ m.to ∷ []
one-trodden m other = cond-false _ (on_the_way m.from m.to 1 ∷ m.to ∷ []) (m.to ∷ []) other

pub two-trodden : (m : Move) → ranks_apart m.from m.to ≡ 2 → squares_trodden m ≡ on_the_way m.from m.to 1 ∷ m.to ∷ []
two-trodden m two = cond-true _ (on_the_way m.from m.to 1 ∷ m.to ∷ []) (m.to ∷ []) (eq-eqb _ 2 two)

last-trodden : (b : Bool) (s x t : ℕ) → way_end s (cond b (x ∷ t ∷ []) (t ∷ [])) ≡ t
last-trodden true s x t = refl
last-trodden false s x t = refl

pub trodden-end : (m : Move) → way_end m.from (squares_trodden m) ≡ m.to
trodden-end m = last-trodden (ranks_apart m.from m.to == 2) m.from (on_the_way m.from m.to 1) m.to

-- a double step crosses the square ahead
pub crosses-ahead : (c : Colour) (s t : ℕ) → t < 64 → rank s ≡ pawn_rank c → file s ≡ file t → ranks_apart s t ≡ 2 → on_the_way s t 1 ≡ ahead c s
unfolding on_the_way distance
crosses-ahead White s t small home same two =
    let up : toward (rank s) (rank t) 1 ≡ rank s + 1 = toward-up (rank s) (rank t) 1 (omega arith) in
    let on : toward (file s) (file t) 1 ≡ file s = toward-same (file s) (file t) 1 same in
    omega arith
crosses-ahead Black s t small home same two =
    let down : toward (rank s) (rank t) 1 ≡ rank s - 1 = toward-down (rank s) (rank t) 1 (omega arith) in
    let on : toward (file s) (file t) 1 ≡ file s = toward-same (file s) (file t) 1 same in
    omega arith

-- the two steps of a double step
record Crosses (c : Colour) (s x t : ℕ) : Type 0 where
  on_board : x < 64
  first : one_ahead c s x ≡ true
  second : one_ahead c x t ≡ true
  same_file : file s ≡ file x

crosses : (c : Colour) (s x t : ℕ) → t < 64 → rank s ≡ pawn_rank c → file s ≡ file t → ranks_apart s t ≡ 2 → x ≡ ahead c s → Crosses c s x t
unfolding distance
crosses White s x t small home same two e = record { on_board = omega arith; first = eq-eqb _ _ (omega arith); second = eq-eqb _ _ (omega arith); same_file = omega arith }
crosses Black s x t small home same two e = record { on_board = omega arith; first = eq-eqb _ _ (omega arith); second = eq-eqb _ _ (omega arith); same_file = omega arith }

crosses-over : (c : Colour) (s t : ℕ) → t < 64 → rank s ≡ pawn_rank c → file s ≡ file t → ranks_apart s t ≡ 2 → Crosses c s (on_the_way s t 1) t
crosses-over c s t small home same two = crosses c s (on_the_way s t 1) t small home same two (crosses-ahead c s t small home same two)

near-file : (s t : ℕ) → (file s ≡ file t) ⊎ (files_apart s t ≡ 1) → nat_lt (files_apart s t) 2 ≡ true
unfolding distance
near-file s t (inl same) = lt-ltb _ _ (omega arith)
near-file s t (inr one) = lt-ltb _ _ (omega arith)

pub makes-step : (c : Colour) (set : List Bool) (s t : ℕ) → one_ahead c s t ≡ true → (file s ≡ file t) ⊎ (files_apart s t ≡ 1) → t < 64 → is_in set t ≡ false → is_pawn_step c set s t ≡ true
makes-step c set s t ahead near small out = and_from _ _ (and_from _ _ (and_from _ _ ahead (near-file s t near)) (lt-ltb t 64 small)) (not_from_false _ out)

-- a square that is empty is in no set whose squares are occupied
out-of : (board : Places) (set : List Bool) (s : ℕ) → ((t : ℕ) → is_in set t ≡ true → is_empty (at board t) ≡ false) → is_empty (at board s) ≡ true → is_in set s ≡ false
out-of board set s full free = false_from_ne_true _ (λ member. both_ways _ (full s member) free)

-- the squares trodden are a way from the origin, outside a set whose squares are occupied, and that the move doesn't enter
pub trodden-way : (board : Places) (c : Colour) (m : Move) (set : List Bool) → ((t : ℕ) → is_in set t ≡ true → is_empty (at board t) ≡ false) → is_in set m.to ≡ false → m.to < 64 → Tread board c m → is_way c set m.from (squares_trodden m) ≡ true
trodden-way board c m set full out small (single one ahead same free) = rw (one-trodden m one) (and_from _ _ (makes-step c set m.from m.to ahead (inl same) small out) refl)
trodden-way board c m set full out small (capture one ahead aside enemy) = rw (one-trodden m one) (and_from _ _ (makes-step c set m.from m.to ahead (inr aside) small out) refl)
trodden-way board c m set full out small (double two home same crossed free) =
    let over = crosses-over c m.from m.to small home same two in
    rw (two-trodden m two) (and_from _ _ (makes-step c set m.from (on_the_way m.from m.to 1) over.first (inl over.same_file) over.on_board (out-of board set (on_the_way m.from m.to 1) full crossed))
    (and_from _ _ (makes-step c set (on_the_way m.from m.to 1) m.to over.second (inl (sym over.same_file ∙ same)) small out) refl))

-- the captures among them
captured-straight : (s t : ℕ) (way : List ℕ) → file s ≡ file t → captures_on s (t ∷ way) ≡ captures_on t way
captured-straight s t way same = cond-true _ (captures_on t way) (t ∷ captures_on t way) (eq-eqb _ _ same)

captured-aslant : (s t : ℕ) → files_apart s t ≡ 1 → captures_on s (t ∷ []) ≡ t ∷ []
unfolding distance
captured-aslant s t one = cond-false _ [] (t ∷ []) (ne_eqb (file s) (file t) (λ same. omega arith))

pub double-captures : (s x t : ℕ) → file s ≡ file x → file x ≡ file t → captures_on s (x ∷ t ∷ []) ≡ []
double-captures s x t first second = captured-straight s x (t ∷ []) first ∙ captured-straight x t [] second

-- either nobody stands on the target and there is none, or a man is taken and it is the target
pub trodden-captures : (board : Places) (c : Colour) (m : Move) → m.to < 64 → Tread board c m → ((captures_on m.from (squares_trodden m) ≡ []) × (is_empty (at board (taken_on board m)) ≡ true)) ⊎ ((captures_on m.from (squares_trodden m) ≡ m.to ∷ []) × (is_of (opponent c) (at board (taken_on board m)) ≡ true))
trodden-captures board c m small (single one ahead same free) =
    inl (ap (captures_on m.from) (one-trodden m one) ∙ captured-straight m.from m.to [] same, straight-free board m same free)
trodden-captures board c m small (capture one ahead aside enemy) = inr (ap (captures_on m.from) (one-trodden m one) ∙ captured-aslant m.from m.to aside, enemy)
trodden-captures board c m small (double two home same crossed free) =
    let over = crosses-over c m.from m.to small home same two in
    inl (ap (captures_on m.from) (two-trodden m two) ∙ double-captures m.from (on_the_way m.from m.to 1) m.to over.same_file (sym over.same_file ∙ same), straight-free board m same free)
