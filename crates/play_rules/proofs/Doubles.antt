-- A pawn that has gone two ranks came from its home.
use Rattle.std.proofs.Common.{◌≡◌, ℕ, ◌+◌, ◌%◌, ◌<◌, inl, inr, ◌==◌, Bool, true, false, cond, ◌&&◌, not, List, [], ◌∷◌, ◌++◌, length, set, refl, ap, sym, ◌∙◌, subst, arith}
use Rattle.std.proofs.lemmas.Bool.{and_parts, not-true, eqb-true, eqb-false, eq-eqb, ne_eqb, cond-true, cond-false, cases_Bool, cases_eq, both_ways, and_from, and_left, and_right, false_from_ne_true}
use Rattle.std.proofs.lemmas.List.{length-append, length-set, get_or-set_same, get_or-set_other}
use Rattle.std.proofs.lemmas.Option.{cond_some, same_Some}
use Rattle.std.specs.Prelude.{Option, Some, None}
use Rattle.std.specs.List.{last_or}
use Rattle.board_base.specs.Board.{Places, at, is_a, is_the, opponent, file, rank}
use Rattle.board_base.specs.Attacks.{distance, ranks_apart, one_ahead}
use Rattle.board_base.specs.Play.{play, moved, ahead, promoted, castling, goes_en_passant, en_passant_victim, double_of, king_home}
use Rattle.board_base.specs.Carry.{carry}
use Rattle.board_base.specs.Legal.{legal_on, promotion_fits, is_officer, last_rank, pawn_rank, man_moves, pawn_steps, pawn_doubles, pawn_captures, pawn_captures_en_passant, king_castles, is_move}
use Rattle.board_base.specs.Parts.{played_as, double_step, castles_as}
use Rattle.board_base.specs.declared.men.Man.{Man}
use Rattle.board_base.specs.declared.men.Colour.{Colour}
use Rattle.board_base.specs.declared.men.Colour.TheVariants.{White, Black}
use Rattle.board_base.specs.declared.men.Kind.{Kind}
use Rattle.board_base.specs.declared.men.Kind.TheVariants.{Pawn, King}
use Rattle.board_base.specs.declared.moves.Move.{Move}
use Rattle.board_base.specs.declared.castles.Castle.{Castle}
use Rattle.play_rules.specs.States.{crossed_by, double_crossing, step_over}
use Rattle.play_rules.proofs.Legality.{Manner, moves, steps, doubles, takes, passes, castles, Legality, legality}
use Rattle.board_base.specs.Game.{IsGame, board_after, turn_after, last_move}
use Rattle.board_base.proofs.KindsOfMen.{another_kind, no_officer}
use Rattle.board_base.proofs.CastleSquares.{castle-one-rank}
use Rattle.play_rules.proofs.Games.{in_every_game, board_after-more}
use Rattle.play_rules.proofs.Kings.{castle-ends, length-after, length-carry}
use Rattle.play_rules.proofs.EnPassant.{FitsDouble, FitsLast, en_passant-same}

-- one rank ahead is not two ranks apart
one_not_two : {A : Type 0} (c : Colour) (s t : ℕ) → one_ahead c s t ≡ true → (ranks_apart s t == 2) ≡ true → A
unfolding distance
one_not_two {A} White s t up two =
    let e1 : rank t ≡ rank s + 1 = eqb-true _ _ up in
    let e2 : ranks_apart s t ≡ 2 = eqb-true _ 2 two in
    absurd (omega arith)
one_not_two {A} Black s t up two =
    let e1 : rank s ≡ rank t + 1 = eqb-true _ _ up in
    let e2 : ranks_apart s t ≡ 2 = eqb-true _ 2 two in
    absurd (omega arith)

-- a double step, by its ranks and files
double_fits : (c : Colour) (l : Move) → l.to < 64 → rank l.from ≡ pawn_rank c → file l.from ≡ file l.to → ranks_apart l.from l.to ≡ 2 → l.promo ≡ None → FitsDouble (opponent c) l
unfolding distance
double_fits White l small home same two none = record { from = omega arith; rank_is = omega arith; promo = none; back = omega arith }
double_fits Black l small home same two none = record { from = omega arith; rank_is = omega arith; promo = none; back = omega arith }

-- a double step is no promotion
double_no_promo : (board : Places) (c : Colour) (l : Move) (promo : Option Kind) → rank l.from ≡ pawn_rank c → ranks_apart l.from l.to ≡ 2 → elim promo as (λ _. Bool) [ None ↦ not (is_a Pawn (at board l.from) && (rank l.to == last_rank c)) | Some k ↦ is_a Pawn (at board l.from) && (rank l.to == last_rank c) && is_officer k ] ≡ true → promo ≡ None
unfolding distance
double_no_promo board c l None home two h = refl
double_no_promo board White l (Some k) home two h =
    let e : rank l.to ≡ 7 = eqb-true _ 7 (and_parts _ _ (and_parts _ _ h).0).1 in absurd (omega arith)
double_no_promo board Black l (Some k) home two h =
    let e : rank l.to ≡ 0 = eqb-true _ 0 (and_parts _ _ (and_parts _ _ h).0).1 in absurd (omega arith)

en_passant-no-double : {A : Type 0} (board : Places) (c : Colour) (last : Option Move) (m : Move) (o : Option Move) → double_of m c ≡ o → (ranks_apart m.from m.to == 2) ≡ true → elim o as (λ _. Bool) [ None ↦ false | Some d ↦ is_move last d && is_the (opponent c) Pawn (at board d.to) ] ≡ true → A
en_passant-no-double {A} board c last m None e two h = absurd (both_ways false refl h)
en_passant-no-double {A} board c last m (Some d) e two h =
    let parts = cond_some _ (double_step m c) d e in
    one_not_two c m.from m.to (and_parts _ _ (and_parts _ _ (and_parts _ _ parts.0).0).0).1 two

pub castles-no-pawn : (board : Places) (c : Colour) (rights : Castle → Bool) (m : Move) (o : Option Castle) → castling board m ≡ o → is_a Pawn (at board m.from) ≡ true → castles_as board c rights o ≡ true → ⊥
castles-no-pawn board c rights m None e pawn h = both_ways false refl h
castles-no-pawn board c rights m (Some x) e pawn h = both_ways _ (another_kind King Pawn (at board m.from) pawn) (castle-ends board m x e).king

last_from : (o : Option Move) (g : List Move) (m : Move) → last_or o (g ++ m ∷ []) ≡ Some m
last_from o [] m = refl
last_from o (l ∷ g) m = last_from (Some l) g m

-- a pawn's move of two ranks is a double step, by the cases of a legal move
double-manner : (board : Places) (c : Colour) (rights : Castle → Bool) (last : Option Move) (m : Move) → is_a Pawn (at board m.from) ≡ true → (ranks_apart m.from m.to == 2) ≡ true → Manner board c rights last m → pawn_doubles board c m ≡ true
unfolding man_moves pawn_steps pawn_captures pawn_captures_en_passant king_castles
double-manner board c rights last m pawn two (moves h) = absurd (both_ways _ (not-true _ (and_parts _ _ h).0) pawn)
double-manner board c rights last m pawn two (steps h) = one_not_two c m.from m.to (and_parts _ _ (and_parts _ _ (and_parts _ _ h).0).0).1 two
double-manner board c rights last m pawn two (doubles h) = h
double-manner board c rights last m pawn two (takes h) = one_not_two c m.from m.to (and_parts _ _ (and_parts _ _ (and_parts _ _ h).0).0).1 two
double-manner board c rights last m pawn two (passes h) = en_passant-no-double board c last m (double_of m c) refl two (and_parts _ _ h).1
double-manner board c rights last m pawn two (castles h) = absurd (castles-no-pawn board c rights m (castling board m) refl pawn h)

-- what a double step says of its squares
pub record Doubles (board : Places) (c : Colour) (m : Move) : Type 0 where
  pub pawn : is_a Pawn (at board m.from) ≡ true
  pub home : rank m.from ≡ pawn_rank c
  pub file_is : file m.from ≡ file m.to
  pub apart : ranks_apart m.from m.to ≡ 2

pub double-parts : (board : Places) (c : Colour) (m : Move) → pawn_doubles board c m ≡ true → Doubles board c m
unfolding pawn_doubles
double-parts board c m h =
    let p4 = and_parts _ _ (and_parts _ _ (and_parts _ _ h).0).0 in
    let p3 = and_parts _ _ p4.0 in
    let p2 = and_parts _ _ p3.0 in
    record { pawn = p2.0; home = eqb-true (rank m.from) (pawn_rank c) p2.1; file_is = eqb-true _ _ p3.1; apart = eqb-true (ranks_apart m.from m.to) 2 p4.1 }

pub double-promo : (board : Places) (c : Colour) (m : Move) → promotion_fits board c m ≡ true → Doubles board c m → m.promo ≡ None
unfolding promotion_fits
double-promo board c m fits double = double_no_promo board c m m.promo double.home double.apart fits

-- a man who is a pawn at the end of his move was one before it
still_pawn : (promo : Option Kind) (place : Option Man) (reaches : Bool) → elim promo as (λ _. Bool) [ None ↦ not (is_a Pawn place && reaches) | Some k ↦ is_a Pawn place && reaches && is_officer k ] ≡ true → is_a Pawn (promoted promo place) ≡ true → is_a Pawn place ≡ true
still_pawn None place reaches h pawn = pawn
still_pawn (Some k) None reaches h pawn = pawn
still_pawn (Some k) (Some m) reaches h pawn = absurd (both_ways _ (no_officer Pawn k refl (and_parts _ _ h).1) pawn)

target-plain : (board : Places) (m : Move) → m.to < length board → is_a Pawn (at (carry board m.from m.to m.promo) m.to) ≡ true → is_a Pawn (promoted m.promo (at board m.from)) ≡ true
target-plain board m inside pawn =
    let t : m.to < length (set board m.from None) = omega (arith, length-set board m.from None) in
    ap (is_a Pawn) (sym (get_or-set_same (set board m.from None) m.to (promoted m.promo (at board m.from)) None t)) ∙ pawn

target-pawn : (board : Places) (m : Move) (b : Bool) → m.to < length board → is_a Pawn (at (cond b (set (carry board m.from m.to m.promo) (en_passant_victim m) None) (carry board m.from m.to m.promo)) m.to) ≡ true → is_a Pawn (promoted m.promo (at board m.from)) ≡ true
target-pawn board m false inside pawn = target-plain board m inside pawn
target-pawn board m true inside pawn = elim (cases_eq m.to (en_passant_victim m)) [
  | inl same ↦
      let len : en_passant_victim m < length (carry board m.from m.to m.promo) = rw (length-carry board m.from m.to m.promo) (rw (← same) inside) in
      let gone : is_a Pawn (at (set (carry board m.from m.to m.promo) (en_passant_victim m) None) m.to) ≡ false =
      ap (λ (k : ℕ). is_a Pawn (at (set (carry board m.from m.to m.promo) (en_passant_victim m) None) k)) same ∙ ap (is_a Pawn) (get_or-set_same (carry board m.from m.to m.promo) (en_passant_victim m) None None len) in
      absurd (both_ways _ gone pawn)
  | inr other ↦ target-plain board m inside (ap (is_a Pawn) (sym (get_or-set_other (carry board m.from m.to m.promo) (en_passant_victim m) m.to None None other)) ∙ pawn)
]

-- the move left a pawn on its target, two ranks from its origin
abbrev pub LeftDouble : Places → Move → Type 0
LeftDouble after m = (is_a Pawn (at after m.to) && (ranks_apart m.from m.to == 2)) ≡ true

-- then it was a double step
double-played : (board : Places) (c : Colour) (rights : Castle → Bool) (last : Option Move) (m : Move) (o : Option Castle) → castling board m ≡ o → length board ≡ 64 → Legality board c rights last m → LeftDouble (played_as board m o) m → pawn_doubles board c m ≡ true
unfolding promotion_fits
double-played board c rights last m None e len l h =
    let parts = and_parts _ _ h in
    let inside : m.to < length board = let small : m.to < 64 = l.on_board in omega arith in
    let pawn = still_pawn m.promo (at board m.from) _ l.promotion (target-pawn board m (goes_en_passant board m) inside parts.0) in
    double-manner board c rights last m pawn parts.1 l.manner
double-played board c rights last m (Some x) e len l h =
    let ends = castle-ends board m x e in
    let flat : (ranks_apart m.from m.to == 2) ≡ false =
    ap (λ (n : ℕ). ranks_apart n m.to == 2) (sym ends.from) ∙ ap (λ (n : ℕ). ranks_apart (king_home x) n == 2) (sym ends.to) ∙ castle-one-rank x in
    absurd (both_ways _ flat (and_parts _ _ h).1)

fits-played : (board : Places) (c : Colour) (rights : Castle → Bool) (last : Option Move) (m : Move) (o : Option Castle) → castling board m ≡ o → length board ≡ 64 → Legality board c rights last m → FitsLast (played_as board m o) (opponent c) m
fits-played board c rights last m o e len l h =
    let double = double-parts board c m (double-played board c rights last m o e len l h) in
    double_fits c m l.on_board double.home double.file_is double.apart (double-promo board c m l.promotion double)

-- a double step leaves its pawn on the target
double-left : (board : Places) (c : Colour) (m : Move) (o : Option Castle) (promo : Option Kind) → castling board m ≡ o → m.to < length board → promo ≡ None → Doubles board c m → is_a Pawn (at (moved (promoted promo) m o (goes_en_passant board m) board) m.to) ≡ true
double-left board c m (Some x) promo e inside none double = absurd (both_ways _ (another_kind King Pawn (at board m.from) double.pawn) (castle-ends board m x e).king)
double-left board c m None promo e inside none double =
    let straight : goes_en_passant board m ≡ false = and_left _ _ (and_right _ _ (ap not (eq-eqb _ _ double.file_is))) in
    let t : m.to < length (set board m.from None) = omega (arith, length-set board m.from None) in
    ap (λ (after : Places). is_a Pawn (at after m.to)) (cond-false _ (set (carry board m.from m.to promo) (en_passant_victim m) None) (carry board m.from m.to promo) straight)
    ∙ ap (is_a Pawn) (get_or-set_same (set board m.from None) m.to (promoted promo (at board m.from)) None t)
    ∙ ap (λ (p : Option Kind). is_a Pawn (promoted p (at board m.from))) none
    ∙ double.pawn

-- the square that a double step crosses, seen by either side
crossing-same : (c : Colour) (m : Move) → m.to < 64 → rank m.from ≡ pawn_rank c → file m.from ≡ file m.to → ranks_apart m.from m.to ≡ 2 → ahead c m.from ≡ ahead (opponent c) m.to
unfolding distance
crossing-same White m small home same two = omega arith
crossing-same Black m small home same two = omega arith

-- a legal move crosses a square exactly where it is a double step
pub crossing-played : (board : Places) (c : Colour) (rights : Castle → Bool) (last : Option Move) (m : Move) → length board ≡ 64 → legal_on board c rights last m ≡ true → double_crossing board c m ≡ crossed_by (play board m) (opponent c) (Some m)
unfolding play
crossing-played board c rights last m len legal =
    let l = legality board c rights last m legal in
    elim (cases_Bool (pawn_doubles board c m)) [
      | inl doubled ↦
          let double = double-parts board c m doubled in
          let inside : m.to < length board = let small : m.to < 64 = l.on_board in omega arith in
          let left : LeftDouble (played_as board m (castling board m)) m = and_from _ _ (double-left board c m (castling board m) m.promo refl inside (double-promo board c m l.promotion double) double) (eq-eqb _ 2 double.apart) in
          cond-true _ (Some (ahead c m.from)) None doubled ∙ ap Some (crossing-same c m l.on_board double.home double.file_is double.apart) ∙ sym (cond-true _ (Some (ahead (opponent c) m.to)) None left)
      | inr other ↦
          let left = false_from_ne_true _ (λ h. both_ways _ other (double-played board c rights last m (castling board m) refl len l h)) in
          cond-false _ (Some (ahead c m.from)) None other ∙ sym (cond-false _ (Some (ahead (opponent c) m.to)) None left)
    ]

pub last_move-more : (g : List Move) (m : Move) → last_move (g ++ m ∷ []) ≡ Some m
last_move-more g m = last_from None g m

odd_next : (n : ℕ) → n % 2 ≡ 0 → (n + 1) % 2 ≡ 0 → ⊥
odd_next n e z = omega arith

even_next : (n : ℕ) → (n % 2 ≡ 0 → ⊥) → (n + 1) % 2 ≡ 0
even_next n e = omega arith

turn-more : (n : ℕ) → cond ((n + 1) % 2 == 0) White Black ≡ opponent (cond (n % 2 == 0) White Black)
turn-more n = elim (cases_Bool (n % 2 == 0)) [
  | inl even ↦
      let e : n % 2 ≡ 0 = eqb-true _ 0 even in
      cond-false _ White Black (ne_eqb ((n + 1) % 2) 0 (λ z. odd_next n e z)) ∙ sym (ap opponent (cond-true _ White Black even))
  | inr odd ↦
      let e : n % 2 ≡ 0 → ⊥ = eqb-false _ 0 odd in
      cond-true _ White Black (eq-eqb _ 0 (even_next n e)) ∙ sym (ap opponent (cond-false _ White Black odd))
]

pub turn_after-more : (g : List Move) (m : Move) → turn_after (g ++ m ∷ []) ≡ opponent (turn_after g)
turn_after-more g m = ap (λ (n : ℕ). cond (n % 2 == 0) White Black) (length-append g (m ∷ [])) ∙ turn-more (length g)

-- the last move of a game fits the board that it left
last-fits : (o : List Bool) (g : List Move) → IsGame o g → (l : Move) → last_move g ≡ Some l → FitsLast (board_after o g) (turn_after g) l
unfolding play
last-fits o = in_every_game o (λ g. (l : Move) → last_move g ≡ Some l → FitsLast (board_after o g) (turn_after g) l) (λ l e. cc) (λ g m game legal before l e.
    let same : m ≡ l = same_Some _ _ (sym (last_move-more g m) ∙ e) in
    let here : FitsLast (play (board_after o g) m) (opponent (turn_after g)) m = fits-played (board_after o g) (turn_after g) _ _ m _ refl (length-after o g game) (legality _ _ _ _ _ legal) in
    subst (FitsLast (board_after o (g ++ m ∷ [])) (turn_after (g ++ m ∷ []))) same (rw (board_after-more o g m, turn_after-more g m) here))

-- a capture en passant after a game is judged by the square that its last move crossed
pub en_passant-in-game : (o : List Bool) (g : List Move) → IsGame o g → (m : Move) → pawn_captures_en_passant (board_after o g) (turn_after g) (step_over (crossed_by (board_after o g) (turn_after g) (last_move g)) (turn_after g)) m ≡ pawn_captures_en_passant (board_after o g) (turn_after g) (last_move g) m
en_passant-in-game o g game m = en_passant-same (board_after o g) (turn_after g) (last_move g) m (last-fits o g game)
