-- Each legal move keeps the number of kings.
use Rattle.std.proofs.Common.{◌≡◌, ℕ, ◌<◌, ◌≢◌, Bool, true, false, cond, ◌&&◌, not, ◌==◌, inl, inr, List, [], ◌∷◌, length, set, get_or, refl, ap, sym, ◌∙◌, subst, arith}
use Rattle.std.proofs.lemmas.Bool.{and_parts, and_right, not-true, eqb-true, cases_eq, cases_lt, cases_Bool, cond-true, cond-false, both_ways, false_from_ne_true, and_from}
use Rattle.std.proofs.lemmas.Option.{same_Some}
use Rattle.std.proofs.lemmas.List.{length-set, get_or-set_same, get_or-set_other, get_or_past, set_past}
use Rattle.std.proofs.lemmas.List.Sums.{sum_by-set}
use Rattle.std.specs.Prelude.{Option, Some, None}
use Rattle.std.specs.List.{count_by, find, list_all, range_with_len}
use Rattle.general_lemmas.proofs.Ranges.{all_in_range}
use Rattle.board_base.proofs.Without.{length-array, count-without}
use Rattle.board_base.specs.Board.{Places, initial_array, array_of, AreOdds, is_in, may_lack, at, is_of, is_a, is_the, is_empty, opponent, file}
use Rattle.board_base.specs.Play.{play, promoted, castling, castling_from, all_castles, goes_en_passant, en_passant_victim, double_of, king_home, king_target, rook_home, crossed}
use Rattle.board_base.specs.Carry.{carry}
use Rattle.board_base.specs.Legal.{promotion_fits, is_officer, is_move, man_moves, pawn_steps, pawn_doubles, pawn_captures, pawn_captures_en_passant, king_castles, may_castle}
use Rattle.board_base.specs.Parts.{played_as, castles_as}
use Rattle.board_base.specs.Attacks.{kind_attacks, attacks_from, king_distance}
use Rattle.play_rules.proofs.Legality.{Manner, moves, steps, doubles, takes, passes, castles, Legality, legality}
use Rattle.board_base.specs.declared.men.Colour.TheVariants.{White, Black}
use Rattle.board_base.specs.declared.men.Man.{Man}
use Rattle.board_base.specs.declared.men.Colour.{Colour}
use Rattle.board_base.specs.declared.men.Kind.{Kind}
use Rattle.board_base.specs.declared.men.Kind.TheVariants.{Pawn, King}
use Rattle.board_base.specs.declared.moves.Move.{Move}
use Rattle.board_base.specs.declared.castles.Castle.{Castle}
use Rattle.board_base.specs.Game.{IsGame, board_after}
pub use Rattle.board_base.proofs.Passing.{double-en_passant_victim}
use Rattle.board_base.proofs.KindsOfMen.{another_kind, kind_is, no_officer}
use Rattle.board_base.proofs.CastleSquares.{castle-two, crossed-empty, crossed-not-home, crossed-not-target, crossed-within, rook_home-within}
use Rattle.play_rules.specs.Kings.{HasOneKingEach, kings}
use Rattle.play_rules.proofs.Games.{in_every_game, board_after-more}

-- a place that doesn't pass the test still doesn't after a write that doesn't
fails-set : (p : Option Man → Bool) (board : Places) (i j : ℕ) (v : Option Man) → i < length board → p v ≡ false → p (at board j) ≡ false → p (at (set board i v) j) ≡ false
fails-set p board i j v inside new old = elim (cases_eq j i) [
  | inl same ↦ ap p (ap (λ (k : ℕ). get_or (set board i v) k None) same ∙ get_or-set_same board i v None inside) ∙ new
  | inr other ↦ ap p (get_or-set_other board i j v None other) ∙ old
]

-- a man who goes to a place that doesn't pass the test, and passes it there as he did before, keeps the count
carry-count : (p : Option Man → Bool) (board : Places) (from to : ℕ) (promo : Option Kind) → from < length board → to < length board → p None ≡ false → p (at board to) ≡ false → p (promoted promo (at board from)) ≡ p (at board from) → count_by p (carry board from to promo) ≡ count_by p board
carry-count p board from to promo f t none there same =
    let n : Option Man → ℕ = λ x. cond (p x) 1 0 in
    let cleared : Places = set board from None in
    let left = sum_by-set n board from None None f in
    let t' : to < length cleared = omega (arith, length-set board from None) in
    let came = sum_by-set n cleared to (promoted promo (at board from)) None t' in
    let e1 : n None ≡ 0 = ap (λ (x : Bool). cond x 1 0) none in
    let e2 : n (at cleared to) ≡ 0 = ap (λ (x : Bool). cond x 1 0) (fails-set p board from to None f none there) in
    let e3 : n (promoted promo (at board from)) ≡ n (at board from) = ap (λ (x : Bool). cond x 1 0) same in
    omega (arith, left, came, e1, e2, e3)

-- a promotion makes no king of a man that was none
promotion-king : (k : Colour) (promo : Option Kind) (place : Option Man) → (reaches : Bool) → elim promo as (λ _. Bool) [ None ↦ not (is_a Pawn place && reaches) | Some j ↦ is_a Pawn place && reaches && is_officer j ] ≡ true → is_the k King (promoted promo place) ≡ is_the k King place
promotion-king k None place reaches h = refl
promotion-king k (Some j) None reaches h = refl
promotion-king k (Some j) (Some m) reaches h =
    let parts = and_parts _ _ h in
    let pawn = and_parts _ _ parts.0 in
    and_right _ _ (no_officer King j refl parts.1) ∙ sym (and_right _ _ (another_kind King Pawn (Some m) pawn.0))

-- a place that passes a test that empty places don't pass is on the board
pub within : (p : Option Man → Bool) (board : Places) (i : ℕ) → p None ≡ false → p (at board i) ≡ true → i < length board
within p board i none h = elim (cases_lt i (length board)) [
  | inl inside ↦ inside
  | inr past ↦ let e = ap p (get_or_past board i None past) in cc
]

pub empty-not : (p : Option Man → Bool) (place : Option Man) → p None ≡ false → is_empty place ≡ true → p place ≡ false
empty-not p None none h = none
empty-not p (Some m) none h = cc

not_both : {A : Type 0} (b : Bool) → b ≡ true → b ≡ false → A
not_both b t f = cc

-- what a capture en passant takes is no king
en_passant_victim-from : (board : Places) (c : Colour) (last : Option Move) (m : Move) (o : Option Move) → double_of m c ≡ o → elim o as (λ _. Bool) [ None ↦ false | Some d ↦ is_move last d && is_the (opponent c) Pawn (at board d.to) ] ≡ true → is_a King (at board (en_passant_victim m)) ≡ false
en_passant_victim-from board c last m None e h = cc
en_passant_victim-from board c last m (Some d) e h =
    let pawn = and_parts _ _ (and_parts _ _ h).1 in
    rw (← double-en_passant_victim m d c e) (another_kind King Pawn _ pawn.1)

en_passant_victim-no_king : (board : Places) (c : Colour) (rights : Castle → Bool) (last : Option Move) (m : Move) → castling board m ≡ None → goes_en_passant board m ≡ true → Manner board c rights last m → is_a King (at board (en_passant_victim m)) ≡ false
unfolding man_moves pawn_steps pawn_doubles pawn_captures pawn_captures_en_passant king_castles
en_passant_victim-no_king board c rights last m none t (moves h) =
    not_both (is_a Pawn (at board m.from)) (and_parts _ _ (and_parts _ _ t).0).0 (not-true _ (and_parts _ _ h).0)
en_passant_victim-no_king board c rights last m none t (steps h) =
    not_both (file m.from == file m.to) (and_parts _ _ (and_parts _ _ h).0).1 (not-true _ (and_parts _ _ (and_parts _ _ t).0).1)
en_passant_victim-no_king board c rights last m none t (doubles h) =
    not_both (file m.from == file m.to) (and_parts _ _ (and_parts _ _ (and_parts _ _ (and_parts _ _ h).0).0).0).1 (not-true _ (and_parts _ _ (and_parts _ _ t).0).1)
en_passant_victim-no_king board c rights last m none t (takes h) =
    not_both (is_of (opponent c) (at board m.to)) (and_parts _ _ h).1 (empty-not (is_of (opponent c)) _ refl (and_parts _ _ t).1)
en_passant_victim-no_king board c rights last m none t (passes h) = en_passant_victim-from board c last m _ refl (and_parts _ _ h).1
en_passant_victim-no_king board c rights last m none t (castles h) =
    let P : Option Castle → Type 0 = λ o. castles_as board c rights o ≡ true in
    let never : false ≡ true = subst P none h in
    cc

-- a king's move of two squares is no ordinary move of a king
king-steps : (board : Places) (place : Option Man) (s t : ℕ) → is_a King place ≡ true → elim place as (λ _. Bool) [ None ↦ false | Some m ↦ kind_attacks board m.colour m.kind s t ] ≡ true → (king_distance s t == 1) ≡ true
unfolding kind_attacks
king-steps board None s t k h = cc
king-steps board (Some m) s t k h = subst (λ (j : Kind). kind_attacks board m.colour j s t ≡ true) (sym (kind_is King m.kind k)) h

pub find-passes : {A : Type 0} (p : A → Bool) (xs : List A) (y : A) → find p xs ≡ Some y → p y ≡ true
find-passes {A} p [] y e = cc
find-passes {A} p (x ∷ xs) y e = elim (cases_Bool (p x)) [
  | inl pass ↦ let here : x ≡ y = same_Some _ _ (sym (cond-true (p x) (Some x) (find p xs) pass) ∙ e) in subst (λ (z : A). p z ≡ true) here pass
  | inr fail ↦ find-passes p xs y (sym (cond-false (p x) (Some x) (find p xs) fail) ∙ e)
]

pub record Ends (m : Move) (x : Castle) (board : Places) : Type 0 where
  pub from : king_home x ≡ m.from
  pub to : king_target x ≡ m.to
  pub king : is_a King (at board m.from) ≡ true

pub castle-ends : (board : Places) (m : Move) (x : Castle) → castling board m ≡ Some x → Ends m x board
castle-ends board m x e = elim (cases_Bool (is_a King (at board m.from))) [
  | inl pass ↦
      let found = sym (cond-true _ (castling_from m.from m.to) None pass) ∙ e in
      let parts = and_parts _ _ (find-passes (λ y. (king_home y == m.from) && (king_target y == m.to)) all_castles x found) in
      record { from = eqb-true _ _ parts.0; to = eqb-true _ _ parts.1; king = pass }
  | inr fail ↦ let never : None ≡ Some x = sym (cond-false _ (castling_from m.from m.to) None fail) ∙ e in cc
]

-- a king who goes two squares castles
pub two-castles : (board : Places) (c : Colour) (rights : Castle → Bool) (last : Option Move) (m : Move) (x : Castle) → castling board m ≡ Some x → Manner board c rights last m → may_castle board c rights x ≡ true
unfolding man_moves attacks_from pawn_steps pawn_doubles pawn_captures pawn_captures_en_passant king_castles
two-castles board c rights last m x e (moves h) =
    let ends = castle-ends board m x e in
    let one = king-steps board (at board m.from) m.from m.to ends.king (and_parts _ _ h).1 in
    let two : (king_distance m.from m.to == 1) ≡ false = subst (λ (n : ℕ). (king_distance n m.to == 1) ≡ false) ends.from (subst (λ (n : ℕ). (king_distance (king_home x) n == 1) ≡ false) ends.to (castle-two x)) in
    not_both _ one two
two-castles board c rights last m x e (steps h) =
    not_both _ (castle-ends board m x e).king (another_kind King Pawn _ (and_parts _ _ (and_parts _ _ (and_parts _ _ h).0).0).0)
two-castles board c rights last m x e (doubles h) =
    not_both _ (castle-ends board m x e).king (another_kind King Pawn _ (and_parts _ _ (and_parts _ _ (and_parts _ _ (and_parts _ _ (and_parts _ _ h).0).0).0).0).0)
two-castles board c rights last m x e (takes h) =
    not_both _ (castle-ends board m x e).king (another_kind King Pawn _ (and_parts _ _ (and_parts _ _ (and_parts _ _ h).0).0).0)
two-castles board c rights last m x e (passes h) =
    not_both _ (castle-ends board m x e).king (another_kind King Pawn _ (and_parts _ _ (and_parts _ _ h).0).0)
two-castles board c rights last m x e (castles h) = subst (λ (o : Option Castle). castles_as board c rights o ≡ true) e h

-- a write that leaves the answer of the test keeps the count
same-count : (p : Option Man → Bool) (board : Places) (i : ℕ) (v : Option Man) → p (at board i) ≡ false → p v ≡ false → count_by p (set board i v) ≡ count_by p board
same-count p board i v old new = elim (cases_lt i (length board)) [
  | inl inside ↦
      let n : Option Man → ℕ = λ x. cond (p x) 1 0 in
      let e1 : n (at board i) ≡ 0 = ap (λ (x : Bool). cond x 1 0) old in
      let e2 : n v ≡ 0 = ap (λ (x : Bool). cond x 1 0) new in
      omega (arith, sum_by-set n board i v None inside, e1, e2)
  | inr past ↦ ap (count_by p) (set_past board i v past)
]

-- a place that is empty or has no king is none of a king's
no_king-the : (k : Colour) (place : Option Man) → is_a King place ≡ false → is_the k King place ≡ false
no_king-the k place h = and_right _ _ h

-- castling keeps the kings
castle-kings : (k c : Colour) (board : Places) (rights : Castle → Bool) (m : Move) (x : Castle) → length board ≡ 64 → m.from < 64 → m.to < 64 → is_a King (at board m.to) ≡ false → Ends m x board → may_castle board c rights x ≡ true → kings k (carry (carry board m.from m.to None) (rook_home x) (crossed x) None) ≡ kings k board
castle-kings k c board rights m x len f t no_king ends may =
    let moved : Places = carry board m.from m.to None in
    let cleared : Places = set board m.from None in
    let moved_len : length moved ≡ 64 = length-set cleared m.to (at board m.from) ∙ length-set board m.from None ∙ len in
    let p4 = and_parts _ _ (and_parts _ _ (and_parts _ _ (and_parts _ _ may).0).0).0 in
    let open_way = p4.1 in
    let ne_from : crossed x ≢ m.from = λ e. crossed-not-home x (e ∙ sym ends.from) in
    let ne_to : crossed x ≢ m.to = λ e. crossed-not-target x (e ∙ sym ends.to) in
    let stays : at moved (crossed x) ≡ at board (crossed x) = get_or-set_other cleared m.to (crossed x) (at board m.from) None ne_to ∙ get_or-set_other board m.from (crossed x) None None ne_from in
    let quiet : is_the k King (at moved (crossed x)) ≡ false = ap (is_the k King) stays ∙ empty-not (is_the k King) _ refl (crossed-empty board x open_way) in
    let rook_in : rook_home x < length moved = rw moved_len (rook_home-within x) in
    let crossed_in : crossed x < length moved = rw moved_len (crossed-within x) in
    let f' : m.from < length board = omega arith in
    let t' : m.to < length board = omega arith in
    carry-count (is_the k King) moved (rook_home x) (crossed x) None rook_in crossed_in refl quiet refl ∙ carry-count (is_the k King) board m.from m.to None f' t' refl (no_king-the k _ no_king) refl

-- what stays of the kings where the move is no castling
plain-kings : (k : Colour) (board : Places) (m : Move) (b : Bool) → length board ≡ 64 → m.from < 64 → m.to < 64 → is_a King (at board m.to) ≡ false → is_the k King (promoted m.promo (at board m.from)) ≡ is_the k King (at board m.from) → (b ≡ true → (is_a King (at board (en_passant_victim m)) ≡ false) × (is_a King (at board m.from) ≡ false)) → kings k (cond b (set (carry board m.from m.to m.promo) (en_passant_victim m) None) (carry board m.from m.to m.promo)) ≡ kings k board
plain-kings k board m false len f t no_king same taken =
    let f' : m.from < length board = omega arith in
    let t' : m.to < length board = omega arith in
    carry-count (is_the k King) board m.from m.to m.promo f' t' refl (no_king-the k _ no_king) same
plain-kings k board m true len f t no_king same taken =
    let f' : m.from < length board = omega arith in
    let t' : m.to < length board = omega arith in
    let cleared : Places = set board m.from None in
    let c_len : length cleared ≡ 64 = length-set board m.from None ∙ len in
    let t'' : m.to < length cleared = omega arith in
    let quiet_from : is_the k King (promoted m.promo (at board m.from)) ≡ false = same ∙ no_king-the k _ (taken refl).1 in
    let quiet : is_the k King (at (carry board m.from m.to m.promo) (en_passant_victim m)) ≡ false =
    fails-set (is_the k King) cleared m.to (en_passant_victim m) _ t'' quiet_from (fails-set (is_the k King) board m.from (en_passant_victim m) None f' refl (no_king-the k _ (taken refl).0)) in
    same-count (is_the k King) (carry board m.from m.to m.promo) (en_passant_victim m) None quiet refl ∙ carry-count (is_the k King) board m.from m.to m.promo f' t' refl (no_king-the k _ no_king) same

-- a legal move keeps the number of kings of each colour
kings-after : (k c : Colour) (board : Places) (rights : Castle → Bool) (last : Option Move) (m : Move) (o : Option Castle) → castling board m ≡ o → length board ≡ 64 → Legality board c rights last m → kings k (played_as board m o) ≡ kings k board
unfolding promotion_fits
kings-after k c board rights last m (Some x) e len l =
    let f : m.from < 64 = rw (← len) (within (is_of c) board m.from refl l.mover) in
    castle-kings k c board rights m x len f l.on_board l.no_king (castle-ends board m x e) (two-castles board c rights last m x e l.manner)
kings-after k c board rights last m None e len l =
    let f : m.from < 64 = rw (← len) (within (is_of c) board m.from refl l.mover) in
    plain-kings k board m (goes_en_passant board m) len f l.on_board l.no_king (promotion-king k m.promo (at board m.from) _ l.promotion) (λ t. (en_passant_victim-no_king board c rights last m e t l.manner, another_kind King Pawn _ (and_parts _ _ (and_parts _ _ t).0).0))

pub length-carry : (board : Places) (from to : ℕ) (promo : Option Kind) → length (carry board from to promo) ≡ length board
length-carry board from to promo = length-set (set board from None) to _ ∙ length-set board from None

pub length-played : (board : Places) (m : Move) (o : Option Castle) → length (played_as board m o) ≡ length board
length-played board m (Some x) = length-carry _ (rook_home x) (crossed x) None ∙ length-carry board m.from m.to None
length-played board m None = elim (goes_en_passant board m) as (λ b. length (cond b (set (carry board m.from m.to m.promo) (en_passant_victim m) None) (carry board m.from m.to m.promo)) ≡ length board) [
  | true ↦ length-set _ (en_passant_victim m) None ∙ length-carry board m.from m.to m.promo
  | false ↦ length-carry board m.from m.to m.promo
]

first-kings : (c : Colour) → kings c initial_array ≡ 1
unfolding initial_array
first-kings White = refl
first-kings Black = refl

-- a board after a game has 64 places
pub length-after : (o : List Bool) (g : List Move) → IsGame o g → length (board_after o g) ≡ 64
unfolding play
length-after o = in_every_game o (λ g. length (board_after o g) ≡ 64) (length-array o) (λ g m game legal before. ap length (board_after-more o g m) ∙ length-played (board_after o g) m _ ∙ before)

-- the first kings stand where no man may be left out
king-kept : (c : Colour) → list_all (λ s. not (may_lack s && is_the c King (at initial_array s))) (range_with_len 0 64) ≡ true
unfolding initial_array
king-kept White = refl
king-kept Black = refl

no-king-lacks : (o : List Bool) → AreOdds o → (c : Colour) (s : ℕ) → is_in o s ≡ true → is_the c King (at initial_array s) ≡ false
no-king-lacks o odds c s out = elim (cases_lt s 64) [
  | inl inside ↦ false_from_ne_true _ (λ king. both_ways _ (not-true _ (all_in_range (λ s. not (may_lack s && is_the c King (at initial_array s))) 0 64 s (king-kept c) (omega arith) (omega arith))) (and_from _ _ (odds.only_homes s out) king))
  | inr past ↦ absurd (both_ways _ (ap (λ (p : Bool). p) (get_or_past o s false (omega (arith, odds.size)))) out)
]

array-kings : (o : List Bool) → AreOdds o → (c : Colour) → kings c (array_of o) ≡ 1
unfolding array_of
array-kings o odds c = count-without (is_the c King) o initial_array refl (no-king-lacks o odds c) ∙ first-kings c

pub one_king_each : (o : List Bool) (g : List Move) → AreOdds o → IsGame o g → HasOneKingEach (board_after o g)
unfolding play
one_king_each o g odds = in_every_game o (λ h. HasOneKingEach (board_after o h)) (array-kings o odds) (λ h m game legal before.
    rw (board_after-more o h m) (λ c. kings-after c _ (board_after o h) _ _ m _ refl (length-after o h game) (legality _ _ _ _ _ legal) ∙ before c)) g
