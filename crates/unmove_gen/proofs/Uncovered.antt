-- A check from near isn't uncovered: the man who gives it has just come.
use Rattle.std.proofs.Common.{◌≡◌, ◌≢◌, ℕ, ◌<◌, ◌==◌, ◌⊎◌, Bool, true, false, cond, ◌&&◌, ◌||◌, not, List, length, set, inl, inr, refl, ap, sym, ◌∙◌, subst, arith}
use Rattle.std.proofs.lemmas.Bool.{and_parts, and_from, both_ways, cases_eq, cases_lt, eq-eqb, eqb-true, eqb-false, not-true, or_cases}
use Rattle.std.proofs.lemmas.List.{get_or-set_same, get_or-set_other, length-set, set_past}
use Rattle.std.proofs.lemmas.Option.{same_Some}
use Rattle.std.specs.Prelude.{Option, Some, None}
use Rattle.std.specs.List.{list_all, range_with_len}
use Rattle.board_base.specs.Board.{Places, at, is_empty, is_in, is_of, is_the, opponent}
use Rattle.board_base.specs.Attacks.{attacks, attacks_from, distance, kind_attacks, king_distance}
use Rattle.board_base.specs.Carry.{carry}
use Rattle.board_base.specs.Play.{castling, crossed, en_passant_victim, goes_en_passant, king_home, king_target, play, promoted, rook_home}
use Rattle.board_base.specs.Parts.{played_as}
use Rattle.board_base.specs.Legal.{in_check, may_castle}
use Rattle.board_base.specs.declared.men.Man.{Man}
use Rattle.board_base.specs.declared.men.Colour.{Colour}
use Rattle.board_base.specs.declared.men.Kind.{Kind}
use Rattle.board_base.specs.declared.men.Kind.TheVariants.{Pawn, Knight, Bishop, Rook, Queen, King}
use Rattle.board_base.specs.declared.moves.Move.{Move}
use Rattle.board_base.specs.declared.castles.Castle.{Castle}
use Rattle.board_base.specs.declared.castles.Castle.TheVariants.{WhiteShort, WhiteLong, BlackShort, BlackLong}
use Rattle.board_base.specs.declared.unmoves.Unmove.{Unmove}
use Rattle.board_base.proofs.CastleSquares.{crossed-within, king_home-within, king_target-within, rook_home-not-home, rook_home-not-target}
use Rattle.board_base.proofs.KindsOfMen.{full-of, kind_is, opponent-twice}
use Rattle.general_lemmas.proofs.Ranges.{all_in_range, any-found, any-one}
use Rattle.check_origins.specs.Near.{AreArrivals, checks_nearby, is_near, is_near_checker}
use Rattle.check_origins.proofs.Found.{checks}
use Rattle.board_base.proofs.Hits.{hit-attacks}
use Rattle.board_base.proofs.Ways.{near-open}
use Rattle.play_rules.proofs.Kings.{castle-ends, length-carry, two-castles}
use Rattle.play_rules.proofs.Legality.{Legality}
use Rattle.query_base.specs.Asked.{Asked}
use Rattle.unmove_gen.specs.Listed.{answered, before, every_right, is_listed, mover}
use Rattle.unmove_gen.specs.Sane.{is_sane}
use Rattle.unmove_gen.proofs.Castlings.{castle-there}
use Rattle.unmove_gen.proofs.Members.{length-back}
use Rattle.unmove_gen.proofs.Parts.{Parts, legality_of, listed-sane, parts}
use Rattle.unmove_gen.proofs.PlainListed.{other-colour}

-- a square after another was emptied
at-cleared : (board : Places) (i s : ℕ) → (at (set board i None) s ≡ None) ⊎ (at (set board i None) s ≡ at board s)
at-cleared board i s = elim (cases_eq s i) [
  | inl same ↦ elim (cases_lt i (length board)) [
    | inl inside ↦ inl (ap (at (set board i None)) same ∙ get_or-set_same board i None None inside)
    | inr past ↦ inr (ap (λ (b : Places). at b s) (set_past board i None past))
  ]
  | inr other ↦ inr (get_or-set_other board i s None None other)
]

-- what stands on a square has stood there, or is gone
Stays : Places → Places → ℕ → Type 0
Stays after board s = (at after s ≡ None) ⊎ (at after s ≡ at board s)

carry-stays : (board : Places) (from to : ℕ) (promo : Option Kind) (s : ℕ) → s ≢ to → Stays (carry board from to promo) board s
unfolding Stays
carry-stays board from to promo s apart =
    let e : at (carry board from to promo) s ≡ at (set board from None) s = get_or-set_other (set board from None) to s (promoted promo (at board from)) None apart in
    elim (at-cleared board from s) [ inl gone ↦ inl (e ∙ gone) | inr same ↦ inr (e ∙ same) ]

stays-more : (a b board : Places) (s : ℕ) → Stays a b s → Stays b board s → Stays a board s
unfolding Stays
stays-more a b board s (inl gone) next = inl gone
stays-more a b board s (inr same) next = elim next [ inl gone ↦ inl (same ∙ gone) | inr e ↦ inr (same ∙ e) ]

cleared-stays : (board : Places) (i s : ℕ) → Stays (set board i None) board s
unfolding Stays
cleared-stays board i s = at-cleared board i s

played-stays : (board : Places) (m : Move) (o : Option Castle) (s : ℕ) → s ≢ m.to → ((x : Castle) → o ≡ Some x → s ≢ crossed x) → Stays (played_as board m o) board s
played-stays board m None s apart over =
    let first = carry-stays board m.from m.to m.promo s apart in
    elim (goes_en_passant board m) as (λ g. Stays (cond g (set (carry board m.from m.to m.promo) (en_passant_victim m) None) (carry board m.from m.to m.promo)) board s) [
      | true ↦ stays-more _ (carry board m.from m.to m.promo) board s (cleared-stays (carry board m.from m.to m.promo) (en_passant_victim m) s) first
      | false ↦ first
    ]
played-stays board m (Some x) s apart over =
    stays-more _ (carry board m.from m.to None) board s (carry-stays (carry board m.from m.to None) (rook_home x) (crossed x) None s (over x refl)) (carry-stays board m.from m.to None s apart)

stood : (after board : Places) (s : ℕ) → is_empty (at after s) ≡ false → Stays after board s → at after s ≡ at board s
unfolding Stays
stood after board s full (inl gone) = absurd (both_ways true (sym (ap is_empty gone) ∙ full) refl)
stood after board s full (inr same) = same

-- a man who attacks from near does so on any board
near-kind : (a b : Places) (d : Colour) (k : Kind) (s t : ℕ) → is_near (Some (record { colour = d; kind = k })) s t ≡ true → kind_attacks a d k s t ≡ true → kind_attacks b d k s t ≡ true
unfolding kind_attacks
near-kind a b d Pawn s t near h = h
near-kind a b d Knight s t near h = h
near-kind a b d Bishop s t near h = and_from _ _ (and_parts _ _ h).0 (near-open b s t (eqb-true _ 1 near))
near-kind a b d Rook s t near h = and_from _ _ (and_parts _ _ h).0 (near-open b s t (eqb-true _ 1 near))
near-kind a b d Queen s t near h = and_from _ _ (and_parts _ _ h).0 (near-open b s t (eqb-true _ 1 near))
near-kind a b d King s t near h = absurd (both_ways false refl near)

near-place : (a b : Places) (place : Option Man) (s t : ℕ) → is_near place s t ≡ true → elim place as (λ _. Bool) [ None ↦ false | Some m ↦ kind_attacks a m.colour m.kind s t ] ≡ true → elim place as (λ _. Bool) [ None ↦ false | Some m ↦ kind_attacks b m.colour m.kind s t ] ≡ true
near-place a b None s t near h = h
near-place a b (Some m) s t near h = near-kind a b m.colour m.kind s t near h

near-from : (a b : Places) (s t : ℕ) → at a s ≡ at b s → is_near (at a s) s t ≡ true → attacks_from a s t ≡ true → attacks_from b s t ≡ true
unfolding attacks_from
near-from a b s t same near h =
    subst (λ (place : Option Man). elim place as (λ _. Bool) [ None ↦ false | Some m ↦ kind_attacks b m.colour m.kind s t ] ≡ true) same (near-place a b (at a s) s t near h)

-- the parts of a check from near
record Checks (board : Places) (c : Colour) (s k : ℕ) : Type 0 where
  king : is_the c King (at board k) ≡ true
  foe : is_of (opponent c) (at board s) ≡ true
  hits : attacks_from board s k ≡ true
  near : is_near (at board s) s k ≡ true

checks-parts : (board : Places) (c : Colour) (s k : ℕ) → checks_nearby board c s k ≡ true → Checks board c s k
checks-parts board c s k h =
    let p3 = and_parts _ (is_near (at board s) s k) h in
    let p2 = and_parts _ (attacks_from board s k) p3.0 in
    let p1 = and_parts (is_the c King (at board k)) (is_of (opponent c) (at board s)) p2.0 in
    record { king = p1.0; foe = p1.1; hits = p2.1; near = p3.1 }

-- a check from near by men who stood there already
old-check : (after board : Places) (c : Colour) (s k : ℕ) → s < 64 → k < 64 → Checks after c s k → at after s ≡ at board s → at after k ≡ at board k → in_check board c ≡ true
old-check after board c s k small inside w man king =
    checks board c s k small inside (and_from _ _ (and_from _ _ (and_from _ _ (ap (is_the c King) (sym king) ∙ w.king) (ap (is_of (opponent c)) (sym man) ∙ w.foe)) (near-from after board s k man w.near w.hits)) (ap (λ (p : Option Man). is_near p s k) (sym man) ∙ w.near))

king-hits : (board : Places) (c : Colour) (s k : ℕ) (place : Option Man) → at board s ≡ place → is_the c King place ≡ true → king_distance s k ≡ 1 → (is_of c (at board s) && attacks_from board s k) ≡ true
unfolding attacks_from kind_attacks
king-hits board c s k None here h one = absurd (both_ways false refl h)
king-hits board c s k (Some m) here h one =
    let parts = and_parts _ _ h in
    let hit : kind_attacks board m.colour m.kind s k ≡ true = subst (λ (j : Kind). kind_attacks board m.colour j s k ≡ true) (kind_is King m.kind parts.1) (eq-eqb _ 1 one) in
    subst (λ (p : Option Man). (is_of c p && elim p as (λ _. Bool) [ None ↦ false | Some n ↦ kind_attacks board n.colour n.kind s k ]) ≡ true) (sym here) (and_from _ _ parts.0 hit)

-- a king next to another checks him
king-checks : (board : Places) (c : Colour) (s k : ℕ) → s < 64 → k < 64 → is_the (opponent c) King (at board s) ≡ true → is_the c King (at board k) ≡ true → king_distance s k ≡ 1 → in_check board c ≡ true
unfolding in_check
king-checks board c s k small inside other king one =
    any-found (λ n. is_the c King (at board n) && attacks board n (opponent c)) 0 64 k (omega arith) (omega arith)
    (and_from _ _ king (hit-attacks board (opponent c) k s small (king-hits board (opponent c) s k (at board s) refl other one)))

-- next to the square that a castling king crosses is next to where he came from or went
beside : Castle → ℕ → Bool
beside x k = not (king_distance (crossed x) k == 1) || (k == king_home x) || (k == king_target x) || (king_distance (king_home x) k == 1) || (king_distance k (king_target x) == 1)

all-beside : (x : Castle) → list_all (beside x) (range_with_len 0 64) ≡ true
unfolding beside king_distance distance
all-beside WhiteShort = refl
all-beside WhiteLong = refl
all-beside BlackShort = refl
all-beside BlackLong = refl

next-to : (x : Castle) (k : ℕ) → k < 64 → king_distance (crossed x) k ≡ 1 → k ≢ king_home x → k ≢ king_target x → (king_distance (king_home x) k ≡ 1) ⊎ (king_distance k (king_target x) ≡ 1)
unfolding beside
next-to x k small one home target = elim (or_cases _ _ (all_in_range (beside x) 0 64 k (all-beside x) (omega arith) (omega arith))) [
  | inr w ↦ inr (eqb-true _ 1 w)
  | inl h3 ↦ elim (or_cases _ _ h3) [
    | inr w ↦ inl (eqb-true _ 1 w)
    | inl h2 ↦ elim (or_cases _ _ h2) [
      | inr w ↦ absurd (target (eqb-true k (king_target x) w))
      | inl h1 ↦ elim (or_cases _ _ h1) [
        | inr w ↦ absurd (home (eqb-true k (king_home x) w))
        | inl w ↦ absurd (eqb-false _ 1 (not-true _ w) one)
      ]
    ]
  ]
]

rook-near : (c : Colour) (place : Option Man) (s k : ℕ) → is_the c Rook place ≡ true → is_near place s k ≡ true → king_distance s k ≡ 1
rook-near c None s k h near = absurd (both_ways false refl h)
rook-near c (Some m) s k h near =
    let P : Kind → Type 0 = λ j. is_near (Some (record { colour = m.colour; kind = j })) s k ≡ true in
    eqb-true _ 1 (subst P (sym (kind_is Rook m.kind (and_parts _ _ h).1)) near)

-- in a castling the rook comes to the square that the king crosses
rook-there : (board : Places) (m : Move) (x : Castle) → length board ≡ 64 → king_home x ≡ m.from → king_target x ≡ m.to → at (played_as board m (Some x)) (crossed x) ≡ at board (rook_home x)
rook-there board m x len from to =
    let moved : Places = carry board m.from m.to None in
    let inside : crossed x < length (set moved (rook_home x) None) = let small = crossed-within x in omega (arith, length-set moved (rook_home x) None, length-carry board m.from m.to None) in
    get_or-set_same (set moved (rook_home x) None) (crossed x) (at moved (rook_home x)) None inside
    ∙ get_or-set_other (set board m.from None) m.to (rook_home x) (at board m.from) None (λ z. rook_home-not-target x (z ∙ sym to))
    ∙ get_or-set_other board m.from (rook_home x) None None (λ z. rook_home-not-home x (z ∙ sym from))

king-full : (c : Colour) (place : Option Man) → is_the c King place ≡ true → is_empty place ≡ false
king-full c place h = full-of c place (and_parts _ _ h).0

-- what is known of a check from near after a listed move
record Scene (q : Asked) (u : Unmove) (s k : ℕ) : Type 0 where
  listed : Parts q u
  whole : length (before q u) ≡ 64
  free : in_check (before q u) q.turn ≡ false
  small : s < 64
  inside : k < 64
  check : Checks q.board q.turn s k
  apart : s ≢ u.mv.to

played-is : (board after : Places) (m : Move) (o : Option Castle) → castling board m ≡ o → play board m ≡ after → played_as board m o ≡ after
unfolding play
played-is board after m o e here = ap (played_as board m) (sym e) ∙ here

-- by men who both stood there before
both-stood : (q : Asked) (u : Unmove) (s k : ℕ) (o : Option Castle) → Scene q u s k → castling (before q u) u.mv ≡ o → k ≢ u.mv.to → ((x : Castle) → o ≡ Some x → s ≢ crossed x) → ((x : Castle) → o ≡ Some x → k ≢ crossed x) → ⊥
both-stood q u s k o w e kt sx kx =
    let board : Places = before q u in
    let same : played_as board u.mv o ≡ q.board = played-is board q.board u.mv o e w.listed.here in
    let man : at q.board s ≡ at board s = ap (λ (b : Places). at b s) (sym same) ∙ stood (played_as board u.mv o) board s (ap (λ (b : Places). is_empty (at b s)) same ∙ full-of (opponent q.turn) (at q.board s) w.check.foe) (played-stays board u.mv o s w.apart sx) in
    let king : at q.board k ≡ at board k = ap (λ (b : Places). at b k) (sym same) ∙ stood (played_as board u.mv o) board k (ap (λ (b : Places). is_empty (at b k)) same ∙ king-full q.turn (at q.board k) w.check.king) (played-stays board u.mv o k kt kx) in
    both_ways _ w.free (old-check q.board board q.turn s k w.small w.inside w.check man king)

king-apart : (q : Asked) (u : Unmove) (s k : ℕ) → Scene q u s k → k ≢ u.mv.to
king-apart q u s k w z = both_ways _ (other-colour q.turn (at q.board u.mv.to) w.listed.target) (ap (λ (n : ℕ). is_of q.turn (at q.board n)) (sym z) ∙ (and_parts _ _ w.check.king).0)

castled-scene : (q : Asked) (u : Unmove) (s k : ℕ) (x : Castle) → Scene q u s k → castling (before q u) u.mv ≡ Some x → ⊥
castled-scene q u s k x w e =
    let board : Places = before q u in
    let c : Colour = mover q in
    let m : Move = u.mv in
    let l : Legality board c every_right (answered u c) m = legality_of q u w.listed in
    let ends = castle-ends board m x e in
    let may : may_castle board c every_right x ≡ true = two-castles board c every_right (answered u c) m x e l.manner in
    let p4 = and_parts _ _ (and_parts _ _ (and_parts _ _ (and_parts _ _ may).0).0).0 in
    let p3 = and_parts _ _ p4.0 in
    let rook : is_the c Rook (at board (rook_home x)) ≡ true = p3.1 in
    let own-king : is_the c King (at board (king_home x)) ≡ true = (and_parts _ _ p3.0).1 in
    let same : played_as board m (Some x) ≡ q.board = played-is board q.board m (Some x) e w.listed.here in
    let rook-now : is_the c Rook (at q.board (crossed x)) ≡ true = ap (λ (b : Places). is_the c Rook (at b (crossed x))) (sym same) ∙ ap (is_the c Rook) (rook-there board m x w.whole ends.from ends.to) ∙ rook in
    let kt : k ≢ m.to = king-apart q u s k w in
    let kx : k ≢ crossed x = λ z. both_ways _ (other-colour q.turn (at q.board (crossed x)) (and_parts _ _ rook-now).0) (ap (λ (n : ℕ). is_of q.turn (at q.board n)) (sym z) ∙ (and_parts _ _ w.check.king).0) in
    let kxs : (y : Castle) → Some x ≡ Some y → k ≢ crossed y = λ y z. subst (λ (v : Castle). k ≢ crossed v) (same_Some _ _ z) kx in
    elim (cases_eq s (crossed x)) [
      | inr other ↦ both-stood q u s k (Some x) w e kt (λ y z. subst (λ (v : Castle). s ≢ crossed v) (same_Some _ _ z) other) kxs
      | inl here ↦
          let one : king_distance (crossed x) k ≡ 1 = rook-near c (at q.board (crossed x)) (crossed x) k rook-now (subst (λ (n : ℕ). is_near (at q.board n) n k ≡ true) here w.check.near) in
          let home : k ≢ king_home x = λ z. both_ways _ (king-full q.turn (at q.board k) w.check.king) (ap (λ (n : ℕ). is_empty (at q.board n)) (z ∙ ends.from) ∙ w.listed.origin) in
          let target : k ≢ king_target x = λ z. kt (z ∙ ends.to) in
          let king : at q.board k ≡ at board k = ap (λ (b : Places). at b k) (sym same) ∙ stood (played_as board m (Some x)) board k (ap (λ (b : Places). is_empty (at b k)) same ∙ king-full q.turn (at q.board k) w.check.king) (played-stays board m (Some x) k kt kxs) in
          elim (next-to x k w.inside one home target) [
            | inl near ↦ both_ways _ w.free (king-checks board q.turn (king_home x) k (king_home-within x) w.inside own-king (ap (is_the q.turn King) (sym king) ∙ w.check.king) near)
            | inr near ↦
                let there : is_the c King (at q.board (king_target x)) ≡ true =
                ap (λ (n : ℕ). is_the c King (at q.board n)) ends.to ∙ ap (λ (b : Places). is_the c King (at b m.to)) (sym same) ∙ ap (is_the c King) (castle-there board m x (let small = l.on_board in let whole = w.whole in omega arith) ends) ∙ ap (λ (n : ℕ). is_the c King (at board n)) (sym ends.from) ∙ own-king in
                let turn : opponent c ≡ q.turn = opponent-twice q.turn in
                both_ways _ (ap (λ (b : Places). in_check b c) (sym w.listed.here) ∙ l.safe)
                (king-checks q.board c k (king_target x) w.inside (king_target-within x) (ap (λ (d : Colour). is_the d King (at q.board k)) turn ∙ w.check.king) there near)
          ]
    ]

no-scene : (q : Asked) (u : Unmove) (s k : ℕ) (o : Option Castle) → castling (before q u) u.mv ≡ o → Scene q u s k → ⊥
no-scene q u s k None e w = both-stood q u s k None w e (king-apart q u s k w) (λ x z. cc) (λ x z. cc)
no-scene q u s k (Some x) e w = castled-scene q u s k x w e

sane-free : (o : List Bool) (board : Places) (c : Colour) → is_sane o board c ≡ true → in_check board (opponent c) ≡ false
unfolding is_sane
sane-free o board c h = not-true _ (and_parts _ _ h).1

-- each man who checks from near stands on the target of each listed unmove
pub near-came : (q : Asked) (u : Unmove) (s : ℕ) → length q.board ≡ 64 → is_listed q u ≡ true → s < 64 → is_near_checker q.board q.turn s ≡ true → s ≡ u.mv.to
unfolding is_near_checker
near-came q u s whole h small near =
    let w = any-one (λ k. checks_nearby q.board q.turn s k) 0 64 near in
    let below = w.below in
    elim (cases_eq s u.mv.to) [
      | inl same ↦ same
      | inr apart ↦ absurd (no-scene q u s w.number _ refl (record {
        listed = parts q u h;
        whole = length-back q.board u ∙ whole;
        free = ap (in_check (before q u)) (sym (opponent-twice q.turn)) ∙ sane-free q.odds (before q u) (mover q) (listed-sane q u h);
        small = small;
        inside = omega arith;
        check = checks-parts q.board q.turn s w.number w.passes;
        apart = apart;
      }))
    ]

-- so its target is where the last move can have ended
pub in-arrivals : (q : Asked) (u : Unmove) (set : List Bool) → length q.board ≡ 64 → AreArrivals q.board q.turn set → is_listed q u ≡ true → is_in set u.mv.to ≡ true
in-arrivals q u set whole o h = o.enough u.mv.to (legality_of q u (parts q u h)).on_board (λ s small near. near-came q u s whole h small near)
