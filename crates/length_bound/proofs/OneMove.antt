-- What one move adds to what the men of a side need.
use Rattle.std.proofs.Common.{◌≡◌, ℕ, ◌+◌, ◌<◌, ◌≤◌, ◌==◌, Bool, true, false, ◌&&◌, not, inl, inr, List, length, refl, ap, sym, ◌∙◌, subst, arith}
use Rattle.std.specs.Prelude.{Option, Some, None}
use Rattle.std.specs.List.{range_with_len}
use Rattle.std.proofs.lemmas.Bool.{and_parts, both_ways, cases_Bool, cond-true, cond-false, eqb-true, not-true}
use Rattle.std.proofs.lemmas.Option.{same_Some, cond_some}
use Rattle.std.proofs.lemmas.List.Sums.{sum_by-le-sum_by}
use Rattle.board_base.specs.Board.{Places, at, is_of, is_a, is_the, same_colour, same_kind, file, rank, opponent}
use Rattle.board_base.specs.Attacks.{distance, files_apart, one_ahead, kind_attacks, attacks_from}
use Rattle.board_base.specs.Play.{play, castling, goes_en_passant, king_target, rook_home, crossed, double_of, en_passant_rank}
use Rattle.board_base.specs.Legal.{last_rank, is_officer, is_move, promotion_fits, man_moves, pawn_steps, pawn_doubles, pawn_captures, pawn_captures_en_passant, king_castles}
use Rattle.board_base.specs.Parts.{double_step, castles_as}
use Rattle.board_base.specs.declared.men.Colour.{Colour}
use Rattle.board_base.specs.declared.men.Kind.{Kind}
use Rattle.board_base.specs.declared.men.Kind.TheVariants.{Pawn, Rook, King}
use Rattle.board_base.specs.declared.men.Man.{Man}
use Rattle.board_base.specs.declared.moves.Move.{Move}
use Rattle.board_base.specs.declared.castles.Castle.{Castle}
use Rattle.board_base.proofs.KindsOfMen.{colour_is, kind_is, no-promo, same_colour-self}
use Rattle.play_rules.proofs.Legality.{Legality, Manner, moves, steps, doubles, takes, passes, castles}
use Rattle.play_rules.proofs.Kings.{within, castle-ends, two-castles}
use Rattle.men_account.specs.Labels.{Labels, label_at, relabelled}
use Rattle.men_account.proofs.FilesLeft.{led-inside}
use Rattle.men_account.proofs.Captured.{same-side}
use Rattle.men_account.proofs.Moved.{moved_from, moved_from-apart}
use Rattle.men_account.proofs.Origins.{origin, Came, stayed, moved_here, with_the_king, before, promoted_man}
use Rattle.general_lemmas.proofs.SumsAmong.{value_at, sum-through, sum-both, at_only, only-there, sum-only}
use Rattle.length_bound.specs.MoveCosts.{move_cost}
use Rattle.length_bound.specs.SideBounds.{man_cost, side_cost}
use Rattle.length_bound.proofs.Stepping.{on-empty}
use Rattle.length_bound.proofs.OneMan.{PawnGoes, by_one, by_two, Becomes, stays_pawn, promotes_to, officer-on, pawn-moves-on, king-castles, rook-castles, promoted-colour}

-- what the rule on promotions says of a pawn
becomes-from : (c : Colour) (t : ℕ) (promo : Option Kind) (pawn : Bool) → elim promo as (λ _. Bool) [ None ↦ not (pawn && (rank t == last_rank c)) | Some k ↦ pawn && (rank t == last_rank c) && is_officer k ] ≡ true → Becomes c t promo
becomes-from c t None pawn h = stays_pawn refl
becomes-from c t (Some k) pawn h =
    let p = and_parts _ _ h in
    promotes_to k refl p.1 (eqb-true _ _ (and_parts _ _ p.0).1)

becomes : (board : Places) (c : Colour) (m : Move) → promotion_fits board c m ≡ true → Becomes c m.to m.promo
unfolding promotion_fits
becomes board c m fits = becomes-from c m.to m.promo (is_a Pawn (at board m.from)) fits

keeps-kind : (board : Places) (c : Colour) (m : Move) → is_a Pawn (at board m.from) ≡ false → promotion_fits board c m ≡ true → m.promo ≡ None
unfolding promotion_fits
keeps-kind board c m other fits = no-promo m.promo (is_a Pawn (at board m.from)) _ other fits

same-file : (s t : ℕ) → file s ≡ file t → files_apart s t ≤ 1
unfolding distance
same-file s t e = omega arith

past-goes : (board : Places) (c : Colour) (last : Option Move) (m : Move) (o : Option Move) → double_of m c ≡ o → elim o as (λ _. Bool) [ None ↦ false | Some d ↦ is_move last d && is_the (opponent c) Pawn (at board d.to) ] ≡ true → PawnGoes c m.from m.to
past-goes board c last m None e h = absurd (both_ways false refl h)
past-goes board c last m (Some d) e h =
    let fits : ((((rank m.from == en_passant_rank c) && one_ahead c m.from m.to) ≡ true) × ((files_apart m.from m.to == 1) ≡ true)) = and_parts _ _ (and_parts _ _ (cond_some _ (double_step m c) d e).0).0 in
    by_one (and_parts _ _ fits.0).1 (let one : files_apart m.from m.to ≡ 1 = eqb-true (files_apart m.from m.to) 1 fits.1 in omega arith)

-- how the move went
data Went (board : Places) (c : Colour) (m : Move) : Type 0 where
  as_officer : is_a Pawn (at board m.from) ≡ false → attacks_from board m.from m.to ≡ true → Went board c m
  as_pawn : is_a Pawn (at board m.from) ≡ true → PawnGoes c m.from m.to → Went board c m
  as_castling : (x : Castle) → castling board m ≡ Some x → Went board c m

castled : (board : Places) (c : Colour) (rights : Castle → Bool) (o : Option Castle) → castles_as board c rights o ≡ true → (x : Castle) × (o ≡ Some x)
castled board c rights None h = absurd (both_ways false refl h)
castled board c rights (Some x) h = (x, refl)

went : (board : Places) (c : Colour) (rights : Castle → Bool) (last : Option Move) (m : Move) → Manner board c rights last m → Went board c m
unfolding man_moves pawn_steps pawn_doubles pawn_captures pawn_captures_en_passant king_castles
went board c rights last m (moves h) = as_officer (not-true _ (and_parts _ _ h).0) (and_parts _ _ h).1
went board c rights last m (steps h) =
    let p = and_parts _ _ (and_parts _ _ h).0 in
    as_pawn (and_parts _ _ p.0).0 (by_one (and_parts _ _ p.0).1 (same-file m.from m.to (eqb-true _ _ p.1)))
went board c rights last m (doubles h) =
    let p4 = and_parts _ _ (and_parts _ _ (and_parts _ _ h).0).0 in
    let p2 = and_parts _ _ p4.0 in
    as_pawn (and_parts _ _ p2.0).0 (by_two (eqb-true _ _ (and_parts _ _ p2.0).1) (eqb-true _ _ p2.1) (eqb-true _ 2 p4.1))
went board c rights last m (takes h) =
    let p = and_parts _ _ (and_parts _ _ h).0 in
    as_pawn (and_parts _ _ p.0).0 (by_one (and_parts _ _ p.0).1 (let one : files_apart m.from m.to ≡ 1 = eqb-true _ 1 p.1 in omega arith))
went board c rights last m (passes h) =
    as_pawn (and_parts _ _ (and_parts _ _ h).0).0 (past-goes board c last m _ refl (and_parts _ _ h).1)
went board c rights last m (castles h) = let x = castled board c rights (castling board m) h in as_castling x.0 x.1

attacking : (board : Places) (place : Option Man) (man : Man) (s t : ℕ) → place ≡ Some man → elim place as (λ _. Bool) [ None ↦ false | Some m ↦ kind_attacks board m.colour m.kind s t ] ≡ true → kind_attacks board man.colour man.kind s t ≡ true
attacking board place man s t e h = subst (λ (p : Option Man). elim p as (λ _. Bool) [ None ↦ false | Some m ↦ kind_attacks board m.colour m.kind s t ] ≡ true) e h

man-attacks : (board : Places) (man : Man) (s t : ℕ) → at board s ≡ Some man → attacks_from board s t ≡ true → kind_attacks board man.colour man.kind s t ≡ true
unfolding attacks_from
man-attacks board man s t e h = attacking board (at board s) man s t e h

-- what the man who moves needs more, where it is no castling
mover-adds : (o : List Bool) (board : Places) (c : Colour) (rights : Castle → Bool) (last : Option Move) (m : Move) (l : ℕ) (man : Man) → length board ≡ 64 → Legality board c rights last m → castling board m ≡ None → at board m.from ≡ Some man → Went board c m → move_cost o (promoted_man m.promo man) m.to l ≤ move_cost o man m.from l + 1
mover-adds o board c rights last m l man len legal none there (as_castling x is) = let e : None ≡ Some x = sym none ∙ is in cc
mover-adds o board c rights last m l man len legal none there (as_pawn pawn way) =
    let kind : man.kind ≡ Pawn = sym (kind_is Pawn man.kind (sym (ap (is_a Pawn) there) ∙ pawn)) in
    let colour : man.colour ≡ c = sym (colour_is c man.colour (sym (ap (is_of c) there) ∙ legal.mover)) in
    pawn-moves-on o man c m.promo l m.from m.to colour kind legal.on_board way (becomes board c m legal.promotion)
mover-adds o board c rights last m l man len legal none there (as_officer other attacked) =
    let f : m.from < 64 = rw (← len) (within (is_of c) board m.from refl legal.mover) in
    let kind : same_kind Pawn man.kind ≡ false = sym (ap (is_a Pawn) there) ∙ other in
    let same : promoted_man m.promo man ≡ man = ap (λ (p : Option Kind). promoted_man p man) (keeps-kind board c m other legal.promotion) in
    subst (λ (x : Man). move_cost o x m.to l ≤ move_cost o man m.from l + 1) (sym same)
    (officer-on o man l m.from m.to f kind (on-empty board man.colour man.kind m.from m.to kind (man-attacks board man m.from m.to there attacked)))

-- what the king needs more who castles
king-adds : (o : List Bool) (board : Places) (c : Colour) (rights : Castle → Bool) (last : Option Move) (m : Move) (x : Castle) (l : ℕ) (man : Man) → Legality board c rights last m → castling board m ≡ Some x → at board m.from ≡ Some man → move_cost o (promoted_man m.promo man) m.to l ≤ move_cost o man m.from l + 2
king-adds o board c rights last m x l man legal is there =
    let ends = castle-ends board m x is in
    let kind : man.kind ≡ King = sym (kind_is King man.kind (sym (ap (is_a King) there) ∙ ends.king)) in
    let other : is_a Pawn (at board m.from) ≡ false = ap (is_a Pawn) there ∙ ap (same_kind Pawn) kind in
    let same : promoted_man m.promo man ≡ man = ap (λ (p : Option Kind). promoted_man p man) (keeps-kind board c m other legal.promotion) in
    subst (λ (y : Man). move_cost o y m.to l ≤ move_cost o man m.from l + 2) (sym same)
    (subst (λ (t : ℕ). move_cost o man t l ≤ move_cost o man m.from l + 2) ends.to
    (subst (λ (s : ℕ). move_cost o man (king_target x) l ≤ move_cost o man s l + 2) ends.from (king-castles o man x l kind)))

pub cost-bound : (o : List Bool) (c : Colour) (place : Option Man) (label : Option ℕ) (s bound : ℕ) → ((l : ℕ) (after : Man) → label ≡ Some l → place ≡ Some after → same_colour c after.colour ≡ true → move_cost o after s l ≤ bound) → man_cost o c place label s ≤ bound
cost-bound o c None label s bound h = omega arith
cost-bound o c (Some after) None s bound h = omega arith
cost-bound o c (Some after) (Some l) s bound h = elim (cases_Bool (same_colour c after.colour)) [
  | inl own ↦ let most = h l after refl refl own in let e = cond-true _ (move_cost o after s l) 0 own in omega (arith, most, e)
  | inr other ↦ let e = cond-false _ (move_cost o after s l) 0 other in omega (arith, e)
]

pub cost-of : (o : List Bool) (c : Colour) (place : Option Man) (label : Option ℕ) (s l : ℕ) (man : Man) → label ≡ Some l → place ≡ Some man → same_colour c man.colour ≡ true → man_cost o c place label s ≡ move_cost o man s l
cost-of o c place label s l man e1 e2 own =
    ap (λ (p : Option Man). man_cost o c p label s) e2 ∙ ap (λ (x : Option ℕ). man_cost o c (Some man) x s) e1 ∙ cond-true _ (move_cost o man s l) 0 own

-- what the men of a side who move may need more: the man who moves, and the rook of a castling
pub record Adds (o : List Bool) (c : Colour) (board : Places) (m : Move) (a b r : ℕ) : Type 0 where
  pub mover : (l : ℕ) (man : Man) → at board m.from ≡ Some man → same_colour c man.colour ≡ true → move_cost o (promoted_man m.promo man) m.to l ≤ move_cost o man m.from l + a
  pub rook : (x : Castle) (l : ℕ) (man : Man) → castling board m ≡ Some x → at board (rook_home x) ≡ Some man → same_colour c man.colour ≡ true → (r ≡ crossed x) × (move_cost o man (crossed x) l ≤ move_cost o man (rook_home x) l + b)

cost-came : (o : List Bool) (c : Colour) (board : Places) (labels : Labels) (m : Move) (a b r u s l : ℕ) (after : Man) → Adds o c board m a b r → same_colour c after.colour ≡ true → Came board labels m u s l after → move_cost o after s l ≤ man_cost o c (at board u) (label_at labels u) u + at_only m.to a s + at_only r b s
cost-came o c board labels m a b r u s l after adds own (stayed same x y label there) =
    let e : man_cost o c (at board u) (label_at labels u) u ≡ move_cost o after s l = ap (λ (t : ℕ). man_cost o c (at board t) (label_at labels t) t) same ∙ cost-of o c (at board s) (label_at labels s) s l after label there own in
    omega arith
cost-came o c board labels m a b r u s l after adds own (moved_here man x y label there is) =
    let mine : same_colour c man.colour ≡ true = sym (ap (same_colour c) (ap (λ (k : Man). k.colour) is ∙ promoted-colour m.promo man)) ∙ own in
    let e : man_cost o c (at board u) (label_at labels u) u ≡ move_cost o man m.from l = ap (λ (t : ℕ). man_cost o c (at board t) (label_at labels t) t) x ∙ cost-of o c (at board m.from) (label_at labels m.from) m.from l man label there mine in
    let more = adds.mover l man there mine in
    let now : move_cost o after s l ≡ move_cost o (promoted_man m.promo man) m.to l = ap (λ (k : Man). move_cost o k s l) is ∙ ap (λ (t : ℕ). move_cost o (promoted_man m.promo man) t l) y in
    omega (arith, e, more, now, only-there m.to a s y)
cost-came o c board labels m a b r u s l after adds own (with_the_king x is from to label there) =
    let e : man_cost o c (at board u) (label_at labels u) u ≡ move_cost o after (rook_home x) l = ap (λ (t : ℕ). man_cost o c (at board t) (label_at labels t) t) from ∙ cost-of o c (at board (rook_home x)) (label_at labels (rook_home x)) (rook_home x) l after label there own in
    let more = adds.rook x l after is there own in
    let now : move_cost o after s l ≡ move_cost o after (crossed x) l = ap (λ (t : ℕ). move_cost o after t l) to in
    omega (arith, e, more.1, now, only-there r b s (to ∙ sym more.0))

-- on each square
cost-each : (o : List Bool) (c d : Colour) (board : Places) (labels : Labels) (rights : Castle → Bool) (last : Option Move) (m : Move) (a b r : ℕ) → length board ≡ 64 → length labels ≡ 64 → Legality board d rights last m → Adds o c board m a b r → (s : ℕ) → man_cost o c (at (play board m) s) (label_at (relabelled board labels m) s) s ≤ value_at (λ t. man_cost o c (at board t) (label_at labels t) t) (moved_from m (castling board m) (goes_en_passant board m) s) + at_only m.to a s + at_only r b s
cost-each o c d board labels rights last m a b r len size legal adds s =
    let old : ℕ → ℕ = λ t. man_cost o c (at board t) (label_at labels t) t in
    let led : Option ℕ = moved_from m (castling board m) (goes_en_passant board m) s in
    cost-bound o c (at (play board m) s) (label_at (relabelled board labels m) s) s (value_at old led + at_only m.to a s + at_only r b s) (λ l after label there own.
    let was = before board labels d rights last m len size legal s l after label there in
    let most = cost-came o c board labels m a b r was.square s l after adds own was.came in
    let e : value_at old led ≡ old was.square = ap (value_at old) was.led in
    omega (arith, most, e))

-- in all
pub side-adds : (o : List Bool) (c d : Colour) (board : Places) (labels : Labels) (rights : Castle → Bool) (last : Option Move) (m : Move) (a b r : ℕ) → length board ≡ 64 → length labels ≡ 64 → Legality board d rights last m → Adds o c board m a b r → side_cost o c (play board m) (relabelled board labels m) ≤ side_cost o c board labels + a + b
unfolding side_cost
side-adds o c d board labels rights last m a b r len size legal adds =
    let old : ℕ → ℕ = λ s. man_cost o c (at board s) (label_at labels s) s in
    let new : ℕ → ℕ = λ s. man_cost o c (at (play board m) s) (label_at (relabelled board labels m) s) s in
    let led : ℕ → Option ℕ = moved_from m (castling board m) (goes_en_passant board m) in
    let f : m.from < 64 = rw (← len) (within (is_of d) board m.from refl legal.mover) in
    let most = sum_by-le-sum_by new (λ s. value_at old (led s) + at_only m.to a s + at_only r b s) (range_with_len 0 64) (cost-each o c d board labels rights last m a b r len size legal adds) in
    let parts = sum-both (λ s. value_at old (led s) + at_only m.to a s) (at_only r b) (range_with_len 0 64) in
    let inner = sum-both (λ s. value_at old (led s)) (at_only m.to a) (range_with_len 0 64) in
    let through = sum-through old led 64 64 (moved_from-apart m (castling board m) (goes_en_passant board m)) (λ s u small h. led-inside m (castling board m) s u f small (origin board m (castling board m) (goes_en_passant board m) s u refl h)) in
    omega (arith, most, parts, inner, through, sum-only m.to a 64, sum-only r b 64)

rook-of : (board : Places) (c : Colour) (rights : Castle → Bool) (last : Option Move) (m : Move) (x : Castle) → castling board m ≡ Some x → Legality board c rights last m → is_the c Rook (at board (rook_home x)) ≡ true
rook-of board c rights last m x is legal =
    let may = two-castles board c rights last m x is legal.manner in
    (and_parts _ _ (and_parts _ _ (and_parts _ _ (and_parts _ _ (and_parts _ _ may).0).0).0).0).1

not-both : (c d : Colour) (place : Option Man) (man : Man) → place ≡ Some man → is_of d place ≡ true → same_colour c man.colour ≡ true → same_colour c d ≡ false → ⊥
not-both c d place man there mover own other =
    let side : c ≡ d = same-side c d place (ap (is_of c) there ∙ own) mover in
    both_ways (same_colour c d) other (subst (λ (x : Colour). same_colour c x ≡ true) side (same_colour-self c))

-- a move of the other side adds nothing
pub other-adds : (o : List Bool) (c d : Colour) (board : Places) (rights : Castle → Bool) (last : Option Move) (m : Move) → Legality board d rights last m → same_colour c d ≡ false → Adds o c board m 0 0 0
other-adds o c d board rights last m legal other = record {
  mover = λ l man there own. absurd (not-both c d (at board m.from) man there legal.mover own other);
  rook = λ x l man is there own. absurd (not-both c d (at board (rook_home x)) man there (and_parts (is_of d (at board (rook_home x))) (is_a Rook (at board (rook_home x))) (rook-of board d rights last m x is legal)).0 own other);
}

-- a move that is no castling adds one
pub plain-adds : (o : List Bool) (c : Colour) (board : Places) (rights : Castle → Bool) (last : Option Move) (m : Move) → length board ≡ 64 → Legality board c rights last m → castling board m ≡ None → Adds o c board m 1 0 0
plain-adds o c board rights last m len legal none = record {
  mover = λ l man there own. mover-adds o board c rights last m l man len legal none there (went board c rights last m legal.manner);
  rook = λ x l man is there own. let e : None ≡ Some x = sym none ∙ is in cc;
}

-- a castling adds three
pub castling-adds : (o : List Bool) (c : Colour) (board : Places) (rights : Castle → Bool) (last : Option Move) (m : Move) (y : Castle) → Legality board c rights last m → castling board m ≡ Some y → Adds o c board m 2 1 (crossed y)
castling-adds o c board rights last m y legal is = record {
  mover = λ l man there own. king-adds o board c rights last m y l man legal is there;
  rook = λ x l man is' there own.
      let same : y ≡ x = same_Some _ _ (sym is ∙ is') in
      let rook = (and_parts (is_of c (at board (rook_home x))) (is_a Rook (at board (rook_home x))) (rook-of board c rights last m x is' legal)).1 in
      let kind : man.kind ≡ Rook = sym (kind_is Rook man.kind (sym (ap (is_a Rook) there) ∙ rook)) in
      (ap crossed same, rook-castles o man x l kind);
}
