-- Double steps, by the square that they cross.
use Rattle.std.proofs.Common.{◌≡◌, ℕ, ◌<◌, ◌==◌, Bool, true, false, cond, ◌&&◌, not, refl, ap, sym, ◌∙◌, arith}
use Rattle.std.proofs.lemmas.Bool.{and_parts, and_from, both_ways, eqb-true, eq-eqb}
use Rattle.std.specs.Prelude.{Option, Some, None, is_none, is_some}
use Rattle.board_base.proofs.KindsOfMen.{opponent-twice}
use Rattle.board_base.specs.Board.{Places, at, is_a, opponent, file, rank}
use Rattle.board_base.specs.Attacks.{distance, ranks_apart}
use Rattle.board_base.specs.Play.{ahead}
use Rattle.board_base.specs.Legal.{is_officer, last_rank, pawn_doubles, pawn_rank, promotion_fits}
use Rattle.board_base.specs.declared.men.Colour.{Colour}
use Rattle.board_base.specs.declared.men.Colour.TheVariants.{White, Black}
use Rattle.board_base.specs.declared.men.Kind.{Kind}
use Rattle.board_base.specs.declared.men.Kind.TheVariants.{Pawn}
use Rattle.board_base.specs.declared.moves.Move.{Move}
use Rattle.query_base.specs.Asked.{is_double_step, is_of_other_side}
use Rattle.play_rules.specs.States.{Position, Follows, crossed_by, double_crossing, legal_at}
use Rattle.play_rules.proofs.Legality.{legality}
use Rattle.play_rules.proofs.Doubles.{Doubles, double-parts}
use Rattle.position_maker.specs.Positions.{if_double}

some_cond : {A B : Type 0} (b : Bool) (y : A) (z : B) → is_some (cond b (Some y) None) ≡ true → cond b (Some z) None ≡ Some z
some_cond true y z h = refl
some_cond false y z h = absurd (both_ways false refl h)

none_cond : {A B : Type 0} (b : Bool) (y : A) (z : B) → is_some (cond b (Some y) None) ≡ false → cond b (Some z) None ≡ None
none_cond true y z h = absurd (both_ways true h refl)
none_cond false y z h = refl

test_cond : {A : Type 0} (b : Bool) (y : A) → is_some (cond b (Some y) None) ≡ true → b ≡ true
test_cond true y h = refl
test_cond false y h = absurd (both_ways false refl h)

crossed_here : (p q : Position) (m : Move) → Follows p m q → q.ep ≡ crossed_by q.board (opponent p.turn) (Some m)
crossed_here p q m f = f.ep_is ∙ ap (λ (board : Places). crossed_by board (opponent p.turn) (Some m)) (sym f.board_is)

pub double-some : (p q : Position) (m : Move) → Follows p m q → is_some q.ep ≡ true → if_double q.board (Some m) ≡ Some m
double-some p q m f h = some_cond _ (ahead (opponent p.turn) m.to) m (ap is_some (sym (crossed_here p q m f)) ∙ h)

pub double-none : (p q : Position) (m : Move) → Follows p m q → is_some q.ep ≡ false → if_double q.board (Some m) ≡ None
double-none p q m f h = none_cond _ (ahead (opponent p.turn) m.to) m (ap is_some (sym (crossed_here p q m f)) ∙ h)

ahead-twice : (c : Colour) (s t : ℕ) → t < 64 → rank s ≡ pawn_rank c → file s ≡ file t → ranks_apart s t ≡ 2 → t ≡ ahead c (ahead c s)
unfolding distance
ahead-twice White s t small home same two = omega arith
ahead-twice Black s t small home same two = omega arith

-- a double step is no promotion
no-promo : (board : Places) (c : Colour) (m : Move) (promo : Option Kind) → rank m.from ≡ pawn_rank c → ranks_apart m.from m.to ≡ 2 → elim promo as (λ _. Bool) [ None ↦ not (is_a Pawn (at board m.from) && (rank m.to == last_rank c)) | Some k ↦ is_a Pawn (at board m.from) && (rank m.to == last_rank c) && is_officer k ] ≡ true → is_none promo ≡ true
unfolding distance
no-promo board c m None home two h = refl
no-promo board White m (Some k) home two h =
    let e : rank m.to ≡ 7 = eqb-true _ 7 (and_parts _ _ (and_parts _ _ h).0).1 in absurd (omega arith)
no-promo board Black m (Some k) home two h =
    let e : rank m.to ≡ 0 = eqb-true _ 0 (and_parts _ _ (and_parts _ _ h).0).1 in absurd (omega arith)

fits-promo : (board : Places) (c : Colour) (m : Move) → promotion_fits board c m ≡ true → Doubles board c m → is_none m.promo ≡ true
unfolding promotion_fits
fits-promo board c m fits d = no-promo board c m m.promo d.home d.apart fits

is-double : (p : Position) (m : Move) → legal_at p m ≡ true → pawn_doubles p.board p.turn m ≡ true → is_double_step p.turn m ≡ true
is-double p m legal doubled =
    let l = legality _ _ _ _ _ legal in
    let d = double-parts p.board p.turn m doubled in
    and_from _ _ (and_from _ _ (eq-eqb _ _ d.home) (eq-eqb _ _ (ahead-twice p.turn m.from m.to l.on_board d.home d.file_is d.apart))) (fits-promo p.board p.turn m l.promotion d)

pub double-theirs : (p q : Position) (m : Move) → legal_at p m ≡ true → Follows p m q → q.ep ≡ double_crossing p.board p.turn m → is_some q.ep ≡ true → is_of_other_side q.turn (Some m) ≡ true
double-theirs p q m legal f e h =
    let doubled : pawn_doubles p.board p.turn m ≡ true = test_cond _ (ahead p.turn m.from) (ap is_some (sym e) ∙ h) in
    ap (λ (c : Colour). is_double_step c m) (ap opponent f.turn_is ∙ opponent-twice p.turn) ∙ is-double p m legal doubled
