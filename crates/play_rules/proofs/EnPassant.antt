-- The last move matters to legality by the square that a double step crossed, and by nothing else.
use Rattle.std.proofs.Common.{◌≡◌, ℕ, ◌+◌, ◌==◌, Bool, true, false, ◌&&◌, inl, inr, refl, ap, sym, ◌∙◌, subst, arith}
use Rattle.std.proofs.lemmas.Bool.{and_parts, and_from, eqb-true, eq-eqb, cases_Bool, cond-true, cond-false, both_ways, false_from_ne_true}
use Rattle.std.proofs.lemmas.Option.{cond_some}
use Rattle.std.specs.Prelude.{Option, Some, None}
use Rattle.board_base.specs.Board.{Places, at, is_a, is_the, is_empty, opponent, rank}
use Rattle.board_base.specs.Attacks.{distance, ranks_apart, one_ahead}
use Rattle.board_base.specs.Play.{ahead, behind, double_of, en_passant_rank}
use Rattle.board_base.specs.Parts.{double_step}
use Rattle.board_base.specs.Legal.{is_move, pawn_captures_en_passant}
use Rattle.board_base.specs.declared.men.Colour.{Colour}
use Rattle.board_base.specs.declared.men.Colour.TheVariants.{White, Black}
use Rattle.board_base.specs.declared.men.Kind.TheVariants.{Pawn}
use Rattle.board_base.specs.declared.moves.Move.{Move}
use Rattle.board_base.proofs.Equal.{moves_equal}
use Rattle.play_rules.specs.States.{crossed_by, crossing_rank, step_over}

-- what is known of a last move that was a pawn's double step; c is to move
pub record FitsDouble (c : Colour) (l : Move) : Type 0 where
  pub from : l.from ≡ ahead c (ahead c l.to)
  pub rank_is : rank (ahead c l.to) ≡ crossing_rank c
  pub promo : l.promo ≡ None
  pub back : behind c (ahead c l.to) ≡ l.to

abbrev pub FitsLast : Places → Colour → Move → Type 0
FitsLast board c l = (is_a Pawn (at board l.to) && (ranks_apart l.from l.to == 2)) ≡ true → FitsDouble c l

same_move : (c : Colour) (l : Move) → FitsDouble c l → step_over (Some (ahead c l.to)) c ≡ Some l
same_move c l fits =
    cond-true _ (Some (record { from = ahead c (ahead c l.to); to = behind c (ahead c l.to); promo = None })) None (eq-eqb _ _ fits.rank_is)
    ∙ ap Some (moves_equal _ l (sym fits.from) fits.back (sym fits.promo))

-- a capture en passant answers a double step of two ranks
step-apart : (m : Move) (c : Colour) → (rank m.from == en_passant_rank c) ≡ true → one_ahead c m.from m.to ≡ true → ranks_apart (double_step m c).from (double_step m c).to ≡ 2
unfolding distance
step-apart m White r up =
    let e1 : rank m.from ≡ 4 = eqb-true _ _ r in
    let e2 : rank m.to ≡ rank m.from + 1 = eqb-true _ _ up in
    omega arith
step-apart m Black r up =
    let e1 : rank m.from ≡ 3 = eqb-true _ _ r in
    let e2 : rank m.from ≡ rank m.to + 1 = eqb-true _ _ up in
    omega arith

no_other : (board : Places) (c : Colour) (l d : Move) → ranks_apart d.from d.to ≡ 2 → (is_a Pawn (at board l.to) && (ranks_apart l.from l.to == 2)) ≡ false → (is_move (Some l) d && is_the (opponent c) Pawn (at board d.to)) ≡ false
no_other board c l d two other = false_from_ne_true _ (λ both.
    let parts = and_parts _ _ both in
    let ends = and_parts _ _ (and_parts _ _ parts.0).0 in
    let f : l.from ≡ d.from = eqb-true _ _ ends.0 in
    let t : l.to ≡ d.to = eqb-true _ _ ends.1 in
    let pawn : is_a Pawn (at board l.to) ≡ true = ap (λ (n : ℕ). is_a Pawn (at board n)) t ∙ (and_parts _ _ parts.1).1 in
    let apart : ranks_apart l.from l.to ≡ 2 = ap (λ (n : ℕ). ranks_apart n l.to) f ∙ ap (ranks_apart d.from) t ∙ two in
    both_ways _ other (and_from _ _ pawn (eq-eqb _ 2 apart)))

-- either way it is the same move that is asked for
last-same : (board : Places) (c : Colour) (last : Option Move) (d : Move) → ((l : Move) → last ≡ Some l → FitsLast board c l) → ranks_apart d.from d.to ≡ 2 → (is_move (step_over (crossed_by board c last) c) d && is_the (opponent c) Pawn (at board d.to)) ≡ (is_move last d && is_the (opponent c) Pawn (at board d.to))
last-same board c None d fits two = refl
last-same board c (Some l) d fits two = elim (cases_Bool (is_a Pawn (at board l.to) && (ranks_apart l.from l.to == 2))) [
  | inl double ↦ ap (λ (o : Option Move). is_move o d && is_the (opponent c) Pawn (at board d.to))
      (ap (λ (o : Option ℕ). step_over o c) (cond-true _ (Some (ahead c l.to)) None double) ∙ same_move c l (fits l refl double))
  | inr other ↦ ap (λ (o : Option Move). is_move o d && is_the (opponent c) Pawn (at board d.to)) (ap (λ (o : Option ℕ). step_over o c) (cond-false _ (Some (ahead c l.to)) None other))
      ∙ sym (no_other board c l d two other)
]

en_passant-from : (board : Places) (c : Colour) (last : Option Move) (m : Move) (o : Option Move) → ((l : Move) → last ≡ Some l → FitsLast board c l) → double_of m c ≡ o → elim o as (λ _. Bool) [ None ↦ false | Some d ↦ is_move (step_over (crossed_by board c last) c) d && is_the (opponent c) Pawn (at board d.to) ] ≡ elim o as (λ _. Bool) [ None ↦ false | Some d ↦ is_move last d && is_the (opponent c) Pawn (at board d.to) ]
en_passant-from board c last m None fits e = refl
en_passant-from board c last m (Some d) fits e =
    let parts = cond_some _ (double_step m c) d e in
    let p2 = and_parts _ _ (and_parts _ _ parts.0).0 in
    let p1 = and_parts _ _ p2.0 in
    last-same board c last d fits (subst (λ (x : Move). ranks_apart x.from x.to ≡ 2) parts.1 (step-apart m c p1.0 p1.1))

-- a capture en passant is judged by the crossed square as by the last move
pub en_passant-same : (board : Places) (c : Colour) (last : Option Move) (m : Move) → ((l : Move) → last ≡ Some l → FitsLast board c l) → pawn_captures_en_passant board c (step_over (crossed_by board c last) c) m ≡ pawn_captures_en_passant board c last m
unfolding pawn_captures_en_passant
en_passant-same board c last m fits = ap (λ (b : Bool). is_a Pawn (at board m.from) && is_empty (at board m.to) && b) (en_passant-from board c last m (double_of m c) fits refl)
