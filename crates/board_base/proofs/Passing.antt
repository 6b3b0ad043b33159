-- The squares of a capture en passant, and of the double step that it answers.
use Rattle.std.proofs.Common.{◌≡◌, ◌+◌, ◌-◌, ◌==◌, true, false, ap, arith}
use Rattle.std.proofs.lemmas.Bool.{and_parts, eqb-true, ne_eqb}
use Rattle.std.proofs.lemmas.Option.{cond_some}
use Rattle.std.specs.Prelude.{Some, None}
use Rattle.board_base.specs.Board.{file, rank}
use Rattle.board_base.specs.Attacks.{distance, files_apart, one_ahead}
use Rattle.board_base.specs.Play.{double_of, en_passant_rank, en_passant_victim}
use Rattle.board_base.specs.Parts.{double_step}
use Rattle.board_base.specs.declared.men.Colour.{Colour}
use Rattle.board_base.specs.declared.men.Colour.TheVariants.{White, Black}
use Rattle.board_base.specs.declared.moves.Move.{Move}
use Rattle.board_base.proofs.Equal.{none_is}

-- what is known of a move that may answer this double step
pub record MayPass (m : Move) (c : Colour) (d : Move) : Type 0 where
  pub rank_is : rank m.from ≡ en_passant_rank c
  pub ahead_is : one_ahead c m.from m.to ≡ true
  pub files : files_apart m.from m.to ≡ 1
  pub promo : m.promo ≡ None
  pub double : double_step m c ≡ d

pub may_pass : (m : Move) (c : Colour) (d : Move) → double_of m c ≡ Some d → MayPass m c d
may_pass m c d e =
    let parts = cond_some _ (double_step m c) d e in
    let p3 = and_parts _ _ parts.0 in
    let p2 = and_parts _ _ p3.0 in
    let p1 = and_parts _ _ p2.0 in
    record { rank_is = eqb-true (rank m.from) (en_passant_rank c) p1.0; ahead_is = p1.1; files = eqb-true (files_apart m.from m.to) 1 p2.1; promo = none_is m.promo p3.1; double = parts.1 }

victim-behind : (m d : Move) (c : Colour) → MayPass m c d → d.to ≡ en_passant_victim m
victim-behind m d White may =
    let up : rank m.to ≡ rank m.from + 1 = eqb-true _ _ may.ahead_is in
    let same : m.to - 8 ≡ d.to = ap (λ (x : Move). x.to) may.double in
    omega arith
victim-behind m d Black may =
    let down : rank m.from ≡ rank m.to + 1 = eqb-true _ _ may.ahead_is in
    let same : m.to + 8 ≡ d.to = ap (λ (x : Move). x.to) may.double in
    omega arith

-- the double step that a capture en passant answers ended where the captured pawn stands
pub double-en_passant_victim : (m d : Move) (c : Colour) → double_of m c ≡ Some d → d.to ≡ en_passant_victim m
double-en_passant_victim m d c e = victim-behind m d c (may_pass m c d e)

pub other-files : (m : Move) → files_apart m.from m.to ≡ 1 → (file m.from == file m.to) ≡ false
unfolding distance
other-files m e = ne_eqb (file m.from) (file m.to) (λ same. let n : file m.from ≡ file m.to = same in omega arith)
