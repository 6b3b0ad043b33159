use Rattle.std.proofs.Common.{◌≡◌, ◌+◌, ◌-◌, Bool, true, false, cond, refl, sym, ◌∙◌, subst, arith}
use Rattle.std.proofs.lemmas.Bool.{and_from, eq-eqb, eqb-true}
use Rattle.std.specs.Prelude.{Option, Some, None, IsTrue}
use Rattle.board_base.specs.Board.{rank}
use Rattle.board_base.specs.Play.{double_of}
use Rattle.board_base.specs.declared.men.Colour.{Colour}
use Rattle.board_base.specs.declared.men.Colour.TheVariants.{White, Black}
use Rattle.board_base.specs.declared.moves.Move.{Move}
use Rattle.board_base.specs.declared.unmoves.Unmove.{Unmove}
use Rattle.board_base.proofs.Passing.{MayPass, may_pass}
use Rattle.query_base.specs.Asked.{is_of_other_side}
use Rattle.unmove_gen.specs.Listed.{answered}
use Rattle.unmove_gen.proofs.predecessors.pred.Goals as goal

passed : (m d : Move) (c : Colour) → MayPass m c d → is_of_other_side c (Some d) ≡ true
passed m d White may =
    let up : rank m.to ≡ rank m.from + 1 = eqb-true _ _ may.ahead_is in
    let home : rank m.from ≡ 4 = may.rank_is in
    subst (λ (x : Move). is_of_other_side White (Some x) ≡ true) may.double (and_from _ _ (and_from _ _ (eq-eqb (rank (m.to + 8)) 6 (omega arith)) (eq-eqb (m.to - 8) (m.to + 8 - 8 - 8) (omega arith))) refl)
passed m d Black may =
    let down : rank m.from ≡ rank m.to + 1 = eqb-true _ _ may.ahead_is in
    let home : rank m.from ≡ 3 = may.rank_is in
    subst (λ (x : Move). is_of_other_side Black (Some x) ≡ true) may.double (and_from _ _ (and_from _ _ (eq-eqb (rank (m.to - 8)) 1 (omega arith)) (eq-eqb (m.to + 8) (m.to - 8 + 8 + 8) (omega arith))) refl)

passes : (m : Move) (c : Colour) (o : Option Move) → double_of m c ≡ o → is_of_other_side c o ≡ true
passes m c None e = refl
passes m c (Some d) e = passed m d c (may_pass m c d e)

-- the double step that an unmove answered is one of the other side
of-other : (u : Unmove) (c : Colour) (ep : Bool) → is_of_other_side c (cond ep (double_of u.mv c) None) ≡ true
of-other u c true = passes u.mv c (double_of u.mv c) refl
of-other u c false = refl

pub invariant_of-result : goal.invariant_of-result
invariant_of-result c = (
  subst (λ (o : Option Move). IsTrue (is_of_other_side c.other.result o)) (sym c.answered.ensures)
      (subst (λ (d : Colour). IsTrue (is_of_other_side c.other.result (answered c.args.u.now d))) (c.other.ensures ∙ sym c.other-2.ensures) (of-other c.args.u.now c.other.result c.args.u.now.ep)),
  c.clock_before.ensures.short,
)
