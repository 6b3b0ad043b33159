use Rattle.std.proofs.Common.{◌≡◌, ◌∷◌, List, false, map, sym, ap, ◌∙◌}
use Rattle.std.proofs.lemmas.Bool.{cond-false}
use Rattle.std.proofs.lemmas.List.Elements.{All-head, All-rest, All-same}
use Rattle.std.specs.List.{Contains, filter}
use Rattle.board_base.specs.declared.unmoves.Unmove.{Unmove}
use Rattle.query_base.specs.Asked.{Asked}
use Rattle.unmove_gen.specs.Listed.{unmoves}
use Rattle.line_claims.specs.Due.{excluded, is_other}
use Rattle.line_claims.proofs.parts.Siblings.next.Goals as goal

-- an unmove that isn't another of the step's move is passed over
passed : (q : Asked) (step u : Unmove) (old new : List Unmove) → old ≡ u ∷ new → is_other step u ≡ false → map (excluded q) (filter (is_other step) new) ≡ map (excluded q) (filter (is_other step) old)
passed q step u old new e fails =
    ap (map (excluded q)) (sym (cond-false (is_other step u) (u ∷ filter (is_other step) new) (filter (is_other step) new) fails) ∙ ap (filter (is_other step)) (sym e))

pub pred-requires : goal.pred-requires
pred-requires c =
    All-head (Contains (unmoves c.loop-u.self-inside.query)) c.in-Some.u c.next.new.self (All-same (Contains (unmoves c.loop-u.self-inside.query)) (c.in-Some.u ∷ c.next.new.self) c.loop-u.self-inside.left (sym c.in-Some.ensures) c.loop-u.invariant.listed)

pub invariant_of-self : goal.invariant_of-self
invariant_of-self c = All-rest (Contains (unmoves c.loop-u.self-inside.query)) c.in-Some.u c.next.new.self c.loop-u.self-inside.left c.in-Some.ensures c.loop-u.invariant.listed

pub loop-u-preserved : goal.loop-u-preserved
loop-u-preserved c = record {
  due = passed c.loop-u.self-inside.query c.loop-u.self-inside.step c.in-Some.u c.loop-u.self-inside.left c.next.new.self c.in-Some.ensures (sym c.is_other.ensures ∙ c.if-is_other.false) ∙ c.loop-u.invariant.due;
  listed = All-rest (Contains (unmoves c.loop-u.self-inside.query)) c.in-Some.u c.next.new.self c.loop-u.self-inside.left c.in-Some.ensures c.loop-u.invariant.listed;
}
