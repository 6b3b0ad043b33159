use Rattle.std.proofs.Common.{◌≡◌, [], length, ℕ, Bool, List, ◌∷◌, ◌++◌, ◌+◌, sym, ◌∙◌, subst, arith}
use Rattle.std.proofs.lemmas.Bool.{eqb-true}
use Rattle.std.proofs.lemmas.List.{nil_from_length}
use Rattle.cert_text.specs.Lines.{cut}
use Rattle.cert_text.specs.Certificate.{Lines}
use Rattle.cert_checker.specs.Stages.{Rest}
use Rattle.cert_checker.specs.Staging.{IsPart, NoEnd}
use Rattle.cert_checker.proofs.Pieces.{ended_line, no_end_both, rest_long}
use Rattle.cert_checker.proofs.checkers.take_part.Goals as goal

pub returns-then-len-part-gt256-clause-rest : goal.returns-then-len-part-gt256-clause-rest
returns-then-len-part-gt256-clause-rest c = λ others a rest.
    rest_long (λ line past. c.no_long_lines.ensures.long line (omega (arith, past))) c.args.walk.now c.halt.new.self c.args.number.now c.args.gathered.now.items c.args.part.now c.args.gathered.now.items others c.args.ended a
    c.halt.ensures.low c.requires.no_end c.requires.part (omega (arith, c.len.ensures.value, c.if-len-part-gt256.true)) c.halt.ensures.halted rest

pub returns-then-is_empty-clause-rest : goal.returns-then-is_empty-clause-rest
returns-then-is_empty-clause-rest c = λ others a rest.
    let is = subst (λ (e : Bool). IsPart e c.args.part.now) c.if-ended.true c.requires.part in
    let none : c.args.gathered.now.items ≡ [] = nil_from_length c.args.gathered.now.items (eqb-true (length c.args.gathered.now.items) 0 (sym c.is_empty.ensures ∙ c.if-is_empty.true)) in
    rw none (subst (λ (lines : Lines). Rest c.args.walk.now c.args.number.now lines a) (sym (ended_line [] c.args.part.now others tt is)) (c.take.ensures (cut others) a (rw none at rest)))

pub returns-then-not-ended-clause-no_end : goal.returns-then-not-ended-clause-no_end
returns-then-not-ended-clause-no_end c =
    let plain = subst (λ (e : Bool). IsPart e c.args.part.now) c.if-not-ended.true c.requires.part in
    subst NoEnd (sym c.gather.ensures) (no_end_both c.args.gathered.now.items c.args.part.now c.requires.no_end plain)

pub returns-clause-rest : goal.returns-clause-rest
returns-clause-rest c = λ others a rest.
    let is = subst (λ (e : Bool). IsPart e c.args.part.now) c.if-not-ended.false c.requires.part in
    let later = subst (λ (g : List ℕ). Rest c.take-2.new.self (c.args.number.now + 1) (cut (g ++ others)) a) c.clear.ensures rest in
    let line = c.as_slice.ensures.value ∙ c.gather.ensures in
    subst (λ (lines : Lines). Rest c.args.walk.now c.args.number.now lines a) (sym (ended_line c.args.gathered.now.items c.args.part.now others c.requires.no_end is))
    (subst (λ (l : List ℕ). Rest c.args.walk.now c.args.number.now (l ∷ cut others) a) line (c.take-2.ensures (cut others) a later))
